use Rattle.std.proofs.Common.{arith}
use Rattle.sha1.specs.Sha1.{sha1}
use Rattle.sha2.specs.Sha256.{sha256}
use Rattle.sha2.proofs.Facts256.{length-sha256}
use Rattle.hmac_core.proofs.HashLengths.{length-sha1}
use Rattle.hmac_core.proofs.LongKeys.{hashes_long_keys}
use Rattle.hmac_core.proofs.laws.long_keys_are_hashed.Goals as goal

pub returns : goal.returns
returns c = record {
  sha1 = hashes_long_keys sha1 (λ m. let n = length-sha1 m in omega (arith, n));
  sha256 = hashes_long_keys sha256 (λ m. let n = length-sha256 m in omega (arith, n));
}
