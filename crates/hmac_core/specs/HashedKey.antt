-- A key of HMAC-SHA256 whose masked blocks are hashed already.
use Rattle.std.specs.Prelude.{ℕ, List}
use Rattle.sha2.specs.Hashers.{Holds256}
use Rattle.sha2.specs.Sha256.{sha256}
use Rattle.sha2.specs.declared.Sha256.{Sha256}
use Rattle.hmac_core.specs.Hmac.{key_block, masked_block, inner_mask, outer_mask}

-- one hasher holds the key's block under the inner mask, and the other the block under the outer mask
pub record IsHashedKey (key : List ℕ) (inner outer : Sha256) : Type 0 where
  pub inner_block : Holds256 inner (masked_block inner_mask (key_block sha256 key))
  pub outer_block : Holds256 outer (masked_block outer_mask (key_block sha256 key))
