use Rattle.std.specs.Prelude.{bit_xor}
use Rattle.hmac_core.proofs.Masking.{masking_more}
use Rattle.hmac_core.proofs.hmac.mask_each.Goals as goal

pub loop-byte-preserved : goal.loop-byte-preserved
loop-byte-preserved c =
    masking_more (bit_xor c.args.mask) c.args.bytes.now c.loop-byte.byte-items c.loop-byte.byte-index c.loop-byte-test.true c.loop-byte.invariant
