use Rattle.std.proofs.Common.{slice_index_or, arith}
use Rattle.std.proofs.lemmas.List.{take_more}
use Rattle.sigv4_presign.proofs.SameBits.{same-more}
use Rattle.sigv4_presign.proofs.same_signature.difference.Goals as goal

pub loop-i-preserved : goal.loop-i-preserved
loop-i-preserved c =
    let claimed = c.args.claimed.now in
    let signature = c.args.signature.now in
    same-more c.loop-i.i c.loop-i.difference (slice_index_or claimed c.loop-i.i 0) (slice_index_or signature c.loop-i.i 0) claimed signature c.loop-i.invariant
    (take_more claimed c.loop-i.i 0 c.loop-i-test.true) (take_more signature c.loop-i.i 0 (omega (arith, c.requires, c.loop-i-test.true)))
