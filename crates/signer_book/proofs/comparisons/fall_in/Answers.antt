use Rattle.std.proofs.Common.{arith}
use Rattle.signer_book.proofs.Receipts.{rises-more}
use Rattle.signer_book.proofs.comparisons.fall_in.Goals as goal

pub loop-at-preserved : goal.loop-at-preserved
loop-at-preserved g c =
    rises-more c.args.receipts.now c.loop-at.at c.index-receipts-at-in-loop-at.result c.index-receipts-at.result (omega arith) (omega arith) c.if-receipts-at.false c.loop-at.invariant
