use Rattle.std.proofs.Common.{arith}
use Rattle.signer_book.specs.Settled.{IsEntryOf}
use Rattle.signer_book.proofs.Receipts.{all-more, all-end}
use Rattle.signer_book.proofs.comparisons.difference_in.Goals as goal

pub loop-at-preserved : goal.loop-at-preserved
loop-at-preserved g c =
    all-more c.args.receipts.now (IsEntryOf c.args.journal.now) c.loop-at.at c.index-receipts-at.result (omega arith)
    c.index-receipts-at.is c.loop-at.invariant c.if-not-is_entry_of.ensures

pub returns : goal.returns
returns g c = all-end c.args.receipts.now (IsEntryOf c.args.journal.now) c.loop-at.at (omega arith) c.loop-at.invariant
