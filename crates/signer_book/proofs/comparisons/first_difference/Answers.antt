use Rattle.std.proofs.Common.{List, All, arith, subst}
use Rattle.signer_book.specs.Settled.{IsEntryOf}
use Rattle.signer_book.specs.declared.pass.Receipt.{Receipt}
use Rattle.signer_book.proofs.Receipts.{all-more, all-end}
use Rattle.signer_book.proofs.comparisons.first_difference.Goals as goal

pub loop-number-preserved : goal.loop-number-preserved
loop-number-preserved g c =
    let P : List (Receipt g.row.K.Denot) → Type 0 = λ receipts. All (IsEntryOf c.args.journal.now) receipts in
    all-more c.args.passes.now P c.loop-number.number c.index-passes-number.result (omega arith)
    c.index-passes-number.is c.loop-number.invariant (subst P c.receipts-receipts.ensures c.in_default.ensures)

pub returns : goal.returns
returns g c = all-end c.args.passes.now (All (IsEntryOf c.args.journal.now)) c.loop-number.number (omega arith) c.loop-number.invariant
