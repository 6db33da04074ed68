use Rattle.std.proofs.Common.{◌++◌, ◌∷◌, [], List, arith, refl, subst}
use Rattle.std.proofs.lemmas.List.{take_all}
use Rattle.signer_book.specs.Close.{HasPlace}
use Rattle.signer_book.specs.Doubles.{AreOwners}
use Rattle.signer_book.specs.declared.pass.Receipt.{Receipt}
use Rattle.signer_book.proofs.Marks.{marks-begin, step-new, step-stay}
use Rattle.signer_book.proofs.doubles.own_places.Goals as goal
use Rattle.signer_book.proofs.doubles.own_places.Goals.{then-owner, else-owner}

pub loop-receipt-init : goal.loop-receipt-init
loop-receipt-init g c = λ passes n had. marks-begin passes c.args.owners.now c.args.before had

pub loop-receipt-preserved : goal.loop-receipt-preserved
loop-receipt-preserved g c = λ passes n had.
    elim c.if-owner.branch [
      | then-owner w ↦
          step-new passes c.args.number _ n (omega arith) c.args.receipts.now c.loop-receipt.receipt-index c.receipt-item.result (omega arith) c.receipt-item.is c.requires.within
          c.loop-receipt.owners c.loop-receipt.lowest c.loop-receipt.auto.owners (c.loop-receipt.invariant passes n had) c.if-owner.owners c.if-owner.lowest w.owners-is w.lowest-is w.if-owner.true
      | else-owner w ↦
          step-stay passes c.args.number _ n (omega arith) c.args.receipts.now c.loop-receipt.receipt-index c.receipt-item.result (omega arith) c.receipt-item.is c.requires.within
          c.loop-receipt.owners c.loop-receipt.lowest c.loop-receipt.auto.owners (c.loop-receipt.invariant passes n had) _ c.if-owner.owners c.if-owner.lowest w.lower.result c.requires.rising
          refl w.if-owner.false w.owners-is w.lowest-is w.lower.ensures
    ]

pub returns : goal.returns
returns g c = λ passes n had.
    let P : List (Receipt g.row.K.Denot) → Type 0 = λ receipts. AreOwners (HasPlace (passes ++ receipts ∷ [])) c.loop-receipt.owners c.loop-receipt.lowest in
    subst P (take_all c.loop-receipt.receipt-index c.args.receipts.now (omega arith)) (c.loop-receipt.invariant passes n had)
