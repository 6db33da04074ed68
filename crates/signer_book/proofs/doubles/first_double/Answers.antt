use Rattle.std.proofs.Common.{◌≡◌, ◌∙◌, ◌+◌, ◌++◌, ◌∷◌, [], List, ap, arith, subst, sym, take}
use Rattle.std.proofs.lemmas.List.{take_all, take_more, length-take}
use Rattle.signer_book.specs.Close.{HasPlace}
use Rattle.signer_book.specs.Doubles.{AreOwners, IsLowest}
use Rattle.signer_book.specs.declared.pass.Receipt.{Receipt}
use Rattle.signer_book.proofs.Marks.{marks-show}
use Rattle.signer_book.proofs.doubles.first_double.Goals as goal

pub returns : goal.returns
returns g c =
    let P : List (List (Receipt g.row.K.Denot)) → Type 0 = λ passes. IsLowest (HasPlace passes) c.loop-number.lowest in
    marks-show c.args.passes.now c.loop-number.lowest c.requires.rising
    (subst P (take_all c.loop-number.number c.args.passes.now (omega arith)) c.loop-number.invariant.lowest)

pub loop-number-preserved : goal.loop-number-preserved
loop-number-preserved g c =
    let at = c.loop-number.number in
    let pass = c.index-passes-number.result in
    let P : List (List (Receipt g.row.K.Denot)) → Type 0 = λ passes. AreOwners (HasPlace passes) c.own_places-lowest.new.owners c.own_places-lowest.result in
    let taken : take (at + 1) c.args.passes.now ≡ take at c.args.passes.now ++ pass ∷ [] = take_more c.args.passes.now at pass c.loop-number-test.true ∙ ap (λ p. take at c.args.passes.now ++ p ∷ []) (sym c.index-passes-number.is) in
    subst P (ap (λ p. take at c.args.passes.now ++ p ∷ []) c.receipts.ensures ∙ sym taken)
    (c.own_places-lowest.ensures (take at c.args.passes.now) (omega (arith, length-take at c.args.passes.now)) c.loop-number.invariant)
