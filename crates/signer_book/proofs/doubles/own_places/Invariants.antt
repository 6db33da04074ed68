use Rattle.std.proofs.Common.{◌≡◌, List, [], ◌∷◌, ◌++◌, length, take}
use Rattle.signer_book.specs.Close.{HasPlace}
use Rattle.signer_book.specs.Doubles.{AreOwners}
use Rattle.signer_book.specs.declared.pass.Receipt.{Receipt}
use Rattle.signer_book.proofs.doubles.own_places.Given as goal

abbrev pub invariant-loop-receipt : goal.invariant-loop-receipt
invariant-loop-receipt g l = (passes : List (List (Receipt g.row.K.Denot))) → length passes ≡ l.fn.number
    → AreOwners (HasPlace passes) l.initial.owners l.fn.before → AreOwners (HasPlace (passes ++ take l.receipt-index l.receipts ∷ [])) l.owners l.lowest
