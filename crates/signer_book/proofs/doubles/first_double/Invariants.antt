use Rattle.std.proofs.Common.{take}
use Rattle.signer_book.specs.Close.{HasPlace}
use Rattle.signer_book.specs.Doubles.{AreOwners}
use Rattle.signer_book.proofs.doubles.first_double.Given as goal

abbrev pub invariant-loop-number : goal.invariant-loop-number
invariant-loop-number g l = AreOwners (HasPlace (take l.number l.passes)) l.owners l.lowest
