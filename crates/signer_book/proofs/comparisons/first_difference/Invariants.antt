use Rattle.std.proofs.Common.{take}
use Rattle.signer_book.specs.Settled.{AreEntriesOf}
use Rattle.signer_book.proofs.comparisons.first_difference.Given as goal

abbrev pub invariant-loop-number : goal.invariant-loop-number
invariant-loop-number g l = AreEntriesOf l.journal (take l.number l.passes)
