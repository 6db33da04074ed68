use Rattle.std.proofs.Common.{take}
use Rattle.signer_book.specs.Settled.{AreRising}
use Rattle.signer_book.proofs.comparisons.first_fall.Given as goal

abbrev pub invariant-loop-number : goal.invariant-loop-number
invariant-loop-number g l = AreRising (take l.number l.passes)
