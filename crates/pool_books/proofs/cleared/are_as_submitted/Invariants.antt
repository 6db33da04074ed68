use Rattle.std.proofs.Common.{take}
use Rattle.std.specs.Prelude.{All, Contains}
use Rattle.pool_books.specs.Cleared.{joined, lists_of}
use Rattle.pool_books.proofs.cleared.are_as_submitted.Given as goal

abbrev pub invariant-loop-job : goal.invariant-loop-job
invariant-loop-job l = All (Contains (joined (lists_of l.submitted))) (take l.job-index l.left)
