use Rattle.std.proofs.Common.{◌++◌, take}
use Rattle.std.specs.Prelude.{IsPermutation}
use Rattle.std.specs.HashMap.{keys}
use Rattle.pool_books.specs.Cleared.{tickets_of}
use Rattle.pool_books.proofs.check_off.check_off_left.Given as goal

abbrev pub invariant-loop-job : goal.invariant-loop-job
invariant-loop-job l = IsPermutation (keys l.initial.index) (tickets_of (take l.job-index l.left) ++ keys l.index)
