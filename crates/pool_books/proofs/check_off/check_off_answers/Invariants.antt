use Rattle.std.proofs.Common.{◌++◌, take}
use Rattle.std.specs.Prelude.{IsPermutation}
use Rattle.std.specs.HashMap.{keys}
use Rattle.pool_books.specs.Cleared.{joined, lists_of, answered_tickets}
use Rattle.pool_books.proofs.check_off.check_off_answers.Given as goal

abbrev pub invariant-loop-list : goal.invariant-loop-list
invariant-loop-list l = IsPermutation (keys l.initial.index) (answered_tickets (joined (take l.list-index (lists_of l.answers))) ++ keys l.index)
