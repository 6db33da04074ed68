use Rattle.std.proofs.Common.{◌++◌, take}
use Rattle.std.specs.Prelude.{IsPermutation}
use Rattle.std.specs.HashMap.{keys}
use Rattle.pool_books.specs.Cleared.{answered_tickets}
use Rattle.pool_books.proofs.check_off.check_off_list.Given as goal

abbrev pub invariant-loop-answer : goal.invariant-loop-answer
invariant-loop-answer l = IsPermutation (keys l.initial.index) (answered_tickets (take l.answer-index l.answers) ++ keys l.index)
