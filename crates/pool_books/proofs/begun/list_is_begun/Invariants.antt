use Rattle.std.proofs.Common.{take}
use Rattle.std.specs.Prelude.{All}
use Rattle.pool_books.specs.Cleared.{joined, lists_of}
use Rattle.pool_books.specs.Index.{IsBegunJob}
use Rattle.pool_books.proofs.begun.list_is_begun.Given as goal

abbrev pub invariant-loop-answer : goal.invariant-loop-answer
invariant-loop-answer g l = All (IsBegunJob (joined (lists_of l.submitted)) l.journal) (take l.answer-index l.answers)
