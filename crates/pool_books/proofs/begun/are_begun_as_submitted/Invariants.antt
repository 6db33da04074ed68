use Rattle.std.proofs.Common.{take}
use Rattle.std.specs.Prelude.{All}
use Rattle.pool_books.specs.Cleared.{joined, lists_of}
use Rattle.pool_books.specs.Index.{IsBegunJob}
use Rattle.pool_books.proofs.begun.are_begun_as_submitted.Given as goal

abbrev pub invariant-loop-list : goal.invariant-loop-list
invariant-loop-list g l = All (IsBegunJob (joined (lists_of l.submitted)) l.journal) (joined (take l.list-index (lists_of l.answers)))
