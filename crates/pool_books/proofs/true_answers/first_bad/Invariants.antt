use Rattle.std.proofs.Common.{take}
use Rattle.pool_books.specs.Cleared.{lists_of}
use Rattle.pool_books.specs.TrueAnswers.{AreGoodAnswers}
use Rattle.pool_books.proofs.true_answers.first_bad.Given as goal

abbrev pub invariant-loop-worker : goal.invariant-loop-worker
invariant-loop-worker g l = AreGoodAnswers l.journal (take l.worker l.passes) (take l.worker (lists_of l.answers))
