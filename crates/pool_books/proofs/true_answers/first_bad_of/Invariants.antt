use Rattle.std.proofs.Common.{take}
use Rattle.std.specs.Prelude.{All}
use Rattle.pool_books.specs.TrueAnswers.{IsGoodAnswer}
use Rattle.pool_books.proofs.true_answers.first_bad_of.Given as goal

abbrev pub invariant-loop-at : goal.invariant-loop-at
invariant-loop-at g l = All (IsGoodAnswer l.journal l.pass) (take l.at l.answers)
