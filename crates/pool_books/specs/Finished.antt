-- What is found of a pool that is finished, and why its books do not balance.
use Rattle.sequential_signer.specs.Policy.{Policy}
use Rattle.desk_parts.specs.Tables.{setup_of}
use Rattle.pool_books.specs.Cleared.{joined, lists_of, IsCleared}
use Rattle.pool_books.specs.Laws.{HaveExpectedHeads}
use Rattle.pool_books.specs.TrueAnswers.{AreGoodAnswers, IsFirstBad}
use Rattle.pool_books.specs.declared.finished.FinishCause.{FinishCause}
use Rattle.pool_books.specs.declared.finished.FinishCause.TheVariants as cause
use Rattle.pool_books.specs.declared.finished.Finished.{Finished}

-- the pool is cleared
abbrev pub IsClearedPool : {K D : Type 0} → Finished K D → Type 0
IsClearedPool finished =
    IsCleared finished.settled.journal.items (joined (lists_of finished.answers.items)) finished.left.items
    (joined (lists_of finished.submitted.items))

-- each answer is true, and none is `NotNow`
abbrev pub HasGoodAnswers : {K D : Type 0} → Finished K D → Type 0
HasGoodAnswers finished =
    AreGoodAnswers finished.settled.journal.items finished.settled.passes.items
    (lists_of finished.answers.items)

-- each head of an answer that says `Done` is the sequential signer's, for what was submitted
abbrev pub HasExpectedHeads : {K D : Type 0} → Policy K D → Finished K D → Type 0
HasExpectedHeads policy finished =
    HaveExpectedHeads policy (setup_of finished.settled.desk) finished.settled.journal.items
    finished.settled.passes.items (lists_of finished.answers.items)
    (joined (lists_of finished.submitted.items))

-- the cause for which a pool is not finished, and none of those before it
abbrev pub IsFinishCause : {K D : Type 0} → Finished K D → FinishCause → Type 0
IsFinishCause finished cause.Jobs = IsClearedPool finished → ⊥
IsFinishCause finished (cause.Untrue worker at) =
    IsClearedPool finished
    × IsFirstBad finished.settled.journal.items finished.settled.passes.items
    (lists_of finished.answers.items) worker at
