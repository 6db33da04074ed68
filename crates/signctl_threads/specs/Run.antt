-- What a run of a queue gives, by how it ended.
use Rattle.std.specs.Prelude.{◌≡◌, ℕ, List, []}
use Rattle.desk_parts.specs.Tables.{setup_of}
use Rattle.sign_desk.specs.DeskState.{DeskState, Represents}
use Rattle.signctl_format.specs.Policy.{script_policy}
use Rattle.signctl_format.specs.declared.credential.ScriptCredential.{ScriptCredential}
use Rattle.signctl_format.specs.declared.credential.ScriptRule.{ScriptRule}
use Rattle.signer_book.specs.Close.{IsCloseCause}
use Rattle.signer_book.specs.declared.settled.CloseRefused.{CloseRefused}
use Rattle.signer_shared.specs.Gates.{GateMeaning}
use Rattle.pool_books.specs.Cleared.{lists_of}
use Rattle.pool_books.specs.Finished.{HasGoodAnswers, IsClearedPool, IsFinishCause}
use Rattle.pool_books.specs.declared.answer.Answer.{Answer}
use Rattle.pool_books.specs.declared.finished.FinishCause.{FinishCause}
use Rattle.pool_books.specs.declared.finished.Finished.{Finished}
use Rattle.sign_pool.specs.Finish.{IsClosed}
use Rattle.pool_jobs.specs.Setup.{pool_setup}
use Rattle.signctl_threads.specs.Served.{AreSubmitted, ServesQueue}
use Rattle.signctl_threads.specs.declared.refused.QueueRefused.{QueueRefused}
use Rattle.signctl_threads.specs.declared.refused.QueueRefused.TheVariants as refused

module _ (gate : GateMeaning ScriptCredential) (workers jobs : ℕ) where
  -- the signer is closed behind so many workers, who served so many jobs; and as many were submitted
  pub record IsClosedQueue (finished : Finished ScriptCredential ScriptRule) : Type 0 where
    pub plan : DeskState ScriptCredential ScriptRule
    pub setup : setup_of plan ≡ pool_setup workers
    pub closed : IsClosed script_policy plan finished
    pub serves : ServesQueue gate workers jobs finished.settled.passes.items (lists_of finished.answers.items)
    pub submitted : AreSubmitted jobs (lists_of finished.submitted.items)

  -- the books balance: the pool is cleared, each answer is true and none is `NotNow`, and no job is left
  pub record IsFinishedQueue (finished : Finished ScriptCredential ScriptRule) : Type 0 where
    pub closed : IsClosedQueue finished
    pub cleared : IsClearedPool finished
    pub answers : HasGoodAnswers finished
    pub none_left : finished.left.items ≡ []

  -- the books do not balance, for this cause
  abbrev pub IsUnclearedQueue : Finished ScriptCredential ScriptRule → FinishCause → Type 0
  IsUnclearedQueue finished why = IsClosedQueue finished × IsFinishCause finished why

  -- the signer is not closed, for its first cause, with the passes of so many
  -- workers, who served so many jobs
  pub record IsUnclosedQueue (close : CloseRefused ScriptCredential ScriptRule) : Type 0 where
    pub setup : setup_of close.plan ≡ pool_setup workers
    pub book : Represents script_policy close.book.desk close.book.journal
    pub cause : IsCloseCause close.plan close.book close.passes.items close.why
    pub serves : (answers : List (List Answer)) × ServesQueue gate workers jobs close.passes.items answers

  -- what is handed out where a queue was not finished
  abbrev pub IsRefusedQueue : QueueRefused → Type 0
  IsRefusedQueue refused.OutOfMemory = Unit {0}
  IsRefusedQueue (refused.Close close) = IsUnclosedQueue close
  IsRefusedQueue (refused.Uncleared finished why) = IsUnclearedQueue finished why
