-- What finishing a pool gives, and why it is refused.
use Rattle.std.specs.Prelude.{◌≡◌, ◌≢◌, ◌⊎◌, ℕ, List, map, length, All, IsTrue}
use Rattle.std.specs.Global.{Vec}
use Rattle.sequential_signer.specs.declared.credential.SigningCredential.{Ghosts}
use Rattle.sequential_signer.specs.declared.rule.DeadlineRule.{Ghosts as RuleGhosts}
use Rattle.sign_base.specs.Calls.{is_among}
use Rattle.sequential_signer.specs.Policy.{Policy}
use Rattle.sequential_signer.specs.Transcript.{call_of}
use Rattle.desk_parts.specs.Tables.{setup_of}
use Rattle.sign_desk.specs.DeskState.{DeskState, Represents}
use Rattle.signer_book.specs.Settled.{IsSettled}
use Rattle.signer_book.specs.declared.pass.Receipt.{Receipt}
use Rattle.signer_book.specs.declared.settled.CloseRefused.{CloseRefused}
use Rattle.pool_books.specs.Cleared.{joined, lists_of}
use Rattle.pool_books.specs.declared.answer.Answer.{Answer}
use Rattle.pool_books.specs.declared.finished.FinishCause.{FinishCause}
use Rattle.pool_books.specs.declared.finished.Finished.{Finished}
use Rattle.pool_books.specs.declared.job.PoolJob.{PoolJob}
use Rattle.sign_pool.specs.Calls.{calls_of}
use Rattle.sign_pool.specs.declared.refused.FinishError.{FinishError}
use Rattle.sign_pool.specs.declared.refused.FinishError.TheVariants as early
use Rattle.sign_pool.specs.declared.refused.FinishRefused.{FinishRefused}
use Rattle.sign_pool.specs.declared.refused.FinishRefused.TheVariants as refused
use Rattle.sign_pool.specs.declared.pool.Pool.{Pool}
use Rattle.sign_pool.specs.declared.seats.Submitter.{Submitter}
use Rattle.sign_pool.specs.declared.seats.Worker.{Worker}

-- as many seats are handed in as were made
pub record HasAllSeats {K : Type 0} (made_submitters made_workers : ℕ) (submitters : List Submitter)
    (workers : List (Worker K)) : Type 0 where
  pub all_submitters : length submitters ≡ made_submitters
  pub all_workers : length workers ≡ made_workers

-- why nothing was finished: seats are missing, or an allocation failed
abbrev pub IsFinishError : {K : Type 0} → ℕ → ℕ → List Submitter → List (Worker K) → FinishError → Type 0
IsFinishError made_submitters made_workers submitters workers (early.Seats named_submitters named_workers) =
    (named_submitters ≡ made_submitters) × (named_workers ≡ made_workers)
    × ((length submitters ≢ made_submitters) ⊎ (length workers ≢ made_workers))
IsFinishError made_submitters made_workers submitters workers early.OutOfMemory =
    HasAllSeats made_submitters made_workers submitters workers

-- what the seats had, in their order
pub record HandsOut {K : Type 0} (submitters : List Submitter) (workers : List (Worker K))
    (passes : List (List (Receipt K))) (answers : List (Vec Answer))
    (submitted : List (Vec PoolJob)) : Type 0 where
  pub passes_are : passes ≡ map (λ w. w.pass) workers
  pub answers_are : answers ≡ map (λ w. w.answers) workers
  pub submitted_are : submitted ≡ map (λ s. s.jobs) submitters

-- each entry of the journal is about a call of these answers
abbrev pub HasOnlyCallsOf : {K D : Type 0} → Finished K D → Type 0
HasOnlyCallsOf finished =
    All (λ e. IsTrue (is_among (call_of e.event) (calls_of (joined (lists_of finished.answers.items)))))
    finished.settled.journal.items

-- The signer is closed: its journal is the steps of the workers' passes and no others, it is a legal history
-- of the plan's setup, and it has the calls of answers alone.
pub record IsClosed {K D : Type 0} (policy : Policy K D) (plan : DeskState K D)
    (finished : Finished K D) : Type 0 where
  pub settled : IsSettled finished.settled.journal.items finished.settled.passes.items
  pub setup : setup_of finished.settled.desk ≡ setup_of plan
  pub represents : Represents policy finished.settled.desk finished.settled.journal.items
  pub calls : HasOnlyCallsOf finished

-- a fact of what is handed back where nothing was finished
abbrev pub OnEarly : {K D : Type 0} {k : Ghosts K} {d : RuleGhosts D K} → FinishRefused K D k d
    → (Pool K D k d → Vec Submitter → Vec (Worker K) → FinishError → Type 0) → Type 0
OnEarly (refused.Early pool submitters workers why) P = P pool submitters workers why
OnEarly _ P = Unit {0}

-- a fact of what is handed out where the signer was not closed
abbrev pub OnNotClosed : {K D : Type 0} {k : Ghosts K} {d : RuleGhosts D K} → FinishRefused K D k d
    → (CloseRefused K D → Vec (Vec Answer) → Vec PoolJob → Vec (Vec PoolJob) → Type 0) → Type 0
OnNotClosed (refused.Close close answers left submitted) P = P close answers left submitted
OnNotClosed _ P = Unit {0}

-- a fact of what is handed out where the books do not balance
abbrev pub OnUncleared : {K D : Type 0} {k : Ghosts K} {d : RuleGhosts D K} → FinishRefused K D k d
    → (Finished K D → FinishCause → Type 0) → Type 0
OnUncleared (refused.Uncleared finished why) P = P finished why
OnUncleared _ P = Unit {0}
