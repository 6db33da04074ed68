-- What the workers of a queue have served: the receipts of their jobs, each the call of its answer.
use Rattle.std.specs.Prelude.{◌≡◌, ◌≢◌, Bool, true, false, ℕ, suc, ◌+◌, ◌++◌, List, [], ◌∷◌, length, All}
use Rattle.signctl_format.specs.declared.credential.ScriptCredential.{ScriptCredential}
use Rattle.signer_book.specs.declared.pass.Receipt.{Receipt}
use Rattle.signer_shared.specs.Gates.{GateMeaning}
use Rattle.signer_shared.specs.Serving.{IsServing}
use Rattle.signer_shared.specs.declared.job.Served.{Served}
use Rattle.pool_books.specs.Cleared.{joined}
use Rattle.pool_books.specs.declared.answer.Answer.{Answer}
use Rattle.pool_books.specs.declared.answer.Outcome.{Outcome}
use Rattle.pool_books.specs.declared.answer.Outcome.TheVariants.{OutOfMemory}
use Rattle.pool_books.specs.declared.job.PoolJob.{PoolJob}
use Rattle.sign_pool.specs.Work.{job_of, last_place, last_reply, outcome_of}
use Rattle.signctl_threads.specs.Jobs.{IsQueueJob}

-- whether an allocation of a job failed that ended so
abbrev pub ran_out : Outcome → Bool
ran_out OutOfMemory = true
ran_out _ = false

-- no allocation of the answer's job failed
abbrev pub DidNotRunOut : Answer → Type 0
DidNotRunOut answer = answer.outcome ≢ OutOfMemory

module _ (gate : GateMeaning ScriptCredential) where
  -- a job was served by the gate in one turn, as this call of the handle and behind
  -- so many receipts, and answered
  pub record IsAnswered (handle number before : ℕ) (own : List (Receipt ScriptCredential))
      (answer : Answer) : Type 0 where
    pub job : PoolJob
    pub served : Served
    pub serves : IsServing gate 1 (job_of job handle number ∷ []) own served
    pub answer_is : answer ≡ record {
      ticket = job.ticket;
      call = record { handle = handle; number = number };
      last = last_place before own;
      outcome = outcome_of (last_reply own) served.out_of_memory;
    }

  -- a handle's jobs were served one after another, from this call on and behind so many receipts
  abbrev pub ServesAnswers : ℕ → ℕ → ℕ → List Answer → List (Receipt ScriptCredential) → Type 0
  ServesAnswers handle number before [] receipts = receipts ≡ []
  ServesAnswers handle number before (answer ∷ answers) receipts =
      (own rest : List (Receipt ScriptCredential)) × (receipts ≡ own ++ rest)
      × IsAnswered handle number before own answer
      × ServesAnswers handle (suc number) (before + length own) answers rest

  -- each pass is that of the answers of its worker, whose handle is the next one from this on
  abbrev pub ServesHandles : ℕ → List (List Answer) → List (List (Receipt ScriptCredential)) → Type 0
  ServesHandles handle [] [] = Unit {0}
  ServesHandles handle (answers ∷ lists) (pass ∷ passes) =
      ServesAnswers handle 1 0 answers pass × ServesHandles (suc handle) lists passes
  ServesHandles handle _ _ = ⊥

  -- so many workers served so many jobs, and no allocation of these failed
  pub record ServesQueue (workers jobs : ℕ) (passes : List (List (Receipt ScriptCredential)))
      (answers : List (List Answer)) : Type 0 where
    pub workers_are : length passes ≡ workers
    pub serves : ServesHandles 0 answers passes
    pub answered : length (joined answers) ≡ jobs
    pub none_ran_out : All DidNotRunOut (joined answers)

-- so many jobs were submitted, all of them the command's
pub record AreSubmitted (jobs : ℕ) (submitted : List (List PoolJob)) : Type 0 where
  pub count : length (joined submitted) ≡ jobs
  pub each : All IsQueueJob (joined submitted)
