-- What a worker adds for one job.
use Rattle.std.specs.Prelude.{◌≡◌, ◌+◌, ◌-◌, ◌++◌, ◌∷◌, ℕ, Bool, List, [], Option, Some, length, option_map}
use Rattle.std.specs.Prelude.{if◌then◌else◌}
use Rattle.crossbeam_queue.specs.Passes.{view}
use Rattle.sequential_signer.specs.Transcript.{last_of}
use Rattle.sequential_signer.specs.declared.event.Reply.{Reply}
use Rattle.sequential_signer.specs.declared.event.Reply.TheVariants as reply
use Rattle.signer_book.specs.declared.pass.Receipt.{Receipt}
use Rattle.signer_shared.specs.Gates.{GateMeaning}
use Rattle.signer_shared.specs.Serving.{IsServing}
use Rattle.signer_shared.specs.declared.job.Job.{Job}
use Rattle.signer_shared.specs.declared.job.Served.{Served}
use Rattle.pool_books.specs.declared.answer.Outcome.{Outcome}
use Rattle.pool_books.specs.declared.answer.Outcome.TheVariants as ended
use Rattle.pool_books.specs.declared.job.PoolJob.{PoolJob}
use Rattle.sign_pool.specs.declared.seats.Worker.{Worker}
use Rattle.sign_pool.specs.declared.work.Work.{Work}
use Rattle.sign_pool.specs.declared.work.Work.TheVariants as work

-- the job as a call
abbrev pub job_of : PoolJob → ℕ → ℕ → Job
job_of job handle number = record {
  call = record { handle = handle; number = number };
  head = job.head;
  expires_in = job.expires_in;
}

-- how a job ended: its call's last reply, if there is one, and whether memory ran out
abbrev pub outcome_of : {K : Type 0} → Option (Reply K) → Bool → Outcome
outcome_of (Some (reply.Done head)) out = ended.Done
outcome_of (Some (reply.Refused why wake)) out = ended.Refused
outcome_of (Some reply.NotNow) out = ended.NotNow
outcome_of _ out = if out then ended.OutOfMemory else ended.GivenUp

-- the last reply of receipts
abbrev pub last_reply : {K : Type 0} → List (Receipt K) → Option (Reply K)
last_reply receipts = option_map (λ r. r.entry.reply) (last_of receipts)

-- the place of the last of the receipts that were added to so many
abbrev pub last_place : {K : Type 0} → ℕ → List (Receipt K) → Option ℕ
last_place before added = option_map (λ _. before + (length added - 1)) (last_of added)

-- The job was served as the next call of the worker's handle, and answered.
pub record Serves {K : Type 0} (gate : GateMeaning K) (turns : ℕ) (before after : Worker K)
    (job : PoolJob) : Type 0 where
  pub added : List (Receipt K)
  pub served : Served
  pub handle : after.handle ≡ before.handle
  pub pass : after.pass ≡ before.pass ++ added
  pub serves : IsServing gate turns
      (job_of job before.handle (length before.answers.items + 1) ∷ []) added served
  pub answers : after.answers.items ≡ before.answers.items ++ record {
    ticket = job.ticket;
    call = record { handle = before.handle; number = length before.answers.items + 1 };
    last = last_place (length before.pass) added;
    outcome = outcome_of (last_reply added) served.out_of_memory;
  } ∷ []

-- one pop, of this job by this worker
pub record Takes {K : Type 0} (before after : Worker K) (job : PoolJob) : Type 0 where
  pub taken : (view after.seat).taken ≡ (view before.seat).taken ++ job ∷ []
  pub put : (view after.seat).put ≡ (view before.seat).put

-- the worker has taken, served and answered nothing
pub record IsSameWorker {K : Type 0} (before after : Worker K) : Type 0 where
  pub seat : view after.seat ≡ view before.seat
  pub handle : after.handle ≡ before.handle
  pub pass : after.pass ≡ before.pass
  pub answers : after.answers.items ≡ before.answers.items

-- what a worker did, by what it says
abbrev pub Works : {K : Type 0} → GateMeaning K → ℕ → Worker K → Worker K → Work → Type 0
Works gate turns before after (work.Served ticket) =
    (job : PoolJob) × (job.ticket ≡ ticket) × Takes before after job × Serves gate turns before after job
Works gate turns before after work.Empty = IsSameWorker before after
Works gate turns before after work.OutOfMemory = IsSameWorker before after
