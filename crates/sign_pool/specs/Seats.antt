-- What a pool's seats keep, and what a push changes.
use Rattle.std.specs.Prelude.{◌≡◌, ◌++◌, ◌∷◌, List, [], map}
use Rattle.crossbeam_queue.specs.Passes.{view}
use Rattle.pool_books.specs.Cleared.{joined, lists_of}
use Rattle.pool_books.specs.declared.answer.Answer.{Answer}
use Rattle.pool_books.specs.declared.job.PoolJob.{PoolJob}
use Rattle.sign_pool.specs.declared.seats.Submitter.{Submitter}
use Rattle.sign_pool.specs.declared.seats.Worker.{Worker}

-- the jobs of submitters
abbrev pub jobs_of : List Submitter → List (List PoolJob)
jobs_of submitters = lists_of (map (λ s. s.jobs) submitters)

-- the answers of workers
abbrev pub answers_of : {K : Type 0} → List (Worker K) → List Answer
answers_of workers = joined (lists_of (map (λ w. w.answers) workers))

-- one push, of this job by this submitter: it is the submitter's new last job
pub record Submits (before after : Submitter) (job : PoolJob) : Type 0 where
  pub pushed : (view after.seat).put ≡ (view before.seat).put ++ job ∷ []
  pub taken : (view after.seat).taken ≡ (view before.seat).taken
  pub jobs : after.jobs.items ≡ before.jobs.items ++ job ∷ []
  pub number : after.number ≡ before.number

-- the submitter has done nothing
pub record IsSameSubmitter (before after : Submitter) : Type 0 where
  pub seat : view after.seat ≡ view before.seat
  pub jobs : after.jobs.items ≡ before.jobs.items
  pub number : after.number ≡ before.number
