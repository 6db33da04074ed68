-- The jobs of a queue, and how they are shared out to the threads.
use Rattle.std.specs.Prelude.{◌≡◌, ℕ, nat_lt, ◌+◌, ◌%◌, ◌/◌, None, if◌then◌else◌}
use Rattle.pool_books.specs.declared.job.PoolJob.{PoolJob}
use Rattle.pool_jobs.specs.Work.{pool_head}

-- a job of the command: nothing says how long it may take
abbrev pub IsQueueJob : PoolJob → Type 0
IsQueueJob job = (job.head ≡ pool_head) × (job.expires_in ≡ None)

-- how many of so many jobs are those of one of so many threads: job j is that of thread j mod W
abbrev pub share : ℕ → ℕ → ℕ → ℕ
share workers jobs place = jobs / workers + (if nat_lt place (jobs % workers) then 1 else 0)
