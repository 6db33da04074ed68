-- The jobs of a pool, dealt out to its workers.
use Rattle.std.specs.Prelude.{ℕ, ◌%◌, ◌/◌, ◌==◌, List, [], None, codes, map, filter}
use Rattle.std.specs.List.{range_with_len}
use Rattle.sign_base.specs.declared.head.Head.{Head}
use Rattle.sign_base.specs.declared.head.Version.TheVariants.{V11}
use Rattle.signer_shared.specs.declared.job.Job.{Job}

-- the head of every job
abbrev pub pool_head : Head
pool_head = record { method = codes "GET"; uri = codes "https://e.x/c"; version = V11; headers = [] }

-- a worker's job with this number: a call of the worker's handle, for which nothing says how long it may take
abbrev pub pool_job : ℕ → ℕ → Job
pool_job worker number =
    record { call = record { handle = worker; number = number }; head = pool_head; expires_in = None }

-- the jobs of one of so many workers, out of so many: job j is one of worker j mod W, with the number j div W
abbrev pub jobs_of_worker : ℕ → ℕ → ℕ → List Job
jobs_of_worker workers jobs worker =
    map (λ j. pool_job worker (j / workers)) (filter (λ j. j % workers == worker) (range_with_len 0 jobs))

-- the list of each worker
abbrev pub pool_work : ℕ → ℕ → List (List Job)
pool_work workers jobs = map (jobs_of_worker workers jobs) (range_with_len 0 workers)
