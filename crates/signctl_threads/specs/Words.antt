-- The commands that threads serve, by their words.
use Rattle.std.specs.Prelude.{ℕ, ◌<◌, ◌≤◌, ◌==◌, ◌||◌, Bool, false, List, [], ◌∷◌, Option, Some, None, codes}
use Rattle.std.specs.Prelude.{if◌then◌else◌}
use Rattle.std.specs.Str.{bytes_eq}
use Rattle.line_words.specs.Words.{number_of}
use Rattle.signctl_threads.specs.declared.words.ThreadedCommand.{ThreadedCommand}
use Rattle.signctl_threads.specs.declared.words.ThreadedCommand.TheVariants.{Pool, Queue}

-- the most workers of a pool
abbrev pub most_workers : ℕ
most_workers = 64

-- the most jobs of a pool
abbrev pub most_jobs : ℕ
most_jobs = 10_000

-- the most jobs that a queue holds
abbrev pub most_capacity : ℕ
most_capacity = 1_024

-- a pool with so many workers, of which there is one at least, and so many jobs
abbrev pub pool_of : Option ℕ → Option ℕ → Option ThreadedCommand
pool_of (Some workers) (Some jobs) = if workers == 0 then None else Some (Pool workers jobs)
pool_of workers jobs = None

-- the command that a word names with two numbers
abbrev pub pool_by_words : List ℕ → List ℕ → List ℕ → Option ThreadedCommand
pool_by_words word workers jobs =
    if bytes_eq word (codes "pool")
    then pool_of (number_of most_workers workers) (number_of most_jobs jobs) else None

-- a queue that holds so many jobs, of which there is one at least, with so many workers, of which
-- there is one, and so many jobs
abbrev pub queue_of : Option ℕ → Option ℕ → Option ℕ → Option ThreadedCommand
queue_of (Some workers) (Some jobs) (Some capacity) =
    if workers == 0 then None else if capacity == 0 then None else Some (Queue workers jobs capacity)
queue_of workers jobs capacity = None

-- the command that a word names with three numbers
abbrev pub queue_by_words : List ℕ → List ℕ → List ℕ → List ℕ → Option ThreadedCommand
queue_by_words word workers jobs capacity =
    if bytes_eq word (codes "queue")
    then queue_of (number_of most_workers workers) (number_of most_jobs jobs)
    (number_of most_capacity capacity) else None

-- the command that the words name: `pool`, workers and jobs, or `queue`, workers, jobs and capacity
abbrev pub threaded_command : List (List ℕ) → Option ThreadedCommand
threaded_command (word ∷ (workers ∷ (jobs ∷ []))) = pool_by_words word workers jobs
threaded_command (word ∷ (workers ∷ (jobs ∷ (capacity ∷ [])))) = queue_by_words word workers jobs capacity
threaded_command _ = None

-- whether the first word is that of a command that threads serve
abbrev pub names_threaded : List (List ℕ) → Bool
names_threaded [] = false
names_threaded (word ∷ rest) = bytes_eq word (codes "pool") || bytes_eq word (codes "queue")

-- there is a worker, and a queue holds a job; and there are no more of each than the command takes
abbrev pub IsPoolSize : ThreadedCommand → Type 0
IsPoolSize (Pool workers jobs) = (0 < workers) × (workers ≤ most_workers) × (jobs ≤ most_jobs)
IsPoolSize (Queue workers jobs capacity) =
    (0 < workers) × (workers ≤ most_workers) × (jobs ≤ most_jobs) × (0 < capacity)
    × (capacity ≤ most_capacity)
