-- Why a handle has no worker.
use Rattle.std.specs.Prelude.{◌≡◌, ◌<◌, ◌≤◌, ℕ, Bool, true, false, List, Some, slice_get}
use Rattle.sign_pool.specs.declared.pool.WorkerRefused.{WorkerRefused}
use Rattle.sign_pool.specs.declared.pool.WorkerRefused.TheVariants as refused

-- why a handle has no worker: the plan has so many handles, and these are taken
abbrev pub IsWorkerRefusal : ℕ → List Bool → ℕ → WorkerRefused → Type 0
IsWorkerRefusal handles taken handle (refused.NoHandle named) = (named ≡ handle) × (handles ≤ handle)
IsWorkerRefusal handles taken handle (refused.HandleTaken named) =
    (named ≡ handle) × (handle < handles) × (slice_get taken handle ≡ Some true)
IsWorkerRefusal handles taken handle refused.OutOfMemory =
    (handle < handles) × (slice_get taken handle ≡ Some false)
