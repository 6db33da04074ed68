use Rattle.std.proofs.Common.{◌≡◌, ◌≤◌, map}
use Rattle.std.specs.Prelude.{vec_capacity}
use Rattle.std.specs.List.{range_with_len}
use Rattle.pool_jobs.specs.Work.{jobs_of_worker}
use Rattle.pool_jobs.proofs.work.empty_lists.Given as goal

abbrev pub invariant-loop-worker : goal.invariant-loop-worker
invariant-loop-worker l =
    (l.workers ≤ vec_capacity l.work)
    × (map (λ w. w.items) l.work.items ≡ map (jobs_of_worker l.workers 0) (range_with_len 0 l._worker))
