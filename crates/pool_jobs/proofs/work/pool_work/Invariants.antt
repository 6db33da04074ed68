use Rattle.std.proofs.Common.{◌≡◌, map}
use Rattle.pool_jobs.specs.Work.{pool_work}
use Rattle.pool_jobs.proofs.work.pool_work.Given as goal

abbrev pub invariant-loop-j : goal.invariant-loop-j
invariant-loop-j l = map (λ w. w.items) l.work.items ≡ pool_work l.workers l.j
