use Rattle.std.proofs.Common.{ℕ, map, ◌/◌, ◌∙◌, ap, arith}
use Rattle.pool_jobs.specs.Work.{pool_job}
use Rattle.pool_jobs.proofs.Dealing.{empties_len, one_empty_more}
use Rattle.pool_jobs.proofs.work.empty_lists.Goals as goal

pub push_reserved-requires : goal.push_reserved-requires
push_reserved-requires c =
    let len = empties_len (λ (w j : ℕ). pool_job w (j / c.args.workers)) c.args.workers (λ w. w.items) c.loop-worker.work.items c.loop-worker._worker c.loop-worker.invariant.1 in
    omega (arith, len, c.loop-worker.invariant.0, c.loop-worker-test.true)

pub loop-worker-preserved : goal.loop-worker-preserved
loop-worker-preserved c = (
  omega (arith, c.push_reserved.ensures.capacity, c.loop-worker.invariant.0),
  ap (map (λ w. w.items)) c.push_reserved.ensures.items
      ∙ one_empty_more (λ (w j : ℕ). pool_job w (j / c.args.workers)) c.args.workers (λ w. w.items) c.loop-worker.work.items c.new.result c.loop-worker._worker
      c.loop-worker.invariant.1 c.new.ensures.items,
)
