use Rattle.std.proofs.Common.{ℕ, ◌%◌, ◌/◌, arith, ap, sym, ◌∙◌, [], ◌∷◌, ◌++◌}
use Rattle.signer_shared.specs.declared.job.Job.{Job}
use Rattle.pool_jobs.specs.Work.{pool_job}
use Rattle.pool_jobs.proofs.Dealing.{next_below, next_list, deals_through}
use Rattle.pool_jobs.proofs.work.pool_work.Goals as goal

pub index_mut-requires : goal.index_mut-requires
index_mut-requires c =
    let there = next_list (λ (w j : ℕ). pool_job w (j / c.args.workers)) c.args.workers (λ w. w.items) c.loop-j.work.items c.loop-j.j (c.loop-j.j % c.from-count.result)
    c.loop-j.invariant (next_below c.loop-j.j c.from-count.result c.args.workers c.from-count.ensures c.requires) in
    omega (arith, there)

pub loop-j-preserved : goal.loop-j-preserved
loop-j-preserved c =
    deals_through (λ (w j : ℕ). pool_job w (j / c.args.workers)) c.args.workers (λ w. w.items) c.loop-j.work.items c.loop-j.j (c.loop-j.j % c.from-count.result)
    c.index_mut.result.now c.push.new.self c.loop-j.invariant (ap (λ w. c.loop-j.j % w) (sym c.from-count.ensures))
    (next_below c.loop-j.j c.from-count.result c.args.workers c.from-count.ensures c.requires) c.index_mut.ensures.value
    (c.in_ok-push.ensures.items ∙ ap (λ (job : Job). c.index_mut.result.now.items ++ job ∷ []) c.in_ok-job.ensures
    ∙ ap (λ w. c.index_mut.result.now.items ++ pool_job (c.loop-j.j % c.from-count.result) (c.loop-j.j / w) ∷ []) c.from-count.ensures)
