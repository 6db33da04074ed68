use Rattle.std.proofs.Common.{◌≡◌, length}
use Rattle.pool_jobs.specs.Work.{pool_head}
use Rattle.signctl_threads.specs.Slots.{GoesOn}
use Rattle.signctl_threads.proofs.submit.submit_job.Given as goal

abbrev pub invariant-loop : goal.invariant-loop
invariant-loop g l =
    GoesOn l.pool.queue (g.G.Gate.meaning l.gate) l.initial.slot l.slot
    × (length l.slot.submitter.jobs.items ≡ length l.initial.slot.submitter.jobs.items) × (l.head ≡ pool_head)
