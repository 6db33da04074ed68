use Rattle.std.proofs.Common.{◌≡◌, ◌+◌, length}
use Rattle.signctl_threads.specs.Slots.{GoesOn}
use Rattle.signctl_threads.proofs.submit.submit_jobs.Given as goal

abbrev pub invariant-loop-job : goal.invariant-loop-job
invariant-loop-job g l =
    GoesOn l.pool.queue (g.G.Gate.meaning l.gate) l.initial.slot l.slot
    × (length l.slot.submitter.jobs.items ≡ length l.initial.slot.submitter.jobs.items + l._job)
