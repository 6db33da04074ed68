use Rattle.std.proofs.Common.{◌≡◌}
use Rattle.signctl_threads.specs.Slots.{IsWorker}
use Rattle.signctl_threads.proofs.work.work_until_empty.Given as goal

abbrev pub invariant-loop : goal.invariant-loop
invariant-loop g l = IsWorker l.pool.queue (g.G.Gate.meaning l.gate) l.worker × (l.worker.handle ≡ l.initial.worker.handle)
