use Rattle.std.specs.Prelude.{All}
use Rattle.signctl_threads.specs.Slots.{AreRunSlots, DidNotStop}
use Rattle.signctl_threads.proofs.rest.work_on_rest.Given as goal

abbrev pub invariant-loop : goal.invariant-loop
invariant-loop g l = AreRunSlots l.pool.queue (g.G.Gate.meaning l.gate) l.workers l.jobs l.slots × All DidNotStop l.slots
