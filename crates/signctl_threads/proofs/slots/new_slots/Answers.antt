use Rattle.std.proofs.Common.{◌+◌, sym, ◌∙◌, subst, arith}
use Rattle.signctl_threads.specs.Slots.{AreNewSlots}
use Rattle.signctl_threads.proofs.RunSlots.{new_slot_more}
use Rattle.signctl_threads.proofs.slots.new_slots.Goals as goal

pub loop-place-preserved : goal.loop-place-preserved
loop-place-preserved c = (
  omega (arith, c.push_reserved.ensures.capacity),
  subst (λ l. AreNewSlots c.worker.new.self.queue (c.loop-place.place + 1) l) (sym c.push_reserved.ensures.items)
      (new_slot_more c.loop-place.pool.queue c.submitter.new.self.queue c.worker.new.self.queue c.in_ok-submitter.ensures.pool.1 c.in-Ok.ensures.pool.1
      c.loop-place.place c.loop-place.slots.items _ c.loop-place.invariant.1
      c.in_ok-submitter.ensures.seat.0 c.in_ok-submitter.ensures.seat.2 c.in-Ok.ensures.seat.0 c.in-Ok.ensures.seat.1 c.in-Ok.ensures.seat.2 c.in-Ok.ensures.seat.3),
  omega (arith, c.in-Ok.ensures.made.0, c.in_ok-submitter.ensures.made.0, c.loop-place.invariant.2),
  omega (arith, c.in-Ok.ensures.made.1, c.in_ok-submitter.ensures.made.1, c.loop-place.invariant.3),
  c.in-Ok.ensures.pool.0 ∙ c.in_ok-submitter.ensures.pool.0 ∙ c.loop-place.invariant.4,
  c.in-Ok.ensures.pool.1 ∙ c.in_ok-submitter.ensures.pool.1 ∙ c.loop-place.invariant.5,
)
