use Rattle.std.proofs.Common.{ℕ, ◌<◌, length, get_or, subst, sym, arith}
use Rattle.signctl_threads.specs.Slots.{IsNewSlot, IsRun}
use Rattle.signctl_threads.specs.declared.slots.Slot.{Slot}
use Rattle.signctl_threads.proofs.Places.{each_here}
use Rattle.signctl_threads.proofs.RunSlots.{all_ran, new_slot}
use Rattle.signctl_threads.proofs.threads.run_submitters.Goals as goal

pub for_each_mut-requires-clause-accepts : goal.for_each_mut-requires-clause-accepts
for_each_mut-requires-clause-accepts g c κs within = λ i p below is. (
  c.requires.some,
  new_slot c.args.pool.now.queue (g.G.Gate.meaning c.args.gate.now) i p.now
      (subst (IsNewSlot c.args.pool.now.queue i) (sym is) (each_here (IsNewSlot c.args.pool.now.queue) c.args.slots.now i p.now c.requires.slots.each below)),
)

pub returns : goal.returns
returns g c =
    all_ran c.args.pool.now.queue (g.G.Gate.meaning c.args.gate.now) c.args.workers c.args.jobs c.args.slots.now c.for_each_mut.new.s c.requires.slots
    (omega (arith, c.for_each_mut.auto.s)) (λ i d below. each i d below)
  where
    each : (i : ℕ) (d : Slot) → i < length c.args.slots.now
        → IsRun c.args.pool.now.queue (g.G.Gate.meaning c.args.gate.now) c.args.workers c.args.jobs i
        (get_or c.args.slots.now i d) (get_or c.for_each_mut.new.s i d)
    each i d below =
        let at = (c.for_each_mut.ensures i d below).1 in
        subst (λ y. IsRun c.args.pool.now.queue (g.G.Gate.meaning c.args.gate.now) c.args.workers c.args.jobs i (get_or c.args.slots.now i d) y) at.left
        (subst (λ x. IsRun c.args.pool.now.queue (g.G.Gate.meaning c.args.gate.now) c.args.workers c.args.jobs i x at.after_call.now) at.argument_is at.call)
