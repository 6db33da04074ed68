use Rattle.std.proofs.Common.{◌≡◌, ◌≤◌}
use Rattle.std.specs.Prelude.{vec_capacity}
use Rattle.signctl_threads.specs.Slots.{AreNewSlots}
use Rattle.signctl_threads.proofs.slots.new_slots.Given as goal

abbrev pub invariant-loop-place : goal.invariant-loop-place
invariant-loop-place l =
    (l.count ≤ vec_capacity l.slots) × AreNewSlots l.pool.queue l.place l.slots.items
    × (l.pool.submitters ≡ l.place) × (l.pool.workers ≡ l.place) × (l.pool.shared ≡ l.initial.pool.shared)
    × (l.pool.queue ≡ l.initial.pool.queue)
