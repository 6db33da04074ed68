use Rattle.std.proofs.Common.{◌≡◌, ◌+◌, ◌-◌, ◌≤◌, ◌++◌, length, vec_capacity}
use Rattle.wake_lock.specs.Slots.{chained_slots, chain_start}
use Rattle.wake_lock.proofs.slots.Slots.grow_linked.Given as goal

-- the slots so far and those to come are all slots, and there is room for the latter
abbrev pub invariant-loop-place : goal.invariant-loop-place
invariant-loop-place l = record {
  count : length l.self-inside.kept.items ≡ l.place;
  room : l.first + l.n ≤ vec_capacity l.self-inside.kept;
  slots : l.self-inside.kept.items ++ chained_slots l.place (l.first + l.n - l.place) l.start
      ≡ l.fn.self ++ chained_slots l.first l.n l.fn.after;
  starts : chain_start l.place (l.first + l.n - l.place) l.start ≡ chain_start l.first l.n l.fn.after;
}
