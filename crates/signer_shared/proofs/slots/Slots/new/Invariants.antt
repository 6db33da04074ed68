use Rattle.std.proofs.Common.{◌≤◌, []}
use Rattle.std.specs.Prelude.{vec_capacity}
use Rattle.signer_shared.specs.Slots.{AreEmptySlots}
use Rattle.signer_shared.proofs.slots.Slots.new.Given as goal

abbrev pub invariant-loop-slot : goal.invariant-loop-slot
invariant-loop-slot g l = (l.count ≤ vec_capacity l.slots) × AreEmptySlots l._slot l.slots.items
