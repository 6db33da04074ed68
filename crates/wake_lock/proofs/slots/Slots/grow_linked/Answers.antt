use Rattle.std.proofs.Common.{◌≡◌, ℕ, suc, ◌+◌, ◌-◌, List, [], ◌∷◌, ◌++◌, Some, ap, sym, ◌∙◌, append_assoc, length-append, length, arith}
use Rattle.wake_lock.specs.declared.slots.Slot.{Slot}
use Rattle.wake_lock.specs.Slots.{vacant_slot, chained_slots, chain_start}
use Rattle.wake_lock.proofs.slots.Slots.grow_linked.Goals as goal

pub loop-place-preserved : goal.loop-place-preserved
loop-place-preserved c =
    let place : ℕ = c.loop-place.place in
    let rest : ℕ = c.len-first.result + c.args.n - (place + 1) in
    let old : List Slot = c.loop-place.self-inside.kept.items in
    let to_come : c.len-first.result + c.args.n - place ≡ suc rest = omega arith in
    let written : c.push_reserved.new.self.items ≡ old ++ vacant_slot c.loop-place.start ∷ [] =
    c.push_reserved.ensures.items ∙ ap (λ (s : Slot). old ++ record s { after = c.loop-place.start } ∷ []) c.blank_slot.ensures in
    record {
      count = omega (arith, ap length written, length-append old (vacant_slot c.loop-place.start ∷ []));
      room = omega (arith, c.push_reserved.ensures.capacity);
      slots = ap (λ (l : List Slot). l ++ chained_slots (place + 1) rest (Some place)) written
          ∙ append_assoc old (vacant_slot c.loop-place.start ∷ []) (chained_slots (place + 1) rest (Some place))
          ∙ ap (λ (k : ℕ). old ++ chained_slots place k c.loop-place.start) (sym to_come)
          ∙ c.loop-place.invariant.slots;
      starts = ap (λ (k : ℕ). chain_start place k c.loop-place.start) (sym to_come) ∙ c.loop-place.invariant.starts;
    }
