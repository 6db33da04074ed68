use Rattle.std.proofs.Common.{◌≡◌, ◌≤◌, ◌+◌, ◌++◌, length, map}
use Rattle.std.specs.Prelude.{vec_capacity}
use Rattle.std.specs.Vec.Iter.{into_iter_items}
use Rattle.signer_shared.proofs.slots.Slots.into_results.Given as goal

abbrev pub invariant-loop-slot : goal.invariant-loop-slot
invariant-loop-slot g l =
    (map (λ s. s.pass) l.fn.self.slots.items ≡ l.passes.items ++ map (λ s. s.pass) (into_iter_items l.slot-iterator))
    × (map (λ s. s.served) l.fn.self.slots.items ≡ l.served.items ++ map (λ s. s.served) (into_iter_items l.slot-iterator))
    × (length l.passes.items + length (into_iter_items l.slot-iterator) ≤ vec_capacity l.passes)
    × (length l.served.items + length (into_iter_items l.slot-iterator) ≤ vec_capacity l.served)
