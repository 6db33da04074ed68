use Rattle.std.proofs.Common.{◌≡◌, ◌≤◌, ◌+◌, ◌++◌, length, map}
use Rattle.std.specs.Prelude.{vec_capacity}
use Rattle.std.specs.Vec.Iter.{into_iter_items}
use Rattle.signctl_threads.proofs.slots.into_seats.Given as goal

abbrev pub invariant-loop-slot : goal.invariant-loop-slot
invariant-loop-slot l =
    (map (λ s. s.submitter) l.fn.slots.items ≡ l.submitters.items ++ map (λ s. s.submitter) (into_iter_items l.slot-iterator))
    × (map (λ s. s.worker) l.fn.slots.items ≡ l.workers.items ++ map (λ s. s.worker) (into_iter_items l.slot-iterator))
    × (length l.submitters.items + length (into_iter_items l.slot-iterator) ≤ vec_capacity l.submitters)
    × (length l.workers.items + length (into_iter_items l.slot-iterator) ≤ vec_capacity l.workers)
