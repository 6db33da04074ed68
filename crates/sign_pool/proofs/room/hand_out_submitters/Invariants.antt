use Rattle.std.proofs.Common.{◌≡◌, ◌≤◌, ◌+◌, ◌++◌, length, map}
use Rattle.std.specs.Prelude.{vec_capacity}
use Rattle.std.specs.Vec.Iter.{into_iter_items}
use Rattle.sign_pool.proofs.room.hand_out_submitters.Given as goal

abbrev pub invariant-loop-submitter : goal.invariant-loop-submitter
invariant-loop-submitter l =
    (map (λ s. s.jobs) l.fn.submitters.items ≡ l.submitted.items ++ map (λ s. s.jobs) (into_iter_items l.submitter-iterator))
    × (length l.submitted.items + length (into_iter_items l.submitter-iterator) ≤ vec_capacity l.submitted)
