use Rattle.std.proofs.Common.{◌≡◌, ◌≤◌, ◌+◌, ◌++◌, length, map}
use Rattle.std.specs.Prelude.{vec_capacity}
use Rattle.std.specs.Vec.Iter.{into_iter_items}
use Rattle.sign_pool.proofs.room.hand_out_workers.Given as goal

abbrev pub invariant-loop-worker : goal.invariant-loop-worker
invariant-loop-worker g l =
    (map (λ w. w.pass) l.fn.workers.items ≡ l.passes.items ++ map (λ w. w.pass) (into_iter_items l.worker-iterator))
    × (map (λ w. w.answers) l.fn.workers.items ≡ l.answers.items ++ map (λ w. w.answers) (into_iter_items l.worker-iterator))
    × (length l.passes.items + length (into_iter_items l.worker-iterator) ≤ vec_capacity l.passes)
    × (length l.answers.items + length (into_iter_items l.worker-iterator) ≤ vec_capacity l.answers)
