use Rattle.std.proofs.Common.{◌≡◌, ◌++◌, ◌-◌, length, take, drop}
use Rattle.sign_request.specs.Query.{text_pairs}
use Rattle.sign_request.specs.CanonicalText.{sorted_pairs}
use Rattle.sign_request.specs.KeyOrder.{Ascends, key_cmp}
use Rattle.sign_request.proofs.sort.sort_values.Given as goal

-- the pairs below start are those of the answer, and the others ascend by key
abbrev pub invariant-loop-start : goal.invariant-loop-start
invariant-loop-start l =
    (sorted_pairs (text_pairs l.fn.pairs) ≡ take l.start (text_pairs l.pairs) ++ sorted_pairs (drop l.start (text_pairs l.pairs)))
    × Ascends key_cmp (drop l.start (text_pairs l.pairs))

abbrev pub decreases-loop-start : goal.decreases-loop-start
decreases-loop-start l = length l.pairs - l.start
