use Rattle.std.proofs.Common.{◌≡◌, take}
use Rattle.sign_request.specs.Query.{query_length}
use Rattle.signctl_by_line.specs.LentPairs.{lent_pairs}
use Rattle.signctl_by_line.proofs.view_pairs.query_size.Given as goal

-- the size of the pairs so far
abbrev pub invariant-loop-key : goal.invariant-loop-key
invariant-loop-key l = l.size ≡ query_length (lent_pairs (take l.key-index l.pairs))
