use Rattle.std.proofs.Common.{◌≡◌, take}
use Rattle.sigv4_canonical.specs.EncodedPairs.{shown_pairs}
use Rattle.signctl_by_line.specs.LentPairs.{lent_pairs}
use Rattle.signctl_by_line.proofs.view_query.sides_of.Given as goal

-- the sides so far
abbrev pub invariant-loop-key : goal.invariant-loop-key
invariant-loop-key l = shown_pairs l.sides.items ≡ lent_pairs (take l.key-index l.pairs)
