use Rattle.std.proofs.Common.{◌≡◌, ◌++◌, drop}
use Rattle.sigv4_canonical.specs.EncodedPairs.{shown_pairs, cut_pairs, IsCut}
use Rattle.sigv4_canonical.proofs.encoded_pairs.pairs_of.Given as goal

-- the pairs so far, and then those that are left in the text, are all
abbrev pub invariant-loop-sides : goal.invariant-loop-sides
invariant-loop-sides l = record {
  all : shown_pairs l.pairs.items ++ cut_pairs l.rest (drop l.sides-index l.fn.lengths)
      ≡ cut_pairs l.fn.text l.fn.lengths;
  left : IsCut l.rest (drop l.sides-index l.fn.lengths);
}
