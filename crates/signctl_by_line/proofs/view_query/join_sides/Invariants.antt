use Rattle.std.proofs.Common.{◌≡◌, map, take, codes}
use Rattle.sign_request.specs.CanonicalText.{joined_texts, parameter_text}
use Rattle.sigv4_canonical.specs.EncodedPairs.{shown_pairs}
use Rattle.signctl_by_line.proofs.view_query.join_sides.Given as goal

-- the pairs so far are written
abbrev pub invariant-loop-i : goal.invariant-loop-i
invariant-loop-i l = l.text.items ≡ joined_texts (codes "&") (map (parameter_text (codes "=")) (shown_pairs (take l.i l.pairs)))
