use Rattle.std.proofs.Common.{◌≡◌, map, take, codes}
use Rattle.sign_request.specs.CanonicalText.{joined_texts, header_text}
use Rattle.sigv4_canonical.specs.EncodedPairs.{shown_pairs}
use Rattle.sigv4_canonical.proofs.encoded_pairs.join_pairs.Given as goal

-- the pairs so far are written
abbrev pub invariant-loop-i : goal.invariant-loop-i
invariant-loop-i l = l.text.items ≡ joined_texts (codes "&") (map (header_text (codes "=")) (shown_pairs (take l.i l.pairs)))
