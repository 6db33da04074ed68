use Rattle.std.proofs.Common.{◌≡◌, map, filter, not, length, ◌==◌, string_bytes}
use Rattle.sigv4_canonical.specs.CanonicalTarget.{encoded_pair}
use Rattle.sigv4_canonical.specs.EncodedPairs.{sides_text, side_lengths}
use Rattle.sigv4_canonical.proofs.query.push_sides.Given as goal

-- the sides so far are those of the pieces so far
abbrev pub invariant-loop-piece : goal.invariant-loop-piece
invariant-loop-piece l =
    let pairs = map encoded_pair (filter (λ piece. not (length piece == 0)) (map (λ piece. piece.now) l.yielded)) in
    (string_bytes l.text ≡ sides_text pairs) × (l.lengths.items ≡ side_lengths pairs)
