use Rattle.std.proofs.Common.{◌≡◌, map, filter, not, length, ◌==◌}
use Rattle.sigv4_presign.specs.LinkPieces.{keyed, keyed_pieces}
use Rattle.sigv4_presign.proofs.link_query.pieces_of.Given as goal

-- the pieces so far
abbrev pub invariant-loop-text : goal.invariant-loop-text
invariant-loop-text l =
    keyed_pieces l.pieces.items ≡ map keyed (filter (λ piece. not (length piece == 0)) (map (λ piece. piece.now) l.yielded))
