use Rattle.std.proofs.Common.{◌≡◌, take}
use Rattle.std.specs.Prelude.{option_copied}
use Rattle.sigv4_presign.specs.LinkPieces.{keyed_pieces, texts_named}
use Rattle.sigv4_presign.proofs.PiecesRead.{found_list}
use Rattle.sigv4_presign.proofs.link_query.only_piece.Given as goal

-- what was found is all that has the name so far
abbrev pub invariant-loop-piece : goal.invariant-loop-piece
invariant-loop-piece l = texts_named l.name (keyed_pieces (take l.piece-index l.pieces)) ≡ found_list (option_copied l.found)
