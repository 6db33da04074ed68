use Rattle.std.proofs.Common.{◌≡◌, take, not, length, codes, ◌==◌}
use Rattle.std.specs.Prelude.{bytes_eq}
use Rattle.sign_request.specs.CanonicalText.{joined_texts}
use Rattle.sigv4_presign.specs.LinkPairs.{signature_name}
use Rattle.sigv4_presign.specs.LinkPieces.{keyed_pieces, texts_where}
use Rattle.sigv4_presign.proofs.link_query.unsigned_query.Given as goal

-- the texts so far are written, and `first` says whether there are none
abbrev pub invariant-loop-piece : goal.invariant-loop-piece
invariant-loop-piece l = record {
  text : l.text.items
      ≡ joined_texts (codes "&")
      (texts_where (λ key. not (bytes_eq key signature_name)) (keyed_pieces (take l.piece-index l.pieces)));
  first : l.first
      ≡ (length
      (texts_where (λ key. not (bytes_eq key signature_name)) (keyed_pieces (take l.piece-index l.pieces)))
      == 0);
}
