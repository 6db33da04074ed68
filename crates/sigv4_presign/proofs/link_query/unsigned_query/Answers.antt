use Rattle.std.proofs.Common.{◌≡◌, ◌==◌, ℕ, Bool, not, true, false, List, length, take, codes, ap, sym, ◌∙◌}
use Rattle.std.specs.Prelude.{bytes_eq, string_bytes}
use Rattle.sign_request.specs.CanonicalText.{joined_texts}
use Rattle.sigv4_canonical.proofs.JoinedOn.{none_yet-push}
use Rattle.sigv4_presign.specs.LinkPairs.{signature_name}
use Rattle.sigv4_presign.specs.LinkPieces.{keyed_pieces, texts_where}
use Rattle.sigv4_presign.proofs.PiecesRead.{texts_where-more, texts_where-same, joined_step}
use Rattle.sigv4_presign.proofs.link_query.unsigned_query.Goals as goal
use Rattle.sigv4_presign.proofs.link_query.unsigned_query.Goals.{then-not-has_key+in_ok-push_joined, else-not-has_key}

pub loop-piece-preserved : goal.loop-piece-preserved
loop-piece-preserved c =
    let test : List ℕ → Bool = λ key. not (bytes_eq key signature_name) in
    let pieces = c.args.pieces.now in
    let i = c.loop-piece.piece-index in
    let p = c.piece-item.result in
    let known = c.loop-piece.invariant in
    let texts = texts_where test (keyed_pieces (take i pieces)) in
    elim c.if-not-has_key.branch [
      | then-not-has_key+in_ok-push_joined w ↦
          let passes : test (string_bytes p.key) ≡ true = ap not (sym c.has_key.ensures ∙ w.if-not-has_key.true) in
          let more = texts_where-more test pieces i p c.loop-piece-test.true c.piece-item.is passes in
          record {
            text = ap (λ v. v.items) w.text-is ∙ (w.in_ok-push_joined.ensures {u = tt}
                ∙ (joined_step texts c.loop-piece.text.items p.text.now c.loop-piece.first known.text known.first ∙ ap (joined_texts (codes "&")) (sym more)));
            first = w.first-is ∙ (none_yet-push texts p.text.now ∙ ap (λ ts. length ts == 0) (sym more));
          }
      | else-not-has_key w ↦
          let fails : test (string_bytes p.key) ≡ false = ap not (sym c.has_key.ensures ∙ w.if-not-has_key.false) in
          let same = texts_where-same test pieces i p c.loop-piece-test.true c.piece-item.is fails in
          record {
            text = ap (λ v. v.items) w.text-is ∙ (known.text ∙ ap (joined_texts (codes "&")) (sym same));
            first = w.first-is ∙ (known.first ∙ ap (λ ts. length ts == 0) (sym same));
          }
    ]
