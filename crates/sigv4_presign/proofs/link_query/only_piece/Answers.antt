use Rattle.std.proofs.Common.{◌≡◌, ℕ, List, Bor, Option, Some, None, refl, sym, ◌∙◌}
use Rattle.std.specs.Prelude.{bytes_eq, is_some, option_copied}
use Rattle.sigv4_presign.proofs.PiecesRead.{second_found}
use Rattle.sigv4_presign.proofs.link_query.only_piece.Goals as goal

copied : (o : Option (Bor (List ℕ))) → is_some (option_copied o) ≡ is_some o
copied None = refl
copied (Some text) = refl

pub returns-then-is_some : goal.returns-then-is_some
returns-then-is_some c =
    second_found (λ key. bytes_eq key c.args.name.now) c.args.pieces.now c.loop-piece.piece-index c.piece-item.result c.loop-piece-test.true c.piece-item.is
    (option_copied c.loop-piece.found) (copied c.loop-piece.found ∙ (sym c.is_some.ensures ∙ c.if-is_some.true)) c.loop-piece.invariant (sym c.has_key.ensures ∙ c.if-has_key.true)
