use Rattle.std.proofs.Common.{◌≡◌, map}
use Rattle.std.specs.List.{list_any}
use Rattle.aws_service.specs.SessionLink.{is_token_piece}
use Rattle.aws_service.proofs.session_link.has_token_piece.Given as goal

-- whether one of the pieces so far is a token's
abbrev pub invariant-loop-piece : goal.invariant-loop-piece
invariant-loop-piece l = l.found ≡ list_any is_token_piece (map (λ piece. piece.now) l.yielded)
