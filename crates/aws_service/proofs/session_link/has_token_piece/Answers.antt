use Rattle.std.proofs.Common.{rules, tests}
use Rattle.std.proofs.lemmas.Iterator.Consumers.{YieldsList-end}
use Rattle.std.proofs.lemmas.Iterator.Splits.{YieldsList-from_slice_split}
use Rattle.sign_request.specs.Query.{is_ampersand}
use Rattle.aws_service.proofs.session_link.has_token_piece.Goals as goal

-- the pieces that were yielded are all pieces
pub returns : goal.returns
returns c =
    let all = YieldsList-end (YieldsList-from_slice_split {s = c.into_iter-piece-iterator.result} _ is_ampersand c.args.query.now (search rules) (search rules) (search rules) (λ x r q k. search (rules, tests)))
    c.loop-piece.yielded c.loop-piece.piece-iterator c.loop-piece.yielded_by c.next.result c.next.new.self c.in-None.is c.next.ensures.steps in
    rw (← all.0) c.loop-piece.invariant
