use Rattle.std.proofs.Common.{◌≡◌, Ok, ap, sym, ◌∙◌}
use Rattle.std.proofs.lemmas.Result.{err_from_is_err_and}
use Rattle.sign_request.specs.PlainTarget.{plain_target}
use Rattle.sigv4_core.specs.SignedHead.{target_to_sign}
use Rattle.sigv4_presign.specs.LinkClaims.{any_path}
use Rattle.sigv4_presign.proofs.ClaimsRead.{refused_unread, names_head, unread_head}
use Rattle.sigv4_presign.proofs.reading.read_link_seeded.Goals as goal

pub returns-in_err-uri-clause-err : goal.returns-in_err-uri-clause-err
returns-in_err-uri-clause-err c =
    let why = err_from_is_err_and c.from_residual-in_err-uri.result c.from_residual-in_err-uri.ensures.1 in
    rw (why.1, why.2) (refused_unread c.args.head.now c.in_ok-scope.scope c.in_err-uri.field-0.0 c.in_ok-scope.ensures c.in_err-uri.ensures.err)

pub returns-clause-ok : goal.returns-clause-ok
returns-clause-ok c =
    let read : target_to_sign any_path c.args.head.now ≡ Ok (plain_target c.in_ok-uri.uri) = ap (λ scope. target_to_sign scope c.args.head.now) (sym c.in_ok-scope.ensures) ∙ c.in_ok-uri.ensures.ok in
    names_head c.args.head.now (plain_target c.in_ok-uri.uri) c.query_of.result.now read c.query_of.ensures c.claims_of.result c.claims_of.ensures.ok

pub returns-clause-err : goal.returns-clause-err
returns-clause-err c =
    let read : target_to_sign any_path c.args.head.now ≡ Ok (plain_target c.in_ok-uri.uri) = ap (λ scope. target_to_sign scope c.args.head.now) (sym c.in_ok-scope.ensures) ∙ c.in_ok-uri.ensures.ok in
    unread_head c.args.head.now (plain_target c.in_ok-uri.uri) c.query_of.result.now read c.query_of.ensures c.claims_of.result c.claims_of.ensures.err
