use Rattle.std.proofs.Common.{rules}
use Rattle.sigv4_core.proofs.Targets.{target_to_sign-none, target_to_sign-Ok, target_to_sign-Err}
use Rattle.sigv4_core.proofs.target.target_to_sign.Goals as goal

pub returns-in_err-uri-clause-err : goal.returns-in_err-uri-clause-err
returns-in_err-uri-clause-err c =
    let none = target_to_sign-none c.args.scope.now c.args.head.now c.in_err-uri.field-0.0 c.in_err-uri.ensures.err in
    search rules

pub returns-clause-ok : goal.returns-clause-ok
returns-clause-ok c =
    target_to_sign-Ok c.args.scope.now c.args.head.now c.in_ok-uri.uri c.in_ok-uri.ensures.accepted c.in_ok-uri.ensures.target c.signable.result c.signable.ensures

pub returns-clause-err : goal.returns-clause-err
returns-clause-err c =
    target_to_sign-Err c.args.scope.now c.args.head.now c.in_ok-uri.uri c.in_ok-uri.ensures.accepted c.in_ok-uri.ensures.target c.signable.result c.signable.ensures
