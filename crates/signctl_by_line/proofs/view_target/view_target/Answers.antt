use Rattle.sign_request.specs.PlainTarget.{plain_target}
use Rattle.signctl_by_line.proofs.Views.{view_of_signed, view_refused}
use Rattle.signctl_by_line.proofs.view_target.view_target.Goals as goal

pub returns-in-Ok-found-clause-ok : goal.returns-in-Ok-found-clause-ok
returns-in-Ok-found-clause-ok c =
    view_of_signed c.args.head.now c.in-Ok.scope c.in-Ok.ensures (plain_target c.in-Ok-found.uri) c.in-Ok-found.ensures.ok

pub returns-in-Err-clause-err : goal.returns-in-Err-clause-err
returns-in-Err-clause-err c =
    view_refused c.args.head.now c.in-Ok.scope c.in-Ok.ensures c.in-Err.why c.refusal_as.result c.refusal_as.ensures c.in-Err.ensures.err
