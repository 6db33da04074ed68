use Rattle.aws_endpoints.specs.Answer.{session_in_answer, EndsWith}
use Rattle.aws_instance.specs.Requests.{credential_head}
use Rattle.aws_instance.specs.Instance.{credential_place}
use Rattle.aws_instance.proofs.AskedLemmas.{credential_asked}
use Rattle.aws_instance.proofs.StepLemmas.{not_sent}
use Rattle.aws_instance.proofs.steps.begin_credential.Goals as goal

pub returns-in-Ok-clause-kept : goal.returns-in-Ok-clause-kept
returns-in-Ok-clause-kept g c = λ started leads.
    c.poll_credential.ensures.kept started (credential_asked (g.X.HasSender.begun c.args.ctx.now) (g.X.HasSender.answers c.args.ctx.now) (g.X.HasVariables.variables c.args.ctx.now)
    c.args.root.now c.args.token.now c.args.role.now c.in-Ok.send c.in-Ok.ensures.ok leads)

pub returns-in-Ok-clause-gives : goal.returns-in-Ok-clause-gives
returns-in-Ok-clause-gives g c = λ leads.
    c.poll_credential.ensures.gives (credential_asked (g.X.HasSender.begun c.args.ctx.now) (g.X.HasSender.answers c.args.ctx.now) (g.X.HasVariables.variables c.args.ctx.now)
    c.args.root.now c.args.token.now c.args.role.now c.in-Ok.send c.in-Ok.ensures.ok leads)

pub returns-in-Err-clause-gives : goal.returns-in-Err-clause-gives
returns-in-Err-clause-gives g c = λ leads.
    not_sent (g.X.HasSender.answers c.args.ctx.now) (g.X.HasVariables.variables c.args.ctx.now) (credential_head c.args.root.now c.args.token.now c.args.role.now)
    credential_place (session_in_answer credential_place) EndsWith leads c.in-Err.answer c.in-Err.ensures.not
