use Rattle.aws_instance.proofs.AskedLemmas.{token_is_ready}
use Rattle.aws_instance.proofs.steps.start.Goals as goal

pub returns-in-Ok-clause-ready : goal.returns-in-Ok-clause-ready
returns-in-Ok-clause-ready g c = λ all.
    c.poll_token.ensures.ready
    (token_is_ready (g.X.HasSender.begun c.args.ctx.now) (g.X.HasSender.answers c.args.ctx.now) (g.X.HasVariables.variables c.args.ctx.now)
    (g.X.HasSender.send_ready c.args.ctx.now) _ _ all c.in-Ok.ensures.ok) all
