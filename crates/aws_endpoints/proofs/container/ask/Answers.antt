use Rattle.aws_endpoints.specs.Container.{container_request}
use Rattle.aws_endpoints.proofs.Asked.{asked_is_ready}
use Rattle.aws_endpoints.proofs.container.ask.Goals as goal

pub returns-in-Ok-Some-clause-ready : goal.returns-in-Ok-Some-clause-ready
returns-in-Ok-Some-clause-ready g c = λ ready.
    let asked = rw c.in-Ok-Some.field-0-is at c.in-Ok-Some.ensures.ok in
    asked_is_ready (g.X.HasSender.begun c.args.ctx.now) (g.X.HasSender.send_ready c.args.ctx.now)
    (container_request (g.X.HasVariables.variables c.args.ctx.now)) c.in-Ok-Some.send ready asked
