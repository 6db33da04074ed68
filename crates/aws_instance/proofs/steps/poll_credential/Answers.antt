use Rattle.aws_instance.proofs.AskedLemmas.{credential_ended, credential_stays}
use Rattle.aws_instance.proofs.steps.poll_credential.Goals as goal

pub returns-in-Pending-clause-kept : goal.returns-in-Pending-clause-kept
returns-in-Pending-clause-kept g c = λ started asked.
    credential_stays (g.X.HasSender.begun c.args.ctx.now) (g.X.HasSender.answers c.args.ctx.now) (g.X.HasVariables.variables c.args.ctx.now) c.args.send
    c.poll_http_send-polled.new.send c.poll_http_send-polled.result c.poll_http_send-polled.ensures.kept
    (c.session_polled-answer.ensures.pending.0 c.in-Pending.is) asked

pub returns-in-Pending-clause-gives : goal.returns-in-Pending-clause-gives
returns-in-Pending-clause-gives g c = λ asked.
    credential_ended (g.X.HasSender.begun c.args.ctx.now) (g.X.HasSender.answers c.args.ctx.now) (g.X.HasVariables.variables c.args.ctx.now) c.args.send
    c.poll_http_send-polled.result c.session_polled-answer.result c.poll_http_send-polled.ensures.gives
    c.session_polled-answer.ensures.gives asked

pub returns-in_default : goal.returns-in_default
returns-in_default g c = record {
  kept = λ started asked. started;
  ready = λ ready pending. c.poll_http_send-polled.ensures.ready ready (c.session_polled-answer.ensures.pending.0 pending);
  gives = λ asked. credential_ended (g.X.HasSender.begun c.args.ctx.now) (g.X.HasSender.answers c.args.ctx.now) (g.X.HasVariables.variables c.args.ctx.now) c.args.send
      c.poll_http_send-polled.result c.session_polled-answer.result c.poll_http_send-polled.ensures.gives
      c.session_polled-answer.ensures.gives asked;
}
