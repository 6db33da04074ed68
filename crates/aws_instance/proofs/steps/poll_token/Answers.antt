use Rattle.credentials.specs.declared.polled.Polled.TheVariants.{Pending}
use Rattle.aws_instance.specs.Answers.{word_in_answer}
use Rattle.aws_instance.specs.declared.asked_word.AskedWord.TheVariants.{Token}
use Rattle.aws_instance.proofs.AskedLemmas.{token_ended, token_leads, token_stays}
use Rattle.aws_instance.proofs.StepLemmas.{ends-pending}
use Rattle.aws_instance.proofs.steps.poll_token.Goals as goal

pub returns-in-Ok-clause-kept : goal.returns-in-Ok-clause-kept
returns-in-Ok-clause-kept g c = λ started asked.
    c.begin_role.ensures.kept started (token_leads (g.X.HasSender.begun c.args.ctx.now) (g.X.HasSender.answers c.args.ctx.now) (g.X.HasVariables.variables c.args.ctx.now)
    c.args.root c.args.send c.poll_http_send-polled.result c.in-Ok.token c.poll_http_send-polled.ensures.gives c.in-Ok.ensures.ok asked)

pub returns-in-Ok-clause-gives : goal.returns-in-Ok-clause-gives
returns-in-Ok-clause-gives g c = λ asked.
    c.begin_role.ensures.gives (token_leads (g.X.HasSender.begun c.args.ctx.now) (g.X.HasSender.answers c.args.ctx.now) (g.X.HasVariables.variables c.args.ctx.now)
    c.args.root c.args.send c.poll_http_send-polled.result c.in-Ok.token c.poll_http_send-polled.ensures.gives c.in-Ok.ensures.ok asked)

pub returns-in-Err-Pending-clause-kept : goal.returns-in-Err-Pending-clause-kept
returns-in-Err-Pending-clause-kept g c = λ started asked.
    token_stays (g.X.HasSender.begun c.args.ctx.now) (g.X.HasSender.answers c.args.ctx.now) (g.X.HasVariables.variables c.args.ctx.now) c.args.root c.args.send
    c.poll_http_send-polled.new.send c.poll_http_send-polled.result c.poll_http_send-polled.ensures.kept
    (ends-pending (word_in_answer Token) c.poll_http_send-polled.result c.in-Err-Pending.field-0 c.in-Err-Pending.ensures.ends c.in-Err-Pending.field-0-is) asked

pub returns-in-Err-Pending-clause-gives : goal.returns-in-Err-Pending-clause-gives
returns-in-Err-Pending-clause-gives g c = λ asked.
    token_ended (g.X.HasSender.begun c.args.ctx.now) (g.X.HasSender.answers c.args.ctx.now) (g.X.HasVariables.variables c.args.ctx.now) c.args.root c.args.send
    c.poll_http_send-polled.result Pending c.poll_http_send-polled.ensures.gives (rw c.in-Err-Pending.field-0-is at c.in-Err-Pending.ensures.ends) asked

pub returns-in-Err : goal.returns-in-Err
returns-in-Err g c = record {
  kept = λ started asked. started;
  ready = λ ready all pending. c.poll_http_send-polled.ensures.ready ready
      (ends-pending (word_in_answer Token) c.poll_http_send-polled.result c.in-Err.answer c.in-Err.ensures.ends pending);
  gives = λ asked. token_ended (g.X.HasSender.begun c.args.ctx.now) (g.X.HasSender.answers c.args.ctx.now) (g.X.HasVariables.variables c.args.ctx.now) c.args.root c.args.send
      c.poll_http_send-polled.result c.in-Err.answer c.poll_http_send-polled.ensures.gives c.in-Err.ensures.ends asked;
}
