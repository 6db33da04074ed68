use Rattle.aws_instance.specs.Requests.{token_head}
use Rattle.aws_instance.specs.Answers.{word_place, word_in_answer}
use Rattle.aws_instance.specs.declared.asked_word.AskedWord.TheVariants.{Token}
use Rattle.aws_instance.specs.Instance.{GivesRole}
use Rattle.aws_instance.proofs.AskedLemmas.{none_is_given, refusal_is_given, root_leads, token_asked}
use Rattle.aws_instance.proofs.StepLemmas.{not_sent}
use Rattle.aws_instance.proofs.steps.ask_token.Goals as goal

pub returns-in-Ok-None-clause-gives : goal.returns-in-Ok-None-clause-gives
returns-in-Ok-None-clause-gives g c =
    none_is_given (g.X.HasSender.answers c.args.ctx.now) (g.X.HasVariables.variables c.args.ctx.now) (rw c.in-Ok-None.field-0-is at c.in-Ok-None.ensures)

pub returns-in-Err-clause-gives : goal.returns-in-Err-clause-gives
returns-in-Err-clause-gives g c =
    refusal_is_given (g.X.HasSender.answers c.args.ctx.now) (g.X.HasVariables.variables c.args.ctx.now) c.in-Err.error c.failed.result
    c.in-Err.ensures c.failed.ensures.memory c.failed.ensures.other

pub returns-in-Ok-clause-ok : goal.returns-in-Ok-clause-ok
returns-in-Ok-clause-ok g c =
    token_asked (g.X.HasSender.begun c.args.ctx.now) (g.X.HasSender.answers c.args.ctx.now) (g.X.HasVariables.variables c.args.ctx.now) c.in-Ok-Some.root c.in-Ok.send
    (rw c.in-Ok-Some.field-0-is at c.in-Ok-Some.ensures) c.in-Ok.ensures.ok

pub returns-in-Err-send_for_token-clause-gives : goal.returns-in-Err-send_for_token-clause-gives
returns-in-Err-send_for_token-clause-gives g c =
    let root = c.in-Ok-Some.root in
    not_sent (g.X.HasSender.answers c.args.ctx.now) (g.X.HasVariables.variables c.args.ctx.now) (token_head root)
    (word_place Token) (word_in_answer Token) (GivesRole (g.X.HasSender.answers c.args.ctx.now) root)
    (root_leads (g.X.HasSender.answers c.args.ctx.now) (g.X.HasVariables.variables c.args.ctx.now) root (rw c.in-Ok-Some.field-0-is at c.in-Ok-Some.ensures))
    c.in-Err-send_for_token.answer c.in-Err-send_for_token.ensures.not
