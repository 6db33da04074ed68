use Rattle.aws_instance.specs.Requests.{role_head}
use Rattle.aws_instance.specs.Answers.{word_place, word_in_answer}
use Rattle.aws_instance.specs.declared.asked_word.AskedWord.TheVariants.{Role}
use Rattle.aws_instance.specs.Instance.{GivesCredential}
use Rattle.aws_instance.proofs.AskedLemmas.{role_asked}
use Rattle.aws_instance.proofs.StepLemmas.{not_sent}
use Rattle.aws_instance.proofs.steps.begin_role.Goals as goal

pub returns-in-Ok-clause-kept : goal.returns-in-Ok-clause-kept
returns-in-Ok-clause-kept g c = λ started leads.
    c.poll_role.ensures.kept started (role_asked (g.X.HasSender.begun c.args.ctx.now) (g.X.HasSender.answers c.args.ctx.now) (g.X.HasVariables.variables c.args.ctx.now)
    c.args.root c.args.token c.in-Ok.send c.in-Ok.ensures.ok leads)

pub returns-in-Ok-clause-gives : goal.returns-in-Ok-clause-gives
returns-in-Ok-clause-gives g c = λ leads.
    c.poll_role.ensures.gives (role_asked (g.X.HasSender.begun c.args.ctx.now) (g.X.HasSender.answers c.args.ctx.now) (g.X.HasVariables.variables c.args.ctx.now)
    c.args.root c.args.token c.in-Ok.send c.in-Ok.ensures.ok leads)

pub returns-in-Err-clause-gives : goal.returns-in-Err-clause-gives
returns-in-Err-clause-gives g c = λ leads.
    not_sent (g.X.HasSender.answers c.args.ctx.now) (g.X.HasVariables.variables c.args.ctx.now) (role_head c.args.root c.args.token)
    (word_place Role) (word_in_answer Role) (GivesCredential (g.X.HasSender.answers c.args.ctx.now) c.args.root c.args.token) leads c.in-Err.answer c.in-Err.ensures.not
