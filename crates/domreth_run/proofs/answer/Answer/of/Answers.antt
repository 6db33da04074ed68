use Rattle.std.proofs.Common.{◌∙◌, false, Option, refl, ap, subst}
use Rattle.signctl_core.specs.Commands.{command_by_word}
use Rattle.signctl_core.specs.declared.commands.CommandName.{CommandName}
use Rattle.domreth_run.specs.Answers.{IsAnswer}
use Rattle.domreth_run.proofs.WholeOutputs.{refused-answer}
use Rattle.domreth_run.proofs.answer.Answer.of.Goals as goal

pub returns-in-Refused : goal.returns-in-Refused
returns-in-Refused c =
    let P : Option CommandName → Type 0 = λ v. IsAnswer v c.args.input.now false c.run-status.new.sink.bytes.items in
    let named = ap (λ w. command_by_word w) c.in-Ok.ensures.ok ∙ c.word_of.ensures in
    subst P named
    (refused-answer _ _ c.args.input.now c.run-status.new.source.left.now c.new-sink.result.bytes.items c.run-status.new.sink.bytes.items
    refl refl refl c.new-sink.ensures.bytes refl _ c.in-Refused.ensures)
