use Rattle.std.proofs.Common.{◌≡◌, ◌++◌, ◌∷◌, [], sym, subst}
use Rattle.std.proofs.lemmas.List.{append-nil}
use Rattle.signctl_format.specs.ScriptEvents.{ScriptItem}
use Rattle.signctl_script.specs.ScriptOutput.{answer_to}
use Rattle.signctl_script.specs.SessionState.{RepresentsItems}
use Rattle.signctl_script.proofs.NextLine.{next-silent}
use Rattle.signctl_script.proofs.session.Session.answer_item.Goals as goal

pub returns-in-Silent-clause-answers : goal.returns-in-Silent-clause-answers
returns-in-Silent-clause-answers c = λ items stands good.
    let session = c.args.self.now in
    let text = c.args.text.now.items in
    let P : ScriptItem → Type 0 = λ x. RepresentsItems session (items ++ x ∷ []) × (text ≡ text ++ answer_to items x) in
    subst P (sym c.in-Silent.is) (next-silent session items stands, sym (append-nil text))
