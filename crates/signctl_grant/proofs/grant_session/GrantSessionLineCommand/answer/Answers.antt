use Rattle.std.proofs.Common.{◌≡◌, ◌++◌, ◌∷◌, [], sym, subst}
use Rattle.std.proofs.lemmas.List.{append-nil}
use Rattle.signctl_grant.specs.GrantEvents.{GrantItem}
use Rattle.signctl_grant.specs.GrantOutput.{answer_to}
use Rattle.signctl_grant.specs.GrantSessionState.{GrantSessionRepresents}
use Rattle.signctl_grant.proofs.NextLine.{next-silent}
use Rattle.signctl_grant.proofs.grant_session.GrantSessionLineCommand.answer.Goals as goal

pub returns-in-Silent : goal.returns-in-Silent
returns-in-Silent c = λ items stands may.
    let session = c.args.self.now in
    let text = c.args.text.now.items in
    let P : GrantItem → Type 0 = λ x. GrantSessionRepresents session (items ++ x ∷ []) × (text ≡ text ++ answer_to items x) in
    subst P (sym c.in-Silent.is) (next-silent session items stands, sym (append-nil text))
