use Rattle.std.proofs.Common.{◌≡◌, ◌∙◌, ◌++◌, ◌∷◌, [], List, ℕ, IfOk, subst}
use Rattle.sign_base.specs.Error.{ErrorParts}
use Rattle.desk_driver.specs.RefusalText.{credential_error, moment_line, type_line}
use Rattle.desk_driver.proofs.refusal_error.credential_refused_at.Goals as goal

pub returns : goal.returns
returns c =
    let text : c.as_str.result.now ≡ moment_line c.args.label.now c.args.moment = c.as_str.ensures.value ∙ c.in_ok-line.ensures in
    let base : c.in_ok-e.e ≡ credential_error c.args.message.now c.args.name.now = c.in_ok-e.ensures in
    subst (λ (t : List ℕ). IfOk c.with_line.result (λ (with : ErrorParts). with ≡ record (credential_error c.args.message.now c.args.name.now) { context = type_line c.args.name.now ∷ t ∷ [] })) text
    (subst (λ (b : ErrorParts). IfOk c.with_line.result (λ (with : ErrorParts). with ≡ record b { context = b.context ++ c.as_str.result.now ∷ [] })) base c.with_line.ensures)
