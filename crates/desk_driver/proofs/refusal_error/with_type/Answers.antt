use Rattle.std.proofs.Common.{◌≡◌, ◌∙◌, ◌++◌, ◌∷◌, [], List, ℕ, IfOk, subst}
use Rattle.sign_base.specs.Error.{ErrorParts}
use Rattle.desk_driver.specs.RefusalText.{type_line}
use Rattle.desk_driver.proofs.refusal_error.with_type.Goals as goal

pub returns : goal.returns
returns c =
    let text : c.as_str.result.now ≡ type_line c.args.name.now = c.as_str.ensures.value ∙ c.in_ok-line.ensures.ok in
    subst (λ (t : List ℕ). IfOk c.with_line.result (λ (with : ErrorParts). with ≡ record c.args.e { context = c.args.e.context ++ t ∷ [] })) text c.with_line.ensures
