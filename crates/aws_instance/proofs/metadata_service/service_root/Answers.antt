use Rattle.std.proofs.Common.{◌≡◌, ℕ, List, Bool, true, false, Option, None, Result, Ok, sym, ap, ◌∙◌, subst, codes, option_map, Bor, if◌then◌else◌}
use Rattle.sign_base.specs.Error.{ErrorParts}
use Rattle.aws_credentials.specs.Found.{unless_empty}
use Rattle.aws_json.specs.Reading.{Reading, IsReading}
use Rattle.aws_instance.specs.Requests.{root_of, is_true}
use Rattle.aws_instance.proofs.metadata_service.service_root.Goals as goal

-- where the service is not switched off, its address is the one that is named
named-root : (off : Bool) (set given : Option (List ℕ)) (read : Result (Option (List ℕ)) ErrorParts) → off ≡ false → given ≡ unless_empty set
    → IsReading (λ root. root) (root_of given) read
    → IsReading (λ root. root) (if off then Ok None else root_of (unless_empty set)) read
named-root true set given read on is reading = absurd cc
named-root false set given read on is reading =
    let P : Option (List ℕ) → Type 0 = λ o. IsReading (λ root. root) (root_of o) read in subst P is reading

pub returns : goal.returns
returns g c =
    let variables = g.X.HasVariables.variables c.args.ctx.now in
    named-root (is_true (variables (codes "AWS_EC2_METADATA_DISABLED"))) (variables (codes "AWS_EC2_METADATA_SERVICE_ENDPOINT"))
    (option_map (λ (t : Bor (List ℕ)). t.now) c.unless_empty.result) c.root_of.result
    (sym c.in_ok-is_switched_off.ensures ∙ c.if-branch.false)
    (c.unless_empty.ensures ∙ ap unless_empty c.in_ok-named.ensures) c.root_of.ensures
