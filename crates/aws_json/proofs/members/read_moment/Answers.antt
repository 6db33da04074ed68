use Rattle.std.proofs.Common.{◌≡◌, ◌↔◌, ℤ, Option, Some, None, Ok, Err, refl, sym, ◌∙◌}
use Rattle.std.specs.Prelude.{Result, IsOk, IsSome, IfOk}
use Rattle.std.specs.Result.{result_ok}
use Rattle.aws_json.proofs.members.read_moment.Goals as goal

-- what is there exactly where a result is good, and is its value then, is what is kept of the result
kept : {E : Type 0} (r : Result ℤ E) (o : Option ℤ) → (IsOk r ↔ IsSome o) → IfOk r (λ t. o ≡ Some t)
    → result_ok r ≡ o
kept (Ok t) o same value = sym value
kept (Err e) None same value = refl
kept (Err e) (Some t) same value = let no = same.1 refl in absurd cc

pub returns : goal.returns
returns c = c.ok.ensures.value ∙ kept c.parse.result _ c.parse.ensures.ok c.parse.ensures.value
