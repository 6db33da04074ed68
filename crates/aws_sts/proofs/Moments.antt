-- The moment that a text names, where one does.
use Rattle.std.proofs.Common.{◌≡◌, ℕ, ℤ, true, false, List, Ok, Err, Some, None, refl, sym}
use Rattle.std.specs.Prelude.{◌↔◌, Option, Result, IsOk, IsSome, IfOk}
use Rattle.std.specs.Option.{option_and_then}
use Rattle.std.specs.Result.{result_ok}
use Rattle.sign_base.specs.Error.{ErrorParts}
use Rattle.sign_time.specs.Reading.{read_moment}

none_unless : (o : Option ℤ) → (IsSome o → ⊥) → None ≡ o
none_unless None not = refl
none_unless (Some t) not = absurd (not refl)

-- a text that is read says what reading it says
pub read_of_text : (text : List ℕ) (found : Option (List ℕ)) (read : Result ℤ ErrorParts) → Some text ≡ found
    → (IsOk read ↔ IsSome (read_moment text)) → IfOk read (λ t. read_moment text ≡ Some t)
    → result_ok read ≡ option_and_then read_moment found
read_of_text text found (Ok t) e ok value = rw (← e) (sym value)
read_of_text text found (Err why) e ok value =
    rw (← e) (none_unless (read_moment text) (λ some. let is : false ≡ true = ok.1 some in cc))
