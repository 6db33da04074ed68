-- A refusal as an error.
use Rattle.std.specs.Prelude.{ℕ, List}
use Rattle.sign_base.specs.Error.{ErrorParts}
use Rattle.desk_driver.specs.RefusalText.{range_error}
use Rattle.signer.specs.RefusalText.{missing_error, short_error}
use Rattle.signer.specs.declared.refusal.Refusal.{Refusal}
use Rattle.signer.specs.declared.refusal.Refusal.TheVariants.{Missing, Short, Range, Loader, Service}

-- the error of a refusal, of credentials of this type
abbrev pub error_of : List ℕ → Refusal → ErrorParts
error_of name Missing = missing_error name
error_of name (Short deadline) = short_error name deadline
error_of name Range = range_error name
error_of name (Loader e) = e
error_of name (Service e) = e

-- the refusal has the error of a provider or of a service
abbrev pub HasError : Refusal → Type 0
HasError (Loader e) = Unit {0}
HasError (Service e) = Unit {0}
HasError _ = ⊥
