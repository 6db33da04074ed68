-- A refusal as an error.
use Rattle.std.specs.Prelude.{ℕ, List}
use Rattle.sign_base.specs.Error.{ErrorParts}
use Rattle.desk_driver.specs.RefusalText.{range_error}
use Rattle.granter.specs.RefusalText.{missing_error, short_error, stale_error}
use Rattle.granter.specs.declared.refusal.GrantRefusal.{GrantRefusal}
use Rattle.granter.specs.declared.refusal.GrantRefusal.TheVariants.{Missing, Short, Range, Loader, Service}
use Rattle.granter.specs.declared.refusal.GrantRefusal.TheVariants.{Stale}

-- the error of a refusal, of credentials of this type
abbrev pub error_of : List ℕ → GrantRefusal → ErrorParts
error_of name Missing = missing_error name
error_of name (Short deadline) = short_error name deadline
error_of name Range = range_error name
error_of name (Loader e) = e
error_of name (Service e) = e
error_of name (Stale moment) = stale_error name moment
