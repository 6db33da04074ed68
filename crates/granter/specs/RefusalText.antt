-- The errors of a granter's refusals.
use Rattle.std.specs.Prelude.{ℕ, ℤ, List, codes}
use Rattle.sign_base.specs.Error.{ErrorParts}
use Rattle.desk_driver.specs.RefusalText.{credential_error, credential_error_with, moment_line}

-- no provider has a source
abbrev pub missing_error : List ℕ → ErrorParts
missing_error name = credential_error (codes "failed to load source credential") name

-- the loaded source does not last to the deadline
abbrev pub short_error : List ℕ → ℤ → ErrorParts
short_error name deadline =
    credential_error_with (codes "refreshed source credential expires before the granting deadline") name
    (moment_line (codes "required_valid_until") deadline)

-- the granted credential is not valid at this moment
abbrev pub stale_error : List ℕ → ℤ → ErrorParts
stale_error name moment =
    credential_error_with (codes "granted credential is not currently usable") name
    (moment_line (codes "validated_at") moment)
