-- The errors of a signer's refusals.
use Rattle.std.specs.Prelude.{ℕ, ℤ, List, codes}
use Rattle.sign_base.specs.Error.{ErrorParts}
use Rattle.desk_driver.specs.RefusalText.{credential_error, credential_error_with, moment_line}

-- no provider has a credential
abbrev pub missing_error : List ℕ → ErrorParts
missing_error name = credential_error (codes "failed to load signing credential") name

-- the loaded credential does not last to the deadline
abbrev pub short_error : List ℕ → ℤ → ErrorParts
short_error name deadline =
    credential_error_with
    (codes "refreshed signing credential expires before the requested operation deadline") name
    (moment_line (codes "required_valid_until") deadline)
