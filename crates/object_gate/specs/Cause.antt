-- The numbers by which a desk knows errors.
use Rattle.std.specs.Prelude.{ℕ}
use Rattle.sign_base.specs.declared.error_kind.ErrorKind.{ErrorKind}
use Rattle.sign_base.specs.declared.error_kind.ErrorKind.TheVariants.{CredentialInvalid, PermissionDenied}
use Rattle.sign_base.specs.declared.error_kind.ErrorKind.TheVariants.{ConfigInvalid, RequestInvalid}
use Rattle.sign_base.specs.declared.error_kind.ErrorKind.TheVariants.{RateLimited, Unexpected, OutOfMemory}

-- the number of an error of this kind
abbrev pub error_number : ErrorKind → ℕ
error_number CredentialInvalid = 0
error_number PermissionDenied = 1
error_number ConfigInvalid = 2
error_number RequestInvalid = 3
error_number RateLimited = 4
error_number Unexpected = 5
error_number OutOfMemory = 6

-- the number of a service that did not answer for so long as it was waited for
abbrev pub unanswered : ℕ
unanswered = 7
