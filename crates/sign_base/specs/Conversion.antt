-- What the error of another library becomes.
use Rattle.std.specs.Prelude.{◌≡◌, ℕ, List, Bool, true, false, Option, IfSome}
use Rattle.std.specs.declared.io.ErrorKind.{ErrorKind as IoErrorKind}
use Rattle.std.specs.declared.io.ErrorKind.TheVariants as io
use Rattle.sign_base.specs.declared.error_kind.ErrorKind.{ErrorKind}
use Rattle.sign_base.specs.declared.error_kind.ErrorKind.TheVariants.{PermissionDenied, ConfigInvalid}
use Rattle.sign_base.specs.declared.error_kind.ErrorKind.TheVariants.{Unexpected}
use Rattle.sign_base.specs.Error.{ErrorParts, new_error}

-- a new error of this kind, whatever its message
abbrev pub IsOfKind : ErrorKind → ErrorParts → Type 0
IsOfKind kind e = e ≡ new_error kind e.message

-- a new error of this kind, whose message is what its cause prints, where that is known
abbrev pub IsOfKindWithText : ErrorKind → Option (List ℕ) → ErrorParts → Type 0
IsOfKindWithText kind printed e = IsOfKind kind e × IfSome printed (λ text. e.message ≡ text)

-- a missing file is a wrong setting, and one that may not be read is a permission denied
abbrev pub kind_of_io : IoErrorKind → ErrorKind
kind_of_io io.NotFound = ConfigInvalid
kind_of_io io.PermissionDenied = PermissionDenied
kind_of_io _ = Unexpected

-- what timed out, was interrupted or met nobody listening may pass later
abbrev pub is_retried_io : IoErrorKind → Bool
is_retried_io io.TimedOut = true
is_retried_io io.Interrupted = true
is_retried_io io.ConnectionRefused = true
is_retried_io _ = false
