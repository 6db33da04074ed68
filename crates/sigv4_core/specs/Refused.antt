-- Why a call refuses what it is given.
use Rattle.std.specs.Prelude.{◌≡◌, ◌⊎◌, ℕ, List, [], codes}
use Rattle.sign_base.specs.Error.{ErrorParts, new_error}
use Rattle.sign_base.specs.declared.error_kind.ErrorKind.{ErrorKind}
use Rattle.sign_base.specs.declared.error_kind.ErrorKind.TheVariants as kind
use Rattle.sigv4_core.specs.declared.sig_error.SigError.{SigError}
use Rattle.sigv4_core.specs.declared.sig_error.SigError.TheVariants.{Head, Authority, Path, Moment}
use Rattle.sigv4_core.specs.declared.sig_error.SigError.TheVariants.{OutOfMemory}

-- an allocation failed, or the error is this one and its cause holds
abbrev pub RefusedWith : ErrorKind → List ℕ → Type 0 → ErrorParts → Type 0
RefusedWith error_kind message Cause e =
    (e ≡ new_error kind.OutOfMemory []) ⊎ ((e ≡ new_error error_kind message) × Cause)

-- a refused head as an error
abbrev pub error_of : SigError → ErrorParts
error_of Head = new_error kind.RequestInvalid (codes "head not accepted")
error_of Authority = new_error kind.RequestInvalid (codes "request without authority is invalid for signing")
error_of Path = new_error kind.RequestInvalid (codes "path with escapes is not supported")
error_of Moment = new_error kind.RequestInvalid (codes "moment out of range")
error_of OutOfMemory = new_error kind.OutOfMemory []
