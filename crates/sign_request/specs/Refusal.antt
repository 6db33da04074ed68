-- Why a call answers an error.
use Rattle.std.specs.Prelude.{◌≡◌, ℕ, List, [], codes}
use Rattle.sign_base.specs.Conversion.{IsOfKind}
use Rattle.sign_base.specs.Error.{ErrorParts, new_error}
use Rattle.sign_base.specs.declared.error_kind.ErrorKind.TheVariants.{RequestInvalid, OutOfMemory}

-- an allocation failed
abbrev pub IsOutOfMemory : ErrorParts → Type 0
IsOutOfMemory e = e ≡ new_error OutOfMemory []

-- the request is refused with this message, and the cause holds
abbrev pub RefusedFor : List ℕ → Type 0 → ErrorParts → Type 0
RefusedFor message Cause e = (e ≡ new_error RequestInvalid message) × Cause

-- the head has no authority
abbrev pub no_authority : List ℕ
no_authority = codes "request without authority is invalid for signing"

-- the method or the target of the view is not the head's any more
abbrev pub view_modified : List ℕ
view_modified = codes "signing request method or URI working view was modified"

-- a header value is not visible text
abbrev pub invalid_value : List ℕ
invalid_value = codes "invalid header value"

-- the version is none of the five
abbrev pub unknown_version : List ℕ
unknown_version = codes "unknown version"

-- the request is refused, and the cause holds
abbrev pub RefusedAs : Type 0 → ErrorParts → Type 0
RefusedAs Cause e = IsOfKind RequestInvalid e × Cause
