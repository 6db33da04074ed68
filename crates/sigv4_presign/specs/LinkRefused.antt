-- Why a link is not made, as an error.
use Rattle.std.specs.Prelude.{[], codes}
use Rattle.sign_base.specs.Error.{ErrorParts, new_error}
use Rattle.sign_base.specs.declared.error_kind.ErrorKind.TheVariants as kind
use Rattle.sigv4_presign.specs.declared.presign_error.PresignError.{PresignError}
use Rattle.sigv4_presign.specs.declared.presign_error.PresignError.TheVariants.{Head, Authority, Path, Moment}
use Rattle.sigv4_presign.specs.declared.presign_error.PresignError.TheVariants.{Already, Expires, Link}
use Rattle.sigv4_presign.specs.declared.presign_error.PresignError.TheVariants.{OutOfMemory}

-- the error of each cause
abbrev pub error_of : PresignError → ErrorParts
error_of Head = new_error kind.RequestInvalid (codes "head not accepted")
error_of Authority = new_error kind.RequestInvalid (codes "request without authority is invalid for signing")
error_of Path = new_error kind.RequestInvalid (codes "path with escapes is not supported")
error_of Moment = new_error kind.RequestInvalid (codes "moment out of range")
error_of Already = new_error kind.RequestInvalid (codes "query is presigned already")
error_of Expires = new_error kind.RequestInvalid (codes "expiry out of range")
error_of Link = new_error kind.RequestInvalid (codes "link not accepted")
error_of OutOfMemory = new_error kind.OutOfMemory []
