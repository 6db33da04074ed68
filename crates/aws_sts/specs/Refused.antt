-- Why a role is not asked for, as an error.
use Rattle.std.specs.Prelude.{[], codes}
use Rattle.sign_base.specs.Error.{ErrorParts, new_error}
use Rattle.sign_base.specs.declared.error_kind.ErrorKind.TheVariants as kind
use Rattle.aws_service.specs.Refused.{error_of as signing_error}
use Rattle.aws_sts.specs.declared.role_error.RoleError.{RoleError}
use Rattle.aws_sts.specs.declared.role_error.RoleError.TheVariants.{Duration, Signing, Head, OutOfMemory}

-- the error of each cause
abbrev pub error_of : RoleError → ErrorParts
error_of Duration = new_error kind.RequestInvalid (codes "a role's session lasts from 15 minutes to 12 hours")
error_of (Signing why) = signing_error why
error_of Head = new_error kind.RequestInvalid (codes "signed head not accepted")
error_of OutOfMemory = new_error kind.OutOfMemory []
