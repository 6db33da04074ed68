-- Why a request is not signed.
use Rattle.std.specs.Prelude.{[], codes}
use Rattle.sign_base.specs.Error.{ErrorParts, new_error}
use Rattle.sign_base.specs.declared.error_kind.ErrorKind.TheVariants as kind
use Rattle.sigv4_core.specs.declared.sig_error.SigError.{SigError}
use Rattle.sigv4_core.specs.declared.sig_error.SigError.TheVariants as sig
use Rattle.sigv4_presign.specs.declared.presign_error.PresignError.{PresignError}
use Rattle.sigv4_presign.specs.declared.presign_error.PresignError.TheVariants as presign
use Rattle.aws_service.specs.declared.aws_error.AwsError.{AwsError}
use Rattle.aws_service.specs.declared.aws_error.AwsError.TheVariants.{Head, Authority, Path, Moment, Content}
use Rattle.aws_service.specs.declared.aws_error.AwsError.TheVariants.{Token, Already, Expires, Link, Plus, Host}
use Rattle.aws_service.specs.declared.aws_error.AwsError.TheVariants.{OutOfMemory}

-- a refusal of a head to be signed in its headers
abbrev pub sign_refusal : SigError → AwsError
sign_refusal sig.Head = Head
sign_refusal sig.Authority = Authority
sign_refusal sig.Path = Path
sign_refusal sig.Moment = Moment
sign_refusal sig.OutOfMemory = OutOfMemory

-- a refusal of a link
abbrev pub link_refusal : PresignError → AwsError
link_refusal presign.Head = Head
link_refusal presign.Authority = Authority
link_refusal presign.Path = Path
link_refusal presign.Moment = Moment
link_refusal presign.Already = Already
link_refusal presign.Expires = Expires
link_refusal presign.Link = Link
link_refusal presign.OutOfMemory = OutOfMemory

-- the error of each cause
abbrev pub error_of : AwsError → ErrorParts
error_of Head = new_error kind.RequestInvalid (codes "head not accepted")
error_of Authority = new_error kind.RequestInvalid (codes "request without authority is invalid for signing")
error_of Path = new_error kind.RequestInvalid (codes "path with escapes is not supported")
error_of Moment = new_error kind.RequestInvalid (codes "moment out of range")
error_of Content = new_error kind.RequestInvalid (codes "x-amz-content-sha256 is not the payload's")
error_of Token = new_error kind.RequestInvalid (codes "query has a session token already")
error_of Already = new_error kind.RequestInvalid (codes "query is presigned already")
error_of Expires = new_error kind.RequestInvalid (codes "expiry out of range")
error_of Link = new_error kind.RequestInvalid (codes "link not accepted")
error_of Plus = new_error kind.RequestInvalid (codes "plus sign in the query is ambiguous")
error_of Host = new_error kind.RequestInvalid (codes "link is for another host than agents send")
error_of OutOfMemory = new_error kind.OutOfMemory []
