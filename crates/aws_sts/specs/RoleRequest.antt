-- The request for a role, signed.
use Rattle.std.specs.Prelude.{◌≡◌, ℕ, ℤ, List, [], Result, Ok, Err, IsOkAnd, if◌then◌else◌}
use Rattle.hex.specs.Hex.{encode_lower}
use Rattle.http.specs.Request.{head_of, body_of}
use Rattle.http.specs.declared.request.Request.{Request}
use Rattle.sha2.specs.Sha256.{sha256}
use Rattle.credentials.specs.Operation.{Operation}
use Rattle.sign_base.specs.declared.head.Head.{Head}
use Rattle.sign_request.specs.AcceptedHead.{is_accepted_head}
use Rattle.sign_request.specs.Keys.{no_keys}
use Rattle.sign_request.specs.PlainHead.{ArePartsOf}
use Rattle.sigv4_core.specs.Scope.{Scope}
use Rattle.aws_credentials.specs.Session.{Session}
use Rattle.aws_service.specs.ServiceView.{ServiceView}
use Rattle.aws_service.specs.SessionHead.{head_signing}
use Rattle.aws_service.specs.declared.aws_error.AwsError.{AwsError}
use Rattle.aws_service.specs.declared.aws_error.AwsError.TheVariants as aws
use Rattle.aws_service.specs.declared.content_rule.ContentRule.TheVariants.{Unstated}
use Rattle.aws_sts.specs.Role.{RoleView, is_length_allowed, role_form, role_head}
use Rattle.aws_sts.specs.declared.role_error.RoleError.{RoleError}
use Rattle.aws_sts.specs.declared.role_error.RoleError.TheVariants as refusal

-- how a request with this body is signed: for the digest of the body, and with all its headers
abbrev pub service_for : Scope → List ℕ → ServiceView
service_for scope body = record {
  scope = scope;
  payload = encode_lower (sha256 body);
  content = Unstated;
  left_out = [];
  keys = no_keys;
}

-- a refusal of the head to be signed
abbrev pub signing_refusal : AwsError → RoleError
signing_refusal aws.OutOfMemory = refusal.OutOfMemory
signing_refusal why = refusal.Signing why

-- the signed head, where `http` accepts it
abbrev pub accepted_or_refused : Result Head AwsError → Result Head RoleError
accepted_or_refused (Ok head) = if is_accepted_head head then Ok head else Err refusal.Head
accepted_or_refused (Err why) = Err (signing_refusal why)

-- the head of the request with this body, signed, or why it is not
unfoldable pub head_for : RoleView → Session → ℤ → List ℕ → Result Head RoleError
head_for asked source now body =
    accepted_or_refused (head_signing (service_for asked.scope body) source now (role_head asked.role))

-- the head that asks for a role at this moment, or why none does
unfoldable pub asking_head : RoleView → Operation Session → ℤ → Result Head RoleError
asking_head asked operation now =
    if is_length_allowed operation.expires_in
    then head_for asked operation.credential now (role_form asked.role operation.expires_in)
    else Err refusal.Duration

-- a request with this head and this body
pub record IsRequestOf (head : Head) (body : List ℕ) (request : Request (List ℕ)) : Type 0 where
  pub parts : ArePartsOf head (head_of request)
  pub content : body_of request ≡ body

-- the request that asks for a role at this moment
abbrev pub IsRequestAt : RoleView → Operation Session → Request (List ℕ) → ℤ → Type 0
IsRequestAt asked operation request now =
    IsOkAnd (asking_head asked operation now)
    (λ head. IsRequestOf head (role_form asked.role operation.expires_in) request)
