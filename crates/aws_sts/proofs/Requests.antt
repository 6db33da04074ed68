-- Signed heads, and the requests that are made of them.
use Rattle.std.proofs.Common.{◌≡◌, ℕ, ℤ, List, true, false, Ok, Err, refl}
use Rattle.std.specs.Prelude.{Result, IsOkAnd}
use Rattle.http.specs.Request.{head_of, body_of}
use Rattle.http.specs.declared.request.Parts.{Parts}
use Rattle.http.specs.declared.request.Request.{Request}
use Rattle.credentials.specs.Operation.{Operation}
use Rattle.sign_base.specs.declared.head.Head.{Head}
use Rattle.sign_request.specs.AcceptedHead.{is_accepted_head}
use Rattle.sign_request.specs.PlainHead.{ArePartsOf}
use Rattle.aws_credentials.specs.Session.{Session}
use Rattle.aws_service.specs.SessionHead.{head_signing}
use Rattle.aws_service.specs.declared.aws_error.AwsError.{AwsError}
use Rattle.aws_sts.specs.Role.{RoleView, is_length_allowed, role_form, role_head}
use Rattle.aws_sts.specs.RoleRequest.{service_for, signing_refusal, head_for, asking_head, IsRequestOf, IsRequestAt}
use Rattle.aws_sts.specs.declared.role_error.RoleError.{RoleError}
use Rattle.aws_sts.specs.declared.role_error.RoleError.TheVariants as refusal

module _ (asked : RoleView) (source : Session) (now : ℤ) (body : List ℕ) where
  -- the head that is signed for this body
  abbrev signing : Result Head AwsError
  signing = head_signing (service_for asked.scope body) source now (role_head asked.role)

  -- a signed head that is accepted is sent
  pub accepted_is_sent : (head : Head) (parts : Parts) → signing ≡ Ok head → is_accepted_head head ≡ true
      → ArePartsOf head parts → IsOkAnd (head_for asked source now body) (λ h. ArePartsOf h parts)
  unfolding head_for
  accepted_is_sent head parts signed accepted are = rw (signed, accepted) are

  -- one that is not is refused
  pub other_is_refused : (head : Head) → signing ≡ Ok head → is_accepted_head head ≡ false
      → head_for asked source now body ≡ Err refusal.Head
  unfolding head_for
  other_is_refused head signed other = rw (signed, other) refl

  -- and so is one that cannot be signed
  pub unsigned_is_refused : (why : AwsError) → signing ≡ Err why
      → head_for asked source now body ≡ Err (signing_refusal why)
  unfolding head_for
  unsigned_is_refused why unsigned = rw unsigned refl

-- a head with a body is a request
with_body : (head : Result Head RoleError) (body : List ℕ) (request : Request (List ℕ))
    → IsOkAnd head (λ h. ArePartsOf h (head_of request)) → body_of request ≡ body
    → IsOkAnd head (λ h. IsRequestOf h body request)
with_body (Ok head) body request parts content = record { parts = parts; content = content }
with_body (Err why) body request parts content = absurd parts

module _ (asked : RoleView) (operation : Operation Session) (now : ℤ) where
  -- the head that asks for the role for so long
  abbrev made : Result Head RoleError
  made = head_for asked operation.credential now (role_form asked.role operation.expires_in)

  -- with its form it is the request
  pub is_request : (request : Request (List ℕ)) → is_length_allowed operation.expires_in ≡ true
      → IsOkAnd made (λ head. ArePartsOf head (head_of request))
      → body_of request ≡ role_form asked.role operation.expires_in → IsRequestAt asked operation request now
  unfolding asking_head
  is_request request allowed parts content =
      rw allowed (with_body made (role_form asked.role operation.expires_in) request parts content)

  -- why there is no such head is why there is no request
  pub is_refusal : (why : RoleError) → is_length_allowed operation.expires_in ≡ true → made ≡ Err why
      → asking_head asked operation now ≡ Err why
  unfolding asking_head
  is_refusal why allowed refused = rw allowed refused

  -- a length that no session may have is refused
  pub length_is_refused : is_length_allowed operation.expires_in ≡ false
      → asking_head asked operation now ≡ Err refusal.Duration
  unfolding asking_head
  length_is_refused other = rw other refl
