-- What a service of AWS gives.
use Rattle.std.specs.Prelude.{◌≡◌, ◌⊎◌, ℕ, ℤ, ◌/◌, Option, Some, None, option_map, Result, Ok, Err}
use Rattle.std.specs.Duration.{as_nanos}
use Rattle.credentials.specs.Operation.{Operation, SignOutcome}
use Rattle.credentials.specs.declared.polled.Polled.TheVariants.{Ready, Failed, OutOfMemory}
use Rattle.sign_base.specs.declared.head.Head.{Head}
use Rattle.sigv4_core.specs.Service.{left_by}
use Rattle.aws_credentials.specs.Clock.{AtToldMoment}
use Rattle.aws_credentials.specs.Session.{Session}
use Rattle.aws_service.specs.Refused.{error_of}
use Rattle.aws_service.specs.ServiceView.{ServiceView}
use Rattle.aws_service.specs.SessionHead.{head_signing}
use Rattle.aws_service.specs.SessionLink.{link_signing}
use Rattle.aws_service.specs.declared.aws_error.AwsError.{AwsError}
use Rattle.aws_service.specs.declared.service.AwsWork.{AwsWork}

-- without a duration the head is signed in its headers; with one, its URI becomes a link that is good for the
-- duration's whole seconds
unfoldable pub aws_signing : ServiceView → Session → Option ℕ → ℤ → Head → Result Head AwsError
aws_signing service session None now head = head_signing service session now head
aws_signing service session (Some nanos) now head = link_signing service session (nanos / 1000000000) now head

-- the signed head; or the cause, and the head as it was
abbrev pub AnswersSigning : Result Head AwsError → Head → SignOutcome → Type 0
AnswersSigning (Ok signed) head outcome = outcome ≡ left_by (Ready tt) signed
AnswersSigning (Err why) head outcome = outcome ≡ left_by (Failed (error_of why)) head

-- the answer for a moment that the clock may have told; or an allocation failed, and the head is as it was
abbrev pub GivesSigned : (ℤ → Type 0) → ServiceView → Operation Session → Head → SignOutcome → Type 0
GivesSigned Tells service operation head outcome =
    AtToldMoment Tells (λ now. AnswersSigning
    (aws_signing service operation.credential operation.expires_in now head) head outcome)
    ⊎ (outcome ≡ left_by OutOfMemory head)

-- the work is for this credential and this duration
abbrev pub IsWorkOf : Operation Session → AwsWork → Type 0
IsWorkOf operation work =
    (work.session ≡ operation.credential) × (option_map as_nanos work.expires_in ≡ operation.expires_in)
