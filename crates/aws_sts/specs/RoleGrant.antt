-- What a grant of a role gives, by what its clock may tell and what its HTTP object may answer.
use Rattle.std.specs.Prelude.{◌≡◌, ◌⊎◌, ⊤, ℕ, ℤ, List, Result, Ok, Err}
use Rattle.http.specs.declared.request.Request.{Request}
use Rattle.http.specs.declared.response.Response.{Response}
use Rattle.credentials.specs.Operation.{Operation}
use Rattle.credentials.specs.declared.polled.Polled.{Polled}
use Rattle.credentials.specs.declared.polled.Polled.TheVariants as polled
use Rattle.sign_base.specs.Error.{ErrorParts}
use Rattle.aws_credentials.specs.Clock.{AtToldMoment}
use Rattle.aws_credentials.specs.Session.{Session}
use Rattle.aws_sts.specs.Refused.{error_of}
use Rattle.aws_sts.specs.Role.{RoleView}
use Rattle.aws_sts.specs.RoleAnswer.{granted}
use Rattle.aws_sts.specs.RoleRequest.{IsRequestAt, asking_head}
use Rattle.aws_sts.specs.declared.role_error.RoleError.{RoleError}
use Rattle.aws_sts.specs.declared.role_work.RoleWork.{RoleWork}
use Rattle.aws_sts.specs.declared.role_work.RoleWork.TheVariants.{Refused, Sent, Answered}

-- a credential that was granted, or the error why not, as the answer of a poll
abbrev pub poll_answer : Result Session ErrorParts → Polled Session
poll_answer (Ok session) = polled.Ready session
poll_answer (Err e) = polled.Failed e

-- what a poll makes of the answer of the HTTP object: it passes on all but a response, and reads that
abbrev pub IsReadAs : Polled (Response (List ℕ)) → Polled Session → Type 0
IsReadAs polled.Pending answer = answer ≡ polled.Pending
IsReadAs (polled.Ready response) answer =
    (answer ≡ poll_answer (granted response)) ⊎ (answer ≡ polled.OutOfMemory)
IsReadAs (polled.Failed e) answer = answer ≡ polled.Failed e
IsReadAs polled.OutOfMemory answer = answer ≡ polled.OutOfMemory

-- a work answers at the next poll, unless its request is open and the HTTP object is not ready
abbrev pub IsRoleReady : {S : Type 0} → (S → Type 0) → RoleWork S → Type 0
IsRoleReady IsReady (Refused why) = ⊤
IsRoleReady IsReady (Sent send) = IsReady send
IsRoleReady IsReady (Answered response) = ⊤

module _ (Tells : ℤ → Type 0) (asked : RoleView) (operation : Operation Session) where
  -- the request is signed at a moment that the clock may have told
  abbrev pub IsToldRequest : Request (List ℕ) → Type 0
  IsToldRequest request = AtToldMoment Tells (λ now. IsRequestAt asked operation request now)

  -- at such a moment nothing can be sent, for this cause
  abbrev pub IsToldRefusal : RoleError → Type 0
  IsToldRefusal why = AtToldMoment Tells (λ now. asking_head asked operation now ≡ Err why)

  module _ (Gives : Request (List ℕ) → Polled (Response (List ℕ)) → Type 0) where
    -- a work that was begun: nothing is sent, or such a request is, or it was answered so
    abbrev pub IsRoleWork : {S : Type 0} → (Request (List ℕ) → S → Type 0) → RoleWork S → Type 0
    IsRoleWork Started (Refused why) = IsToldRefusal why
    IsRoleWork Started (Sent send) =
        (request : Request (List ℕ)) × IsToldRequest request × Started request send
    IsRoleWork Started (Answered response) =
        (request : Request (List ℕ)) × IsToldRequest request × Gives request (polled.Ready response)

    -- the cause why nothing is sent
    abbrev pub GivesRefusal : Polled Session → Type 0
    GivesRefusal answer = (why : RoleError) × IsToldRefusal why × (answer ≡ polled.Failed (error_of why))

    -- what is read of an answer to such a request
    abbrev pub GivesAnswer : Polled Session → Type 0
    GivesAnswer answer =
        (request : Request (List ℕ)) × (sent : Polled (Response (List ℕ)))
        × IsToldRequest request × Gives request sent × IsReadAs sent answer

    -- what a poll answers: one of these, or that an allocation failed
    abbrev pub GivesRole : Polled Session → Type 0
    GivesRole answer = (answer ≡ polled.OutOfMemory) ⊎ (GivesRefusal answer ⊎ GivesAnswer answer)
