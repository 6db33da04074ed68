-- A load that asks an endpoint step by step, and what it gives.
use Rattle.std.specs.Prelude.{◌≡◌, ◌⊎◌, ℕ, false, List, [], ◌++◌, codes}
use Rattle.std.specs.Prelude.{Option, Some, None, Result, Ok, Err}
use Rattle.http.specs.declared.request.Request.{Request}
use Rattle.http.specs.declared.response.Response.{Response}
use Rattle.http.specs.Request.{head_of, body_of}
use Rattle.sign_base.specs.Error.{ErrorParts, new_error}
use Rattle.sign_base.specs.declared.error_kind.ErrorKind.TheVariants as kind
use Rattle.sign_base.specs.declared.head.Head.{Head}
use Rattle.sign_request.specs.AcceptedHead.{is_accepted_head}
use Rattle.sign_request.specs.PlainHead.{ArePartsOf}
use Rattle.credentials.specs.declared.polled.Polled.{Polled}
use Rattle.credentials.specs.declared.polled.Polled.TheVariants.{Pending, Ready, Failed, OutOfMemory}
use Rattle.aws_credentials.specs.Session.{Session}
use Rattle.aws_json.specs.Reading.{Reading}

-- the request has this head and no body
abbrev pub IsRequestOf : Head → Request (List ℕ) → Type 0
IsRequestOf head req = ArePartsOf head (head_of req) × (body_of req ≡ [])

-- the error that no request can be made of a head
abbrev pub no_request : List ℕ → ErrorParts
no_request place = new_error kind.CredentialInvalid (codes "no request can be made for " ++ place)

module _ {S : Type 0} (Begun : Request (List ℕ) → S → Type 0) where
  -- the send was begun with a request of this head
  abbrev pub IsSendOf : Head → S → Type 0
  IsSendOf head send = (req : Request (List ℕ)) × IsRequestOf head req × Begun req send

  -- a send was begun; or no request can be made of the head; or an allocation failed
  abbrev pub IsBegun : Head → List ℕ → Result S ErrorParts → Type 0
  IsBegun head place (Ok send) = IsSendOf head send
  IsBegun head place (Err e) =
      ((is_accepted_head head ≡ false) × (e ≡ no_request place)) ⊎ (e ≡ new_error kind.OutOfMemory [])

-- what a load gives by what was read of a response: what comes next, or that there is no credential, or why
-- it fails
abbrev pub GivesRead : {A : Type 0} → (A → Polled (Option Session) → Type 0) → Reading (Option A)
    → Polled (Option Session) → Type 0
GivesRead Next (Ok (Some value)) answer = Next value answer
GivesRead Next (Ok None) answer = answer ≡ Ready None
GivesRead Next (Err message) answer = answer ≡ Failed (new_error kind.CredentialInvalid message)

-- what it gives by the answer of the send
abbrev pub GivesPolled : {A : Type 0} → (Response (List ℕ) → Reading (Option A))
    → (A → Polled (Option Session) → Type 0) → Polled (Response (List ℕ)) → Polled (Option Session) → Type 0
GivesPolled read Next (Ready response) answer = GivesRead Next (read response) answer
GivesPolled read Next (Failed e) answer = answer ≡ Failed e
GivesPolled read Next Pending answer = answer ≡ Pending
GivesPolled read Next OutOfMemory answer = answer ≡ OutOfMemory

module _ (Answers : Request (List ℕ) → Polled (Response (List ℕ)) → Type 0) where
  -- what a load gives that asks with this head, by an answer that may come, or where no request can be made
  abbrev pub GivesAsked : {A : Type 0} → Head → List ℕ → (Response (List ℕ) → Reading (Option A))
      → (A → Polled (Option Session) → Type 0) → Polled (Option Session) → Type 0
  GivesAsked head place read Next answer =
      ((req : Request (List ℕ)) × IsRequestOf head req × ((polled : Polled (Response (List ℕ)))
      × Answers req polled × GivesPolled read Next polled answer))
      ⊎ ((is_accepted_head head ≡ false) × (answer ≡ Failed (no_request place)))
