-- The metadata service of an instance: what a load gives that asks it for a token, then for the role, and
-- then for the credential of that role.
use Rattle.std.specs.Prelude.{◌≡◌, ◌⊎◌, ⊤, ℕ, false, List, codes, Option, Some, Result, Ok}
use Rattle.http.specs.declared.request.Request.{Request}
use Rattle.http.specs.declared.response.Response.{Response}
use Rattle.sign_base.specs.declared.head.Head.{Head}
use Rattle.sign_request.specs.AcceptedHead.{is_accepted_head}
use Rattle.credentials.specs.declared.polled.Polled.{Polled}
use Rattle.credentials.specs.declared.polled.Polled.TheVariants.{Ready, Failed, OutOfMemory}
use Rattle.aws_credentials.specs.Session.{Session}
use Rattle.aws_json.specs.Reading.{Reading}
use Rattle.aws_endpoints.specs.Asking.{IsSendOf, GivesAsked, GivesPolled, GivesRead, no_request}
use Rattle.aws_endpoints.specs.Answer.{session_in_answer, EndsWith}
use Rattle.aws_instance.specs.Requests.{service_root, token_head, role_head, credential_head}
use Rattle.aws_instance.specs.Answers.{word_place, word_in_answer}
use Rattle.aws_instance.specs.declared.asked_word.AskedWord.TheVariants.{Token, Role}
use Rattle.aws_instance.specs.declared.instance_load.InstanceLoad.{InstanceLoad}
use Rattle.aws_instance.specs.declared.instance_load.InstanceLoad.TheVariants as load

-- what messages call the answer that has the credential
abbrev pub credential_place : List ℕ
credential_place = codes "the credential answer of the instance's endpoint"

module _ (Answers : Request (List ℕ) → Polled (Response (List ℕ)) → Type 0) (root : List ℕ) where
  -- what a load gives that asks for the credential of a role
  abbrev pub GivesCredential : List ℕ → List ℕ → Polled (Option Session) → Type 0
  GivesCredential token role answer =
      GivesAsked Answers (credential_head root token role) credential_place
      (session_in_answer credential_place) EndsWith answer

  -- what it gives that asks for the role, and with its name goes on
  abbrev pub GivesRole : List ℕ → Polled (Option Session) → Type 0
  GivesRole token answer =
      GivesAsked Answers (role_head root token) (word_place Role) (word_in_answer Role)
      (GivesCredential token) answer

  -- what it gives that asks for a token, and with that goes on
  abbrev pub GivesToken : Polled (Option Session) → Type 0
  GivesToken answer =
      GivesAsked Answers (token_head root) (word_place Token) (word_in_answer Token) GivesRole answer

-- what a load gives by the variables of an environment, and by what requests may be answered; or an
-- allocation failed
unfoldable pub InstanceGives : (List ℕ → Option (List ℕ))
    → (Request (List ℕ) → Polled (Response (List ℕ)) → Type 0) → Polled (Option Session) → Type 0
InstanceGives variables Answers answer =
    GivesRead (GivesToken Answers) (service_root variables) answer ⊎ (answer ≡ OutOfMemory)

-- what the one gives, the other does
abbrev pub LeadsTo : (Polled (Option Session) → Type 0) → (Polled (Option Session) → Type 0) → Type 0
LeadsTo Next Gives = (answer : Polled (Option Session)) → Next answer → Gives answer

-- nothing was sent: no request can be made of the head, or an allocation failed
abbrev pub NotSent : Head → List ℕ → Polled (Option Session) → Type 0
NotSent head place answer =
    ((is_accepted_head head ≡ false) × (answer ≡ Failed (no_request place))) ⊎ (answer ≡ OutOfMemory)

-- a response is here, of which this word is read
abbrev pub IsWordOf : (Response (List ℕ) → Reading (Option (List ℕ))) → Polled (Response (List ℕ)) → List ℕ
    → Type 0
IsWordOf read polled word =
    (response : Response (List ℕ)) × (polled ≡ Ready response) × (read response ≡ Ok (Some word))

-- no word is read of this answer of a send, so that the load ends or waits
abbrev pub EndsAt : (Response (List ℕ) → Reading (Option (List ℕ))) → Polled (Response (List ℕ))
    → Polled (Option Session) → Type 0
EndsAt read polled answer = GivesPolled read (λ word other. ⊥) polled answer ⊎ (answer ≡ OutOfMemory)

module _ {S : Type 0} (Begun : Request (List ℕ) → S → Type 0)
    (Answers : Request (List ℕ) → Polled (Response (List ℕ)) → Type 0)
    (variables : List ℕ → Option (List ℕ)) where
  -- a token was asked for, and what may be given from there on is given
  unfoldable pub TokenAsked : List ℕ → S → Type 0
  TokenAsked root send =
      IsSendOf Begun (token_head root) send
      × LeadsTo (GivesToken Answers root) (InstanceGives variables Answers)

  -- so with the name of the role
  unfoldable pub RoleAsked : List ℕ → List ℕ → S → Type 0
  RoleAsked root token send =
      IsSendOf Begun (role_head root token) send
      × LeadsTo (GivesRole Answers root token) (InstanceGives variables Answers)

  -- so with the credential, of some role
  unfoldable pub CredentialAsked : S → Type 0
  CredentialAsked send =
      (root : List ℕ) × (token : List ℕ) × (role : List ℕ)
      × IsSendOf Begun (credential_head root token role) send
      × LeadsTo (GivesCredential Answers root token role) (InstanceGives variables Answers)

  -- a load was begun: nothing was sent yet, or what it waits for was asked for
  abbrev pub InstanceStarted : InstanceLoad S → Type 0
  InstanceStarted load.Start = ⊤
  InstanceStarted (load.Token root send) = TokenAsked root send
  InstanceStarted (load.Role root token send) = RoleAsked root token send
  InstanceStarted (load.Credential send) = CredentialAsked send

-- the open send of a load has this fact
abbrev pub OfOpenSend : {S : Type 0} → InstanceLoad S → (S → Type 0) → Type 0
OfOpenSend load.Start Holds = ⊤
OfOpenSend (load.Token root send) Holds = Holds send
OfOpenSend (load.Role root token send) Holds = Holds send
OfOpenSend (load.Credential send) Holds = Holds send
