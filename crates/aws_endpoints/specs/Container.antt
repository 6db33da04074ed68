-- The endpoint of a container.
use Rattle.std.specs.Prelude.{◌≡◌, ◌⊎◌, ℕ, Bool, ◌&&◌, ◌||◌, not, ◌==◌, nat_eq, List, [], ◌∷◌, ◌++◌, codes}
use Rattle.std.specs.Prelude.{Option, Some, None, Ok, Err, if◌then◌else◌}
use Rattle.std.specs.List.{list_any, starts_with}
use Rattle.http.specs.declared.request.Request.{Request}
use Rattle.http.specs.declared.response.Response.{Response}
use Rattle.sign_base.specs.Error.{new_error}
use Rattle.sign_base.specs.declared.error_kind.ErrorKind.TheVariants as kind
use Rattle.sign_base.specs.declared.head.Field.{Field}
use Rattle.sign_base.specs.declared.head.Head.{Head}
use Rattle.sign_base.specs.declared.head.Version.TheVariants.{V11}
use Rattle.credentials.specs.declared.polled.Polled.{Polled}
use Rattle.credentials.specs.declared.polled.Polled.TheVariants.{Ready, Failed, OutOfMemory}
use Rattle.aws_credentials.specs.Found.{unless_empty}
use Rattle.aws_credentials.specs.Session.{Session}
use Rattle.aws_json.specs.Reading.{Reading}
use Rattle.aws_endpoints.specs.Asking.{IsSendOf, GivesAsked}
use Rattle.aws_endpoints.specs.Answer.{session_in_answer, EndsWith}

-- what messages call it
abbrev pub container_place : List ℕ
container_place = codes "the answer of the container's endpoint"

-- how the URIs begin that may be asked without TLS: of the machine itself, and of the endpoints of ECS and
-- EKS, with a path or a port behind the host
unfoldable pub plain_beginnings : List (List ℕ)
plain_beginnings =
    codes "http://127.0.0.1/" ∷ codes "http://127.0.0.1:" ∷ codes "http://localhost/"
    ∷ codes "http://localhost:" ∷ codes "http://[::1]/" ∷ codes "http://[::1]:"
    ∷ codes "http://169.254.170.2/" ∷ codes "http://169.254.170.2:" ∷ codes "http://169.254.170.23/"
    ∷ codes "http://169.254.170.23:" ∷ codes "http://[fd00:ec2::23]/" ∷ codes "http://[fd00:ec2::23]:" ∷ []

-- the byte is `@`, which ends a user's name before a host
abbrev pub is_at : ℕ → Bool
is_at b = b == 64

-- the URI begins with this text
abbrev pub begins_with : List ℕ → List ℕ → Bool
begins_with uri text = starts_with nat_eq uri text

-- the URI begins so, and names no user
abbrev pub is_plain : List ℕ → Bool
is_plain uri = not (list_any is_at uri) && list_any (begins_with uri) plain_beginnings

-- the endpoint may be asked: by TLS, or at a host that may be asked without
abbrev pub may_be_asked : List ℕ → Bool
may_be_asked uri = begins_with uri (codes "https://") || is_plain uri

-- the header that has the token, where there is one
abbrev pub authorization : Option (List ℕ) → List Field
authorization None = []
authorization (Some token) = record { name = codes "authorization"; value = token } ∷ []

-- the head that asks an endpoint
abbrev pub container_head : List ℕ → Option (List ℕ) → Head
container_head uri token = record {
  method = codes "GET";
  uri = uri;
  version = V11;
  headers = authorization token;
}

-- what is asked of the endpoint that is named, if one is
abbrev pub asked_of : Option (List ℕ) → Option (List ℕ) → Reading (Option Head)
asked_of None token = Ok None
asked_of (Some uri) token =
    if may_be_asked uri then Ok (Some (container_head uri token))
    else Err (codes "the environment names an endpoint that may not be asked")

-- the endpoint by its path or else by its URI; none where neither is set
abbrev pub endpoint_of : Option (List ℕ) → Option (List ℕ) → Option (List ℕ)
endpoint_of (Some path) full = Some (codes "http://169.254.170.2" ++ path)
endpoint_of None full = full

-- what the variables of an environment ask for
abbrev pub container_request : (List ℕ → Option (List ℕ)) → Reading (Option Head)
container_request variables =
    asked_of
    (endpoint_of (unless_empty (variables (codes "AWS_CONTAINER_CREDENTIALS_RELATIVE_URI")))
    (unless_empty (variables (codes "AWS_CONTAINER_CREDENTIALS_FULL_URI"))))
    (unless_empty (variables (codes "AWS_CONTAINER_AUTHORIZATION_TOKEN")))

-- a send was begun with what is asked for
unfoldable pub IsAskedSend : {S : Type 0} → (Request (List ℕ) → S → Type 0) → Reading (Option Head) → S
    → Type 0
IsAskedSend Begun asked send = (head : Head) × (asked ≡ Ok (Some head)) × IsSendOf Begun head send

-- what a load gives that asks for this
abbrev pub GivesRequested : (Request (List ℕ) → Polled (Response (List ℕ)) → Type 0) → Reading (Option Head)
    → Polled (Option Session) → Type 0
GivesRequested Answers (Ok (Some head)) answer =
    GivesAsked Answers head container_place (session_in_answer container_place) EndsWith answer
GivesRequested Answers (Ok None) answer = answer ≡ Ready None
GivesRequested Answers (Err message) answer = answer ≡ Failed (new_error kind.CredentialInvalid message)

-- the same, or an allocation failed
unfoldable pub ContainerGives : (List ℕ → Option (List ℕ))
    → (Request (List ℕ) → Polled (Response (List ℕ)) → Type 0) → Polled (Option Session) → Type 0
ContainerGives variables Answers answer =
    GivesRequested Answers (container_request variables) answer ⊎ (answer ≡ OutOfMemory)
