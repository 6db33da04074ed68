-- What a place where keys stand has of one, and the credential that it makes.
use Rattle.std.specs.Prelude.{◌≡◌, ◌⊎◌, ℕ, ℤ, List, [], ◌++◌, codes, length, ◌==◌, if◌then◌else◌}
use Rattle.std.specs.Prelude.{Option, Some, None, Result, Ok, Err}
use Rattle.credentials.specs.declared.polled.Polled.{Polled}
use Rattle.credentials.specs.declared.polled.Polled.TheVariants.{Ready, Failed, OutOfMemory}
use Rattle.sign_base.specs.Error.{ErrorParts, new_error}
use Rattle.sign_base.specs.declared.error_kind.ErrorKind.TheVariants as kind
use Rattle.sigv4_core.specs.Credential.{Credential, is_credential}
use Rattle.aws_credentials.specs.Session.{Session, is_session_token}

-- a text that is not empty
abbrev pub unless_empty : Option (List ℕ) → Option (List ℕ)
unless_empty None = None
unless_empty (Some text) = if length text == 0 then None else Some text

-- what was found at a place, or the message why that is no credential
abbrev pub Found : Type 0
Found = Result (Option Session) (List ℕ)

-- a key with the token of its session
abbrev pub found_with_token : List ℕ → Credential → Option (List ℕ) → Found
found_with_token place key None = Ok (Some (record { key = key; token = None }))
found_with_token place key (Some token) =
    if is_session_token token then Ok (Some (record { key = key; token = Some token }))
    else Err (codes "invalid session token in " ++ place)

-- a key of which the access key is there
abbrev pub found_with_secret : List ℕ → Option ℤ → List ℕ → Option (List ℕ) → Option (List ℕ) → Found
found_with_secret place expires access None token = Err (codes "no secret key in " ++ place)
found_with_secret place expires access (Some secret) token =
    if is_credential access secret
    then found_with_token place (record { access = access; secret = secret; expires = expires }) token
    else Err (codes "invalid key in " ++ place)

-- the credential of an access key, its secret and the token of its session; none without an access key
abbrev pub found_with_access : List ℕ → Option ℤ → Option (List ℕ) → Option (List ℕ) → Option (List ℕ) → Found
found_with_access place expires None secret token = Ok None
found_with_access place expires (Some access) secret token =
    found_with_secret place expires access secret token

-- the same where an empty text counts as absent
unfoldable pub found_in : List ℕ → Option ℤ → Option (List ℕ) → Option (List ℕ) → Option (List ℕ) → Found
found_in place expires access secret token =
    found_with_access place expires (unless_empty access) (unless_empty secret) (unless_empty token)

-- the result is what was found, or an allocation failed
abbrev pub IsFound : Found → Result (Option Session) ErrorParts → Type 0
IsFound found (Ok session) = found ≡ Ok session
IsFound found (Err e) =
    (e ≡ new_error kind.OutOfMemory [])
    ⊎ ((message : List ℕ) × (found ≡ Err message) × (e ≡ new_error kind.CredentialInvalid message))

-- a provider answers what it found
abbrev pub AnswersFound : Found → Polled (Option Session) → Type 0
AnswersFound (Ok session) answer = answer ≡ Ready session
AnswersFound (Err message) answer = answer ≡ Failed (new_error kind.CredentialInvalid message)

-- or had no memory for it
abbrev pub GivesFound : Found → Polled (Option Session) → Type 0
GivesFound found answer = AnswersFound found answer ⊎ (answer ≡ OutOfMemory)
