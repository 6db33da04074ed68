-- What is asked for by what is given, or the first cause why it cannot be.
use Rattle.std.specs.Prelude.{ℕ, ℤ, Bool, ◌||◌, List, Option, Some, None, Result, Ok, Err, ok_or, bytes_eq}
use Rattle.std.specs.Prelude.{if◌then◌else◌}
use Rattle.sign_base.specs.Moment.{is_moment, moment_of_second}
use Rattle.sign_base.specs.declared.head.Version.{Version}
use Rattle.sigv4_core.specs.Credential.{Credential, is_credential}
use Rattle.sigv4_core.specs.PayloadWord.{unsigned_payload, is_digest}
use Rattle.sigv4_core.specs.Scope.{Scope, is_scope}
use Rattle.domreth_sign.specs.Given.{version_numbered, head_given}
use Rattle.domreth_sign.specs.declared.asked.Asked.{Asked}
use Rattle.domreth_sign.specs.declared.given.GivenHead.{GivenHead}
use Rattle.domreth_sign.specs.declared.given.GivenKey.{GivenKey}
use Rattle.domreth_sign.specs.declared.refusal.Refusal.{Refusal}
use Rattle.domreth_sign.specs.declared.refusal.Refusal.TheVariants as refusal

-- what follows of a part, where it is there
infixl 10 ◌>>=◌
abbrev pub ◌>>=◌ : {A B : Type 0} → Result A Refusal → (A → Result B Refusal) → Result B Refusal
(Ok x) >>= f = f x
(Err why) >>= f = Err why

-- a part that passes its test, or why it does not
abbrev pub passing : {A : Type 0} → Bool → A → Refusal → Result A Refusal
passing test x why = if test then Ok x else Err why

-- an instant, where it is in the range of moments
abbrev pub if_moment : ℤ → Option ℤ
if_moment t = if is_moment t then Some t else None

-- the moment so many seconds after the start of 1970
abbrev pub moment_given : ℤ → Result ℤ Refusal
moment_given second = ok_or (if_moment (moment_of_second second)) refusal.Second

-- the version of HTTP with this number
abbrev pub version_given : ℕ → Result Version Refusal
version_given number = ok_or (version_numbered number) refusal.Version

-- the access key and its secret, which do not expire here
abbrev pub credential_given : GivenKey → Result Credential Refusal
credential_given key =
    passing (is_credential key.access.now key.secret.now)
    (record { access = key.access.now; secret = key.secret.now; expires = None }) refusal.Key

-- the region and the service
abbrev pub scope_given : List ℕ → List ℕ → Result Scope Refusal
scope_given region service =
    passing (is_scope region service) (record { region = region; service = service }) refusal.Scope

-- the payload that a word names
abbrev pub payload_given : List ℕ → Result (List ℕ) Refusal
payload_given word = passing (bytes_eq word unsigned_payload || is_digest word) word refusal.Payload

-- what is asked for, or the first cause why it cannot be
unfoldable pub asked_of : GivenHead → GivenKey → ℤ → Result Asked Refusal
asked_of head key second = do
  moment ← moment_given second
  version ← version_given head.version
  credential ← credential_given key
  scope ← scope_given key.region.now key.service.now
  Ok (record { moment = moment; credential = credential; scope = scope; head = head_given head version })
