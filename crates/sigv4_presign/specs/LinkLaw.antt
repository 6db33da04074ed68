-- What the laws of links speak of: when a link that was made is good, which requests come by it, and which
-- texts are a date or an expiry.
use Rattle.std.specs.Prelude.{◌≡◌, ℕ, ◌*◌, ℤ, pos, ◌+ℤ◌, ◌-ℤ◌, ◌≤ℤ◌, ◌<ℤ◌, List, [], decimal, true}
use Rattle.std.specs.Prelude.{IsTrue, Ok}
use Rattle.sign_base.specs.declared.head.Head.{Head}
use Rattle.sign_base.specs.declared.head.Version.TheVariants.{V11}
use Rattle.sign_time.specs.Calendar.{second_nanos, civil_of, IsFourDigitYear}
use Rattle.sign_time.specs.MomentText.{iso8601_text}
use Rattle.sign_base.specs.Moment.{IsMoment}
use Rattle.sign_time.specs.MomentRead.{whole_second}
use Rattle.sign_request.specs.AcceptedHead.{is_accepted_head}
use Rattle.sigv4_core.specs.Scope.{Scope, is_scope}
use Rattle.sigv4_core.specs.Credential.{Credential as Keys, is_credential}
use Rattle.sigv4_presign.specs.PresignedLink.{presigning_of, is_expiry}

-- the moment at which a link of this moment expires: so many seconds after its date
abbrev pub expiry_of : ℤ → ℕ → ℤ
expiry_of now expires = whole_second now +ℤ pos (expires * second_nanos)

-- a link of this moment is good: from its date on, and before it expires
abbrev pub IsGood : ℤ → ℕ → ℤ → Type 0
IsGood now expires u = (whole_second now ≤ℤ u) × (u <ℤ expiry_of now expires)

-- and by a clock that may be wrong by so many nanoseconds: so much sooner, and so much longer
abbrev pub IsGoodWithin : ℤ → ℕ → ℕ → ℤ → Type 0
IsGoodWithin now expires tolerance u =
    (whole_second now ≤ℤ (u +ℤ pos tolerance)) × ((u -ℤ pos tolerance) <ℤ expiry_of now expires)

-- the link was made at a moment from a head, with keys and for a scope that can sign
pub record WasMade (keys : Keys) (scope : Scope) (expires : ℕ) (now : ℤ) (head link : Head) : Type 0 where
  pub credential : IsTrue (is_credential keys.access keys.secret)
  pub scoped : IsTrue (is_scope scope.region scope.service)
  pub moment : IsMoment now
  pub made : presigning_of keys scope expires now head ≡ Ok link

-- two heads with one method and one URI, both accepted by `http` or neither; their headers and versions may
-- differ
pub record AskTheSame (head other : Head) : Type 0 where
  pub method : head.method ≡ other.method
  pub uri : head.uri ≡ other.uri
  pub accepted : is_accepted_head head ≡ is_accepted_head other

-- a request by a link: its method and its URI are the link's, and `http` accepts it, with whatever headers
-- and version
pub record IsRequestBy (link request : Head) : Type 0 where
  pub method : request.method ≡ link.method
  pub uri : request.uri ≡ link.uri
  pub accepted : is_accepted_head request ≡ true

-- the request of who has nothing but a link
abbrev pub bare_request : Head → Head
bare_request link = record link { version = V11; headers = [] }

-- the text is the date of this whole second, which lies in the years 0000 to 9999
pub record IsDateOf (text : List ℕ) (t : ℤ) : Type 0 where
  pub moment : IsMoment t
  pub year : IsFourDigitYear t
  pub whole : whole_second t ≡ t
  pub printed : iso8601_text (civil_of t) ≡ text

-- the text is this number of seconds in decimal, and a link may be good for so many
pub record IsExpiryOf (text : List ℕ) (seconds : ℕ) : Type 0 where
  pub allowed : is_expiry seconds ≡ true
  pub printed : decimal seconds ≡ text
