-- What the law of signed heads speaks of.
use Rattle.std.specs.Prelude.{◌≡◌, ℕ, ◌≤◌, ℤ, pos, ◌+ℤ◌, ◌-ℤ◌, ◌≤ℤ◌, List, not, true, filter, length, Ok}
use Rattle.sign_base.specs.Moment.{IsMoment}
use Rattle.sign_base.specs.declared.head.Field.{Field}
use Rattle.sign_base.specs.declared.head.Head.{Head}
use Rattle.sign_time.specs.MomentRead.{whole_second}
use Rattle.sign_request.specs.AcceptedHead.{is_accepted_head}
use Rattle.sigv4_canonical.specs.CanonicalHeaders.{signed_headers}
use Rattle.sigv4_core.specs.Credential.{Credential as Keys}
use Rattle.sigv4_core.specs.Scope.{Scope}
use Rattle.sigv4_core.specs.SignedHead.{is_named, signing_of}
use Rattle.sigv4_verify.specs.SignedForm.{authorization_name, most_name_bytes}
use Rattle.sigv4_verify.specs.CheckedHead.{says_no_other}

-- the headers but for the authorization
abbrev pub others_of : List Field → List Field
others_of headers = filter (λ f. not (is_named authorization_name f)) headers

-- a head was signed at a moment, `http` accepts it, no header says another content than the word that was
-- signed, and the names of its headers are not too long
pub record WasSigned (keys : Keys) (scope : Scope) (word : List ℕ) (now : ℤ) (head signed : Head)
    : Type 0 where
  pub moment : IsMoment now
  pub made : signing_of keys scope word now head ≡ Ok signed
  pub accepted : is_accepted_head signed ≡ true
  pub content : says_no_other word signed.headers ≡ true
  pub short : length (signed_headers (others_of signed.headers)) ≤ most_name_bytes

-- a moment lies within a tolerance around the second of a signature
abbrev pub IsWithin : ℤ → ℕ → ℤ → Type 0
IsWithin now tolerance u =
    (whole_second now ≤ℤ (u +ℤ pos tolerance)) × ((u -ℤ pos tolerance) ≤ℤ whole_second now)
