-- A signing key that is derived once a day, and what is asked for under it.
use Rattle.std.specs.Prelude.{◌≡◌, ℕ, ℤ, Bool, ◌&&◌, ◌==◌, List, length, nat_lt, Result, Ok, Err}
use Rattle.std.specs.Prelude.{if◌then◌else◌}
use Rattle.std.specs.Char.{is_ascii_graphic}
use Rattle.std.specs.List.{list_all}
use Rattle.sigv4_core.specs.Credential.{Credential}
use Rattle.sigv4_core.specs.Scope.{Scope}
use Rattle.sigv4_core.specs.Signature.{DerivedKey, date_of, key_of_day, signing_key}
use Rattle.sigv4_core.specs.SignedHead.{is_before_year_0}
use Rattle.domreth_sign.specs.Asked.{◌>>=◌, moment_given, version_given, credential_given, scope_given}
use Rattle.domreth_sign.specs.Given.{head_given}
use Rattle.domreth_sign.specs.declared.asked_under.AskedUnder.{AskedUnder}
use Rattle.domreth_sign.specs.declared.given.GivenDerived.{GivenDerived}
use Rattle.domreth_sign.specs.declared.given.GivenHead.{GivenHead}
use Rattle.domreth_sign.specs.declared.given.GivenKey.{GivenKey}
use Rattle.domreth_sign.specs.declared.refusal.Refusal.{Refusal}
use Rattle.domreth_sign.specs.declared.refusal.Refusal.TheVariants as refusal

-- the bytes of the signing key of a moment's day, where a date can name that
abbrev pub key_bytes : Credential → Scope → ℤ → Result (List ℕ) Refusal
key_bytes credential scope moment =
    if is_before_year_0 moment then Err refusal.Moment
    else Ok (signing_key credential.secret scope (date_of moment))

-- those of the key that is given, for its region and service
abbrev pub derived_bytes : GivenKey → ℤ → Result (List ℕ) Refusal
derived_bytes key second = do
  moment ← moment_given second
  credential ← credential_given key
  scope ← scope_given key.region.now key.service.now
  key_bytes credential scope moment

-- an access key is not empty and has visible bytes alone, `!` to `~`
abbrev pub is_access_key : List ℕ → Bool
is_access_key access = nat_lt 0 (length access) && list_all is_ascii_graphic access

-- and a signing key has 32 bytes
abbrev pub is_derived : List ℕ → List ℕ → Bool
is_derived access key = is_access_key access && (length key == 32)

-- what a derived key that is given is for, where it has the form of one
abbrev pub derived_scope : GivenDerived → Result Scope Refusal
derived_scope derived =
    if is_derived derived.access.now derived.key.now then scope_given derived.region.now derived.service.now
    else Err refusal.Key

-- what is asked for under a derived key, or the first cause why it cannot be
unfoldable pub asked_under : GivenHead → GivenDerived → ℤ → Result AskedUnder Refusal
asked_under head derived second = do
  moment ← moment_given second
  version ← version_given head.version
  scope ← derived_scope derived
  Ok (record { moment = moment; scope = scope; head = head_given head version })

-- the derived key that is given, as the one of a moment's day
abbrev pub key_given : GivenDerived → Scope → ℤ → DerivedKey
key_given derived scope moment = key_of_day derived.access.now scope moment derived.key.now

-- a derived key that is given is that of this key for the second's day
pub record IsDerivedOf (key : GivenKey) (second : ℤ) (derived : GivenDerived) : Type 0 where
  pub access : derived.access.now ≡ key.access.now
  pub region : derived.region.now ≡ key.region.now
  pub service : derived.service.now ≡ key.service.now
  pub bytes : derived_bytes key second ≡ Ok derived.key.now
