-- A key that was derived has 32 bytes, and signs as the secret does.
use Rattle.std.proofs.Common.{◌≡◌, ℕ, ℤ, Bool, true, false, ◌&&◌, ◌==◌, List, length, Some, None, Result, Ok, Err, IfOk, refl, ap, ap₂, ◌∙◌}
use Rattle.std.specs.Prelude.{if◌then◌else◌, nat_lt, ok_or}
use Rattle.std.specs.Char.{is_ascii_graphic}
use Rattle.std.specs.List.{list_all}
use Rattle.sha2.proofs.Facts256.{length-sha256}
use Rattle.sign_base.specs.Moment.{is_moment, moment_of_second}
use Rattle.sign_base.specs.declared.head.Head.{Head}
use Rattle.sign_base.specs.declared.head.Version.{Version}
use Rattle.sigv4_core.specs.Credential.{Credential, is_credential}
use Rattle.sigv4_core.specs.Scope.{Scope, is_scope}
use Rattle.sigv4_core.specs.Signature.{date_of, signing_key}
use Rattle.sigv4_core.specs.SignedHead.{is_before_year_0, signing_of, signing_with}
use Rattle.domreth_sign.specs.Answers.{by_signing, signed_lines, signed_lines_with}
use Rattle.domreth_sign.specs.Asked.{◌>>=◌, passing, version_given, credential_given, scope_given, payload_given, asked_of}
use Rattle.domreth_sign.specs.DerivedKeys.{key_bytes, derived_bytes, is_access_key, is_derived, derived_scope, asked_under, key_given, IsDerivedOf}
use Rattle.domreth_sign.specs.Given.{head_given}
use Rattle.domreth_sign.specs.declared.asked.Asked.{Asked}
use Rattle.domreth_sign.specs.declared.asked_under.AskedUnder.{AskedUnder}
use Rattle.domreth_sign.specs.declared.given.GivenDerived.{GivenDerived}
use Rattle.domreth_sign.specs.declared.given.GivenHead.{GivenHead}
use Rattle.domreth_sign.specs.declared.given.GivenKey.{GivenKey}
use Rattle.domreth_sign.specs.declared.refusal.Refusal.{Refusal}
use Rattle.domreth_sign.specs.declared.refusal.Refusal.TheVariants as refusal

-- ---- a key that is derived
length-signing_key : (secret : List ℕ) (scope : Scope) (date : List ℕ) → length (signing_key secret scope date) ≡ 32
unfolding signing_key
length-signing_key secret scope date = length-sha256 _

-- a key is answered where each part passes its test
parts : (m c s : Bool) (t : ℤ) (credential : Credential) (scope : Scope) (bytes : List ℕ)
    → (do
      moment ← ok_or (if m then Some t else None) refusal.Second
      credential ← passing c credential refusal.Key
      scope ← passing s scope refusal.Scope
      key_bytes credential scope moment)
    ≡ Ok bytes
    → (c ≡ true) × (s ≡ true) × (key_bytes credential scope t ≡ Ok bytes)
parts true true true t credential scope bytes e = (refl, refl, e)
parts true true false t credential scope bytes e = absurd (cc)
parts true false s t credential scope bytes e = absurd (cc)
parts false c s t credential scope bytes e = absurd (cc)

in_time : (early : Bool) (key bytes : List ℕ) → (if early then Err refusal.Moment else Ok key) ≡ Ok bytes → bytes ≡ key
in_time true key bytes e = absurd (cc)
in_time false key bytes e = cc

abbrev keys : GivenKey → Credential
keys key = record { access = key.access.now; secret = key.secret.now; expires = None }

abbrev scope_of : GivenKey → Scope
scope_of key = record { region = key.region.now; service = key.service.now }

record IsKey (key : GivenKey) (second : ℤ) (bytes : List ℕ) : Type 0 where
  accepted : is_credential key.access.now key.secret.now ≡ true
  in_scope : is_scope key.region.now key.service.now ≡ true
  derived : bytes ≡ signing_key key.secret.now (scope_of key) (date_of (moment_of_second second))

derived-IsKey : (key : GivenKey) (second : ℤ) (bytes : List ℕ) → derived_bytes key second ≡ Ok bytes → IsKey key second bytes
derived-IsKey key second bytes e =
    let t : ℤ = moment_of_second second in
    let p = parts (is_moment t) (is_credential key.access.now key.secret.now) (is_scope key.region.now key.service.now) t (keys key) (scope_of key) bytes e in
    record { accepted = p.0; in_scope = p.1; derived = in_time (is_before_year_0 t) _ bytes p.2 }

has_32 : (key : GivenKey) (second : ℤ) (bytes : List ℕ) → derived_bytes key second ≡ Ok bytes → length bytes ≡ 32
has_32 key second bytes e =
    let is = derived-IsKey key second bytes e in
    ap length is.derived ∙ length-signing_key _ _ _

if_ok : (answer : Result (List ℕ) Refusal) → ((bytes : List ℕ) → answer ≡ Ok bytes → length bytes ≡ 32)
    → IfOk answer (λ bytes. length bytes ≡ 32)
if_ok (Ok bytes) h = h bytes refl
if_ok (Err why) h = tt

pub has_32_bytes : (key : GivenKey) (second : ℤ) → IfOk (derived_bytes key second) (λ bytes. length bytes ≡ 32)
has_32_bytes key second = if_ok (derived_bytes key second) (has_32 key second)

-- ---- it has the form of one
front : (a b c : Bool) → a && (b && c) ≡ true → a && b ≡ true
front true true c e = refl
front true false c e = e
front false b c e = e

scope-is : (access secret region service bytes : List ℕ) → is_credential access secret ≡ true
    → is_scope region service ≡ true → length bytes ≡ 32
    → (if is_derived access bytes then scope_given region service else Err refusal.Key)
    ≡ Ok (record { region = region; service = service })
scope-is access secret region service bytes c s l =
    let named : is_access_key access ≡ true = front (nat_lt 0 (length access)) (list_all is_ascii_graphic access) (nat_lt 0 (length secret)) c in
    let form : is_derived access bytes ≡ true = ap₂ (λ a n. a && (n == 32)) named l in
    rw (form, s) refl

-- ---- it signs alike
abbrev under : Bool → ℤ → Result Version Refusal → Result Scope Refusal → GivenHead → Result AskedUnder Refusal
under m t version scope head = do
  moment ← ok_or (if m then Some t else None) refusal.Second
  version ← version
  scope ← scope
  Ok (record { moment = moment; scope = scope; head = head_given head version })

abbrev by_secret : Bool → ℤ → Result Version Refusal → Result Credential Refusal → Result Scope Refusal → GivenHead → Result Asked Refusal
by_secret m t version credential scope head = do
  moment ← ok_or (if m then Some t else None) refusal.Second
  version ← version
  credential ← credential
  scope ← scope
  Ok (record { moment = moment; credential = credential; scope = scope; head = head_given head version })

module _ (derived : GivenDerived) (credential : Credential) (scope : Scope) (head : GivenHead) where
  alike : (payload : Result (List ℕ) Refusal) (m : Bool) (t : ℤ) (version : Result Version Refusal)
      (c : Result Credential Refusal) (s d : Result Scope Refusal) → c ≡ Ok credential → s ≡ Ok scope → d ≡ Ok scope
      → ((word : List ℕ) (h : Head) → signing_with (key_given derived scope t) word t h ≡ signing_of credential scope word t h)
      → (do
        payload ← payload
        asked ← under m t version d head
        by_signing asked.head (signing_with (key_given derived asked.scope asked.moment) payload asked.moment asked.head))
      ≡ (do
        payload ← payload
        asked ← by_secret m t version c s head
        by_signing asked.head (signing_of asked.credential asked.scope payload asked.moment asked.head))
  alike (Err why) m t version c s d ec es ed same = refl
  alike (Ok word) false t version c s d ec es ed same = refl
  alike (Ok word) true t (Err why) c s d ec es ed same = refl
  alike (Ok word) true t (Ok version) c s d ec es ed same =
      rw (ec, es, ed) (ap (by_signing (head_given head version)) (same word (head_given head version)))

pub signs_alike : (key : GivenKey) (derived : GivenDerived) (head : GivenHead) (word : List ℕ) (made now : ℤ)
    → IsDerivedOf key made derived → date_of (moment_of_second made) ≡ date_of (moment_of_second now)
    → signed_lines_with head derived word now ≡ signed_lines head key word now
unfolding asked_of asked_under signing_of
signs_alike key derived head word made now is day =
    let p = derived-IsKey key made derived.key.now is.bytes in
    let t : ℤ = moment_of_second now in
    let bytes : derived.key.now ≡ signing_key key.secret.now (scope_of key) (date_of t) =
    p.derived ∙ ap (signing_key key.secret.now (scope_of key)) day in
    let form : derived_scope derived ≡ Ok (scope_of key) =
    rw (is.access, is.region, is.service) (scope-is key.access.now key.secret.now key.region.now key.service.now derived.key.now p.accepted p.in_scope (has_32 key made derived.key.now is.bytes)) in
    alike derived (keys key) (scope_of key) head (payload_given word) (is_moment t) t (version_given head.version)
    (credential_given key) (scope_given key.region.now key.service.now) (derived_scope derived) (rw p.accepted refl) (rw p.in_scope refl) form
    (λ w h. ap₂ (λ a k. signing_with (record { access = a; scope = scope_of key; date = date_of t; key = k }) w t h) is.access bytes)
