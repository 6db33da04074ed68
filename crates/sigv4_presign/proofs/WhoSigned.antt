-- What the check finds at a link by whom the link names.
use Rattle.std.proofs.Common.{◌≡◌, ◌⊎◌, inl, inr, ℕ, ℤ, pos, ◌+ℤ◌, Bool, true, false, not, List, Option, Some, None, Ok, Err, refl, sym, ap, ap₂, ◌∙◌}
use Rattle.std.specs.Prelude.{◌-ℤ◌, bytes_eq, if◌then◌else◌, IsTrue}
use Rattle.std.proofs.lemmas.Bool.{cases_Bool}
use Rattle.std.proofs.lemmas.Slice.Eq.{bytes_eq-Decides}
use Rattle.http_uri.specs.Grammar.{path_of}
use Rattle.sign_base.specs.declared.head.Head.{Head}
use Rattle.sign_request.specs.PlainTarget.{PlainTarget}
use Rattle.sigv4_core.specs.Credential.{Credential as Keys}
use Rattle.sigv4_core.specs.Scope.{Scope, is_scope}
use Rattle.sigv4_core.specs.Signature.{date_of}
use Rattle.sigv4_core.specs.SignedHead.{target_to_sign, unless_refused, target_refusal, is_refused_path}
use Rattle.sigv4_core.specs.declared.sig_error.SigError.TheVariants as refusal
use Rattle.sigv4_presign.specs.LinkPairs.{credential_name, date_name, credential_text}
use Rattle.sigv4_presign.specs.PresignedLink.{raw_query}
use Rattle.sigv4_presign.specs.CheckedLink.{value_of, checked_at, checked, checked_within}
use Rattle.sigv4_presign.specs.LinkClaims.{any_path, Names, IsSignerOf}
use Rattle.sigv4_presign.specs.declared.checked.Checked.{Checked}
use Rattle.sigv4_presign.specs.declared.checked.Checked.TheVariants.{Path, Credential, Early, Late, Signature, Valid}
use Rattle.sigv4_presign.specs.declared.link_claims.LinkClaims.{LinkClaims}
use Rattle.sigv4_presign.proofs.AcceptedLink.{signable-accepted}
use Rattle.sigv4_presign.proofs.DateTexts.{moment_of_text-IsDateOf}
use Rattle.sigv4_presign.proofs.SignedTarget.{target_to_sign-IsTargetOf, target_to_sign-Ok}
use Rattle.sigv4_presign.proofs.SignerText.{signer-AreParts, one_parting}

-- for a scope a target is refused for its path alone
path_refused : (scope : Scope) (target : PlainTarget) (named : Option (List ℕ)) (authority : List ℕ)
    → named ≡ Some authority → is_refused_path scope (path_of target.path_and_query) ≡ true
    → unless_refused target (target_refusal scope target named) ≡ Err refusal.Path
path_refused scope target None authority is refused = absurd cc
path_refused scope target (Some it) authority is refused = rw refused refl

target_refused : (scope : Scope) (head : Head) (target : PlainTarget)
    → target_to_sign any_path head ≡ Ok target → is_refused_path scope (path_of target.path_and_query) ≡ true
    → target_to_sign scope head ≡ Err refusal.Path
unfolding target_to_sign
target_refused scope head target read refused =
    let of_head = target_to_sign-IsTargetOf any_path head target read in
    let accepted = signable-accepted any_path head target read in
    rw (accepted, of_head.read) (path_refused scope target target.authority of_head.authority of_head.named refused)

target_kept : (scope : Scope) (head : Head) (target : PlainTarget)
    → target_to_sign any_path head ≡ Ok target → is_refused_path scope (path_of target.path_and_query) ≡ false
    → target_to_sign scope head ≡ Ok target
target_kept scope head target read signed =
    let of_head = target_to_sign-IsTargetOf any_path head target read in
    target_to_sign-Ok scope head target (signable-accepted any_path head target read)
    (record { read = of_head.read; authority = of_head.authority; named = of_head.named; path = signed })

-- the answers behind the one about the credential
abbrev behind : Bool → Bool → Bool → Checked
behind early late signed = if not early then Early else (if late then Late else (if not signed then Signature else Valid))

behind-other : (early late signed : Bool) → ¬ (behind early late signed ≡ Credential)
behind-other false late signed e = absurd cc
behind-other true true signed e = absurd cc
behind-other true false false e = absurd cc
behind-other true false true e = absurd cc

module _ (head : Head) (claims : LinkClaims) (names : Names head claims) (keys : Keys) (scope : Scope)
    (soonest latest : ℤ) where
  abbrev credential : List ℕ
  credential = value_of (raw_query names.target) credential_name

  abbrev found : Checked
  found = checked_at keys scope soonest latest head (target_to_sign scope head)

  found_refused : is_refused_path scope (path_of names.target.path_and_query) ≡ true → found ≡ Path
  found_refused refused = ap (checked_at keys scope soonest latest head) (target_refused scope head names.target names.read refused)

  found_kept : is_refused_path scope (path_of names.target.path_and_query) ≡ false
      → found ≡ checked_at keys scope soonest latest head (Ok names.target)
  found_kept signed = ap (checked_at keys scope soonest latest head) (target_kept scope head names.target names.read signed)

  -- the text of these keys and this scope is what the link has as credential
  module _ (same : bytes_eq credential (credential_text keys scope claims.date) ≡ true) where
    at_own : ¬ (checked_at keys scope soonest latest head (Ok names.target) ≡ Credential)
    at_own e = behind-other _ _ _ (rw (names.query.shaped, names.query.date, names.query.expires, same) at e)

    pub own_found : ¬ (found ≡ Credential)
    own_found e =
        elim (cases_Bool (is_refused_path scope (path_of names.target.path_and_query))) [
          | inl refused ↦ absurd (let path = found_refused refused in cc)
          | inr signed ↦ at_own (sym (found_kept signed) ∙ e)
        ]

  -- or is not
  module _ (other : bytes_eq credential (credential_text keys scope claims.date) ≡ false) where
    at_other : checked_at keys scope soonest latest head (Ok names.target) ≡ Credential
    at_other = rw (names.query.shaped, names.query.date, names.query.expires, other) refl

    pub other_found : (found ≡ Path) ⊎ (found ≡ Credential)
    other_found =
        elim (cases_Bool (is_refused_path scope (path_of names.target.path_and_query))) [
          | inl refused ↦ inl (found_refused refused)
          | inr signed ↦ inr (found_kept signed ∙ at_other)
        ]

-- the keys and the scope that a link names have its credential's text
own_text : (head : Head) (claims : LinkClaims) (names : Names head claims) (keys : Keys) (scope : Scope)
    → IsSignerOf claims keys.access scope
    → bytes_eq (value_of (raw_query names.target) credential_name) (credential_text keys scope claims.date) ≡ true
own_text head claims names keys scope signer =
    (bytes_eq-Decides _ _).1 (names.query.signer.whole ∙ sym (ap₂ (λ (access : List ℕ) (s : Scope). credential_text (record keys { access = access }) s claims.date) signer.0 signer.1))

same_scope : (scope other : Scope) → scope.region ≡ other.region → scope.service ≡ other.service → scope ≡ other
same_scope scope other region service = ap₂ (λ (r s : List ℕ). record { region = r; service = s }) region service

-- and no others have it
signer_by_text : (head : Head) (claims : LinkClaims) (names : Names head claims) (keys : Keys) (scope : Scope)
    → IsTrue (is_scope scope.region scope.service)
    → bytes_eq (value_of (raw_query names.target) credential_name) (credential_text keys scope claims.date) ≡ true
    → IsSignerOf claims keys.access scope
signer_by_text head claims names keys scope scoped same =
    let text = value_of (raw_query names.target) credential_name in
    let date = (moment_of_text-IsDateOf (value_of (raw_query names.target) date_name) claims.date).0 names.query.date in
    let own = signer-AreParts claims.date date.moment date.year text claims.access claims.scope names.query.signer.scoped names.query.signer.whole in
    let these = signer-AreParts claims.date date.moment date.year text keys.access scope scoped ((bytes_eq-Decides _ _).0 same) in
    let parts = one_parting text keys.access (date_of claims.date) scope.region scope.service claims.access (date_of claims.date) claims.scope.region claims.scope.service these own in
    (parts.0, same_scope scope claims.scope parts.2 parts.3)

module _ (head : Head) (claims : LinkClaims) (names : Names head claims) (keys : Keys) (scope : Scope) where
  pub own_checked : IsSignerOf claims keys.access scope → (u : ℤ) → ¬ (checked keys scope u head ≡ Credential)
  unfolding checked
  own_checked signer u e = own_found head claims names keys scope u u (own_text head claims names keys scope signer) e

  pub own_within : IsSignerOf claims keys.access scope → (u : ℤ) (tolerance : ℕ)
      → ¬ (checked_within keys scope u tolerance head ≡ Credential)
  unfolding checked_within
  own_within signer u tolerance e =
      own_found head claims names keys scope (u -ℤ pos tolerance) (u +ℤ pos tolerance) (own_text head claims names keys scope signer) e

  pub other_checked : IsTrue (is_scope scope.region scope.service) → ¬ (IsSignerOf claims keys.access scope)
      → (u : ℤ) → (checked keys scope u head ≡ Path) ⊎ (checked keys scope u head ≡ Credential)
  unfolding checked
  other_checked scoped other u =
      elim (cases_Bool (bytes_eq (value_of (raw_query names.target) credential_name) (credential_text keys scope claims.date))) [
        | inl same ↦ absurd (other (signer_by_text head claims names keys scope scoped same))
        | inr differs ↦ other_found head claims names keys scope u u differs
      ]
