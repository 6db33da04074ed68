-- What is found at a head that was signed is a matter of time alone.
use Rattle.std.proofs.Common.{◌≡◌, ◌↔◌, ◌⊎◌, ℕ, ℤ, pos, ◌+ℤ◌, ◌≤ℤ◌, ◌<ℤ◌, true, false, not, inl, inr, List, Some, Ok, refl, sym, ap, subst, ◌∙◌, arith}
use Rattle.std.specs.Prelude.{◌-ℤ◌, int_le, bytes_eq, if◌then◌else◌}
use Rattle.std.proofs.lemmas.Bool.{cases_Bool}
use Rattle.std.proofs.lemmas.Slice.Eq.{bytes_eq-Decides}
use Rattle.jiff_core.proofs.SignedLemmas.{signed_arith}
use Rattle.sign_base.specs.declared.head.Head.{Head}
use Rattle.sign_time.specs.MomentRead.{whole_second}
use Rattle.sign_time.proofs.WholeSecond.{civil_of-whole_second}
use Rattle.sign_request.specs.PlainTarget.{PlainTarget, target_of}
use Rattle.sigv4_core.specs.Credential.{Credential as Keys}
use Rattle.sigv4_core.specs.Scope.{Scope}
use Rattle.sigv4_core.specs.Signature.{signature_of}
use Rattle.sigv4_core.specs.SignedHead.{request_to_sign, target_to_sign}
use Rattle.sigv4_presign.specs.LinkPairs.{credential_text}
use Rattle.sigv4_presign.proofs.SameSecond.{signature_of-same}
use Rattle.sigv4_presign.proofs.SignedTarget.{target_to_sign-IsTargetOf, target_to_sign-Ok}
use Rattle.sigv4_verify.specs.SignedForm.{HasForm, listed}
use Rattle.sigv4_verify.specs.CheckedHead.{found_by, FoundIn, FoundAt, IsFound}
use Rattle.sigv4_verify.specs.SignedLaw.{WasSigned, IsWithin}
use Rattle.sigv4_verify.specs.declared.checked_head.CheckedHead.{CheckedHead}
use Rattle.sigv4_verify.specs.declared.checked_head.CheckedHead.TheVariants.{Early, Late, Valid}
use Rattle.sigv4_verify.specs.declared.signed_form.SignedForm.{SignedForm}
use Rattle.sigv4_verify.proofs.OneForm.{one_form}
use Rattle.sigv4_verify.proofs.SignedHeaders.{fields, signature, IsSignedAs, signed_as, form, selected, has_form}

-- what is found at a signature of this second, where it is some moment from the soonest to the latest
abbrev found_around : ℤ → ℤ → ℤ → CheckedHead
found_around t soonest latest = if not (int_le t latest) then Early else (if not (int_le soonest t) then Late else Valid)

is_le : (a b : ℤ) → a ≤ℤ b → int_le a b ≡ true
is_le a b h = grind (arith, signed_arith)

not_le : (a b : ℤ) → b <ℤ a → int_le a b ≡ false
not_le a b h = grind (arith, signed_arith)

cases_le : (a b : ℤ) → (a ≤ℤ b) ⊎ (b <ℤ a)
cases_le a b =
    elim (cases_Bool (int_le a b)) [
      | inl least ↦ inl (grind (arith, signed_arith))
      | inr above ↦ inr (grind (arith, signed_arith))
    ]

around-Early : (t soonest latest : ℤ) → latest <ℤ t → found_around t soonest latest ≡ Early
around-Early t soonest latest h = rw (not_le t latest h) refl

around-Late : (t soonest latest : ℤ) → t ≤ℤ latest → t <ℤ soonest → found_around t soonest latest ≡ Late
around-Late t soonest latest from past = rw (is_le t latest from, not_le soonest t past) refl

around-Valid : (t soonest latest : ℤ) → (found_around t soonest latest ≡ Valid) ↔ ((t ≤ℤ latest) × (soonest ≤ℤ t))
around-Valid t soonest latest = (
  λ e.
      elim (cases_le t latest) [
        | inl from ↦ elim (cases_le soonest t) [
          | inl until ↦ (from, until)
          | inr past ↦ absurd (let bad = sym (around-Late t soonest latest from past) ∙ e in cc)
        ]
        | inr early ↦ absurd (let bad = sym (around-Early t soonest latest early) ∙ e in cc)
      ],
  λ h. rw (is_le t latest h.0, is_le soonest t h.1) refl,
)

widened : (t : ℤ) (tolerance : ℕ) (u : ℤ) → t <ℤ (u -ℤ pos tolerance) → t ≤ℤ (u +ℤ pos tolerance)
widened t tolerance u h = omega (arith, signed_arith, h)

module _ (keys : Keys) (scope : Scope) (word : List ℕ) (now soonest latest : ℤ) (head made : Head) (was : WasSigned keys scope word now head made) (target : PlainTarget)
    (so : IsSignedAs keys scope word now head made target) where
  abbrev own : SignedForm
  own = form keys scope word now head made target was.moment so was.accepted was.short

  abbrev t : ℤ
  t = whole_second now

  has : HasForm made.headers own
  has = has_form keys scope word now head made target was.moment so was.accepted was.short

  uri_is : head.uri ≡ made.uri
  uri_is = ap (λ (h : Head). h.uri) so.is

  method_is : head.method ≡ made.method
  method_is = ap (λ (h : Head). h.method) so.is

  read : target_to_sign scope made ≡ Ok target
  read =
      let of_head = target_to_sign-IsTargetOf scope head target so.read in
      target_to_sign-Ok scope made target was.accepted
      (record { read = subst (λ uri. target_of uri ≡ Some target) uri_is of_head.read; authority = of_head.authority; named = of_head.named; path = of_head.path })

  same_request : request_to_sign made target (listed own.names made.headers) word
      ≡ request_to_sign head target (fields keys scope word now head target) word
  same_request =
      ap (λ hs. request_to_sign made target hs word) (selected keys scope word now head made target was.moment so was.accepted was.short)
      ∙ ap (λ (h : Head). request_to_sign h target (fields keys scope word now head target) word) (sym so.is)

  same_signature : own.signature ≡ signature_of keys.secret scope t (request_to_sign made target (listed own.names made.headers) word)
  same_signature =
      sym (ap (signature_of keys.secret scope t) same_request ∙ signature_of-same scope t now (civil_of-whole_second now so.low) keys.secret (request_to_sign head target (fields keys scope word now head target) word))

  found_own : found_by keys scope word soonest latest made target own ≡ found_around t soonest latest
  found_own =
      let credential : bytes_eq own.credential (credential_text keys scope t) ≡ true = (bytes_eq-Decides own.credential (credential_text keys scope t)).1 refl in
      let signed_so : bytes_eq own.signature (signature_of keys.secret scope t (request_to_sign made target (listed own.names made.headers) word)) ≡ true = (bytes_eq-Decides _ _).1 same_signature in
      rw (credential, was.content, signed_so) refl

  found_at : (found : CheckedHead) → FoundIn keys scope word soonest latest made target found
      → found ≡ found_around t soonest latest
  found_at found (inl none) = absurd (none.1 own has)
  found_at found (inr some) =
      some.2 ∙ (ap (found_by keys scope word soonest latest made target) (one_form made.headers some.0 own some.1.says has.says) ∙ found_own)

  is_found : (found : CheckedHead) → IsFound keys scope word soonest latest made found
      → found ≡ found_around t soonest latest
  is_found found h = found_at found (subst (λ answer. FoundAt keys scope word soonest latest made answer found) read h)

-- what is found at a head that was signed
found-WasSigned : (keys : Keys) (scope : Scope) (word : List ℕ) (now soonest latest : ℤ) (head made : Head)
    (found : CheckedHead) → WasSigned keys scope word now head made
    → IsFound keys scope word soonest latest made found
    → found ≡ found_around (whole_second now) soonest latest
found-WasSigned keys scope word now soonest latest head made found was h =
    let so = signed_as keys scope word now head made was.made in
    is_found keys scope word now soonest latest head made was so.0 so.1 found h

module _ (keys : Keys) (scope : Scope) (word : List ℕ) (now u : ℤ) (tolerance : ℕ) (head made : Head)
    (found : CheckedHead) (was : WasSigned keys scope word now head made)
    (is : IsFound keys scope word (u -ℤ pos tolerance) (u +ℤ pos tolerance) made found) where
  abbrev soonest_at : ℤ
  soonest_at = u -ℤ pos tolerance

  abbrev latest_at : ℤ
  latest_at = u +ℤ pos tolerance

  around : found ≡ found_around (whole_second now) soonest_at latest_at
  around = found-WasSigned keys scope word now soonest_at latest_at head made found was is

  pub signed-Valid : (found ≡ Valid) ↔ IsWithin now tolerance u
  signed-Valid = subst (λ c. (c ≡ Valid) ↔ IsWithin now tolerance u) (sym around) (around-Valid (whole_second now) soonest_at latest_at)

  pub signed-Early : latest_at <ℤ whole_second now → found ≡ Early
  signed-Early early = around ∙ around-Early (whole_second now) soonest_at latest_at early

  pub signed-Late : whole_second now <ℤ soonest_at → found ≡ Late
  signed-Late past = around ∙ around-Late (whole_second now) soonest_at latest_at (widened (whole_second now) tolerance u past) past
