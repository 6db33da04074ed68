-- What is found at a link that was made is a matter of time alone.
use Rattle.std.proofs.Common.{◌≡◌, ℕ, ◌↔◌, ◌⊎◌, ℤ, pos, ◌+ℤ◌, ◌≤ℤ◌, ◌<ℤ◌, ◌*◌, true, false, not, inl, inr, List, Some, Ok, refl, sym, ◌∙◌, arith}
use Rattle.std.specs.Prelude.{int_le, if◌then◌else◌}
use Rattle.std.proofs.lemmas.Bool.{cases_Bool}
use Rattle.std.proofs.lemmas.Slice.Eq.{bytes_eq-Decides}
use Rattle.jiff_core.proofs.SignedLemmas.{signed_arith}
use Rattle.sign_time.specs.Calendar.{second_nanos}
use Rattle.sign_base.specs.declared.head.Head.{Head}
use Rattle.sign_request.specs.PlainTarget.{PlainTarget}
use Rattle.sigv4_core.specs.Credential.{Credential as Keys}
use Rattle.sigv4_core.specs.Scope.{Scope}
use Rattle.sigv4_presign.specs.LinkPairs.{credential_name, date_name, expires_name, signature_name, credential_text}
use Rattle.sigv4_presign.specs.PresignedLink.{link_signature, raw_query}
use Rattle.sigv4_presign.specs.LinkDate.{moment_of_text, expires_of_text}
use Rattle.sigv4_presign.specs.CheckedLink.{value_of, is_shaped, unsigned_query, checked_at}
use Rattle.sigv4_presign.specs.declared.checked.Checked.{Checked}
use Rattle.sigv4_presign.specs.declared.checked.Checked.TheVariants.{Early, Late, Valid}

-- what is found at a link that is good from t on and before its end, where it is some moment from the soonest to
-- the latest
abbrev pub found_between : ℤ → ℤ → ℤ → ℤ → Checked
found_between t end soonest latest = if not (int_le t latest) then Early else (if int_le end soonest then Late else Valid)

is_le : (a b : ℤ) → a ≤ℤ b → int_le a b ≡ true
is_le a b h = grind (arith, signed_arith)

not_le : (a b : ℤ) → b <ℤ a → int_le a b ≡ false
not_le a b h = grind (arith, signed_arith)

cases_le : (a b : ℤ) → (a ≤ℤ b) ⊎ (b <ℤ a)
cases_le a b =
    elim (cases_Bool (int_le a b)) [
      | inl least ↦ inl (grind (arith, signed_arith))
      | inr above ↦ inr (grind (arith, signed_arith))
    ]

pub found_between-Early : (t end soonest latest : ℤ) → latest <ℤ t → found_between t end soonest latest ≡ Early
found_between-Early t end soonest latest h = rw (not_le t latest h) refl

pub found_between-Late : (t end soonest latest : ℤ) → t ≤ℤ latest → end ≤ℤ soonest
    → found_between t end soonest latest ≡ Late
found_between-Late t end soonest latest from past = rw (is_le t latest from, is_le end soonest past) refl

pub found_between-Valid : (t end soonest latest : ℤ)
    → (found_between t end soonest latest ≡ Valid) ↔ ((t ≤ℤ latest) × (soonest <ℤ end))
found_between-Valid t end soonest latest = (
  λ e.
      elim (cases_le t latest) [
        | inl from ↦ elim (cases_le end soonest) [
          | inl past ↦ absurd (let bad = sym (found_between-Late t end soonest latest from past) ∙ e in cc)
          | inr before ↦ (from, before)
        ]
        | inr early ↦ absurd (let bad = sym (found_between-Early t end soonest latest early) ∙ e in cc)
      ],
  λ h. rw (is_le t latest h.0, not_le end soonest h.1) refl,
)

-- a link whose values are those of its date and its signature is a matter of time alone
module _ (keys : Keys) (scope : Scope) (head : Head) (target : PlainTarget) (query : List ℕ) (t : ℤ)
    (expires : ℕ) where
  pub record HasValues : Type 0 where
    pub read : raw_query target ≡ query
    pub shaped : is_shaped query ≡ true
    pub date : moment_of_text (value_of query date_name) ≡ Some t
    pub expiry : expires_of_text (value_of query expires_name) ≡ Some expires
    pub credential : value_of query credential_name ≡ credential_text keys scope t
    pub signature : value_of query signature_name
        ≡ link_signature keys scope t head target (unsigned_query query)

  pub checked_at-HasValues : HasValues → (soonest latest : ℤ)
      → checked_at keys scope soonest latest head (Ok target)
      ≡ found_between t (t +ℤ pos (expires * second_nanos)) soonest latest
  checked_at-HasValues h soonest latest =
      let credential = (bytes_eq-Decides (value_of query credential_name) (credential_text keys scope t)).1 h.credential in
      let signature = (bytes_eq-Decides (value_of query signature_name) (link_signature keys scope t head target (unsigned_query query))).1 h.signature in
      rw (h.read, h.shaped, h.date, h.expiry, h.read, credential, signature) refl
