-- What is known of a link that was made: the head and the target that it was made of.
use Rattle.std.proofs.Common.{◌≡◌, ℕ, ℤ, ◌<◌, ◌≤◌, true, false, ◌||◌, ◌==◌, inl, inr, Result, Ok, Err, refl, arith}
use Rattle.std.specs.Prelude.{nat_lt}
use Rattle.std.proofs.lemmas.Bool.{cases_Bool, or_parts}
use Rattle.std.proofs.lemmas.Bool.Decides.{nat_tests}
use Rattle.jiff_core.proofs.SignedLemmas.{signed_arith}
use Rattle.sign_time.specs.Calendar.{IsFourDigitYear}
use Rattle.sign_base.specs.declared.head.Head.{Head}
use Rattle.sign_request.specs.AcceptedHead.{is_accepted_head}
use Rattle.sign_request.specs.PlainTarget.{PlainTarget}
use Rattle.sigv4_core.specs.Credential.{Credential as Keys}
use Rattle.sigv4_core.specs.Scope.{Scope}
use Rattle.sigv4_core.specs.SignedHead.{target_to_sign, is_before_year_0}
use Rattle.sigv4_core.specs.declared.sig_error.SigError.{SigError}
use Rattle.sigv4_presign.specs.LinkPairs.{has_link_name}
use Rattle.sigv4_presign.specs.PresignedLink.{raw_query, presigned_link, if_accepted, presigned_at, presigning_of}

-- the head with the link as its URI
abbrev pub link_head : Keys → Scope → ℕ → ℤ → Head → PlainTarget → Head
link_head keys scope expires now head target = record head { uri = presigned_link keys scope expires now head target }

-- the link was made of this target, and none of the causes against it holds
pub record IsMadeOf (keys : Keys) (scope : Scope) (expires : ℕ) (now : ℤ) (head link : Head) (target : PlainTarget) : Type 0 where
  pub signed : target_to_sign scope head ≡ Ok target
  pub low : IsFourDigitYear now
  pub fresh : has_link_name (raw_query target) ≡ false
  pub some : 0 < expires
  pub most : expires ≤ 604800
  pub is : link_head keys scope expires now head target ≡ link
  pub accepted : is_accepted_head (link_head keys scope expires now head target) ≡ true

if_accepted-Ok : (head link : Head) → if_accepted head ≡ Ok link
    → (head ≡ link) × (is_accepted_head head ≡ true)
if_accepted-Ok head link e =
    elim (cases_Bool (is_accepted_head head)) [
      | inl accepted ↦ let same = rw accepted at e in (cc, accepted)
      | inr refused ↦ absurd (let bad = rw refused at e in cc)
    ]

from_year_0 : (now : ℤ) → is_before_year_0 now ≡ false → IsFourDigitYear now
from_year_0 now h = grind (arith, signed_arith)

module _ (keys : Keys) (scope : Scope) (expires : ℕ) (now : ℤ) (head link : Head) where
  made_at : (answer : Result PlainTarget SigError) → target_to_sign scope head ≡ answer
      → presigned_at keys scope expires now head answer ≡ Ok link
      → (target : PlainTarget) × IsMadeOf keys scope expires now head link target
  made_at (Err why) was e = absurd (cc)
  made_at (Ok target) was e =
      elim (cases_Bool (is_before_year_0 now)) [
        | inl early ↦ absurd (let bad = rw early at e in cc)
        | inr low ↦ elim (cases_Bool (has_link_name (raw_query target))) [
          | inl already ↦ absurd (let bad = rw (low, already) at e in cc)
          | inr fresh ↦ elim (cases_Bool ((expires == 0) || nat_lt 604800 expires)) [
            | inl out ↦ absurd (let bad = rw (low, fresh, out) at e in cc)
            | inr within ↦
                let made = if_accepted-Ok (link_head keys scope expires now head target) link (rw (low, fresh, within) at e) in
                let bounds = or_parts (expires == 0) (nat_lt 604800 expires) within in (
                  target,
                  record {
                    signed = was;
                    low = from_year_0 now low;
                    fresh = fresh;
                    some = grind (arith, nat_tests);
                    most = grind (arith, nat_tests);
                    is = made.0;
                    accepted = made.1;
                  },
                )
          ]
        ]
      ]

  pub made_of : presigning_of keys scope expires now head ≡ Ok link
      → (target : PlainTarget) × IsMadeOf keys scope expires now head link target
  unfolding presigning_of
  made_of e = made_at (target_to_sign scope head) refl e
