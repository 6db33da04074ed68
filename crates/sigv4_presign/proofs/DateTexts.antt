-- Which texts are read as a date or as an expiry: those that are printed of one.
use Rattle.std.proofs.Common.{◌≡◌, ◌↔◌, ℕ, ℤ, ◌<◌, ◌≤◌, true, ◌&&◌, ◌==◌, inl, inr, List, length, Some, None, sym, ap, subst, ◌∙◌, arith}
use Rattle.std.specs.Prelude.{bytes_eq, decimal, nat_lt}
use Rattle.std.proofs.lemmas.Bool.{cases_Bool, and_parts}
use Rattle.std.proofs.lemmas.Bool.Decides.{nat_tests}
use Rattle.std.proofs.lemmas.Slice.Eq.{bytes_eq-Decides}
use Rattle.sign_base.specs.Moment.{IsMoment, is_moment}
use Rattle.sign_time.specs.Calendar.{civil_of}
use Rattle.sign_time.specs.MomentRead.{number_of, shown_moment, whole_second}
use Rattle.sign_time.specs.MomentText.{iso8601_text}
use Rattle.sigv4_presign.specs.LinkDate.{moment_of_text, expires_of_text}
use Rattle.sigv4_presign.specs.LinkLaw.{IsDateOf, IsExpiryOf}
use Rattle.sigv4_presign.specs.PresignedLink.{is_expiry}
use Rattle.sigv4_presign.proofs.DateRead.{moment_of_text-low}
use Rattle.sigv4_presign.proofs.LinkTimes.{moment_of_text-printed, expires_of_text-decimal}

-- what is read is a moment, and prints as the text
moment_of_text-prints : (text : List ℕ) (t : ℤ) → moment_of_text text ≡ Some t
    → IsMoment t × (iso8601_text (civil_of t) ≡ text)
unfolding moment_of_text
moment_of_text-prints text t read =
    elim (cases_Bool (length text == 16)) [
      | inl sixteen ↦
          elim (cases_Bool (is_moment (shown_moment text) && bytes_eq (iso8601_text (civil_of (shown_moment text))) text)) [
            | inl printed ↦
                let same : Some (shown_moment text) ≡ Some t = rw (sixteen, printed) at read in
                let shown : shown_moment text ≡ t = cc in
                let parts = and_parts (is_moment (shown_moment text)) _ printed in
                (subst IsMoment shown parts.0, subst (λ s. iso8601_text (civil_of s) ≡ text) shown ((bytes_eq-Decides _ _).0 parts.1))
            | inr other ↦ absurd (let bad : None ≡ Some t = rw (sixteen, other) at read in cc)
          ]
      | inr longer ↦ absurd (let bad : None ≡ Some t = rw longer at read in cc)
    ]

pub moment_of_text-IsDateOf : (text : List ℕ) (t : ℤ) → (moment_of_text text ≡ Some t) ↔ IsDateOf text t
moment_of_text-IsDateOf text t = (
  λ read.
      let prints = moment_of_text-prints text t read in
      let low = moment_of_text-low text t read in
      let again : moment_of_text text ≡ Some (whole_second t) = ap moment_of_text (sym prints.1) ∙ moment_of_text-printed t prints.0 low in
      let same : Some (whole_second t) ≡ Some t = sym again ∙ read in
      let whole : whole_second t ≡ t = cc in
      record { moment = prints.0; year = low; whole = whole; printed = prints.1 },
  λ date. ap moment_of_text (sym date.printed) ∙ (moment_of_text-printed t date.moment date.year ∙ ap Some date.whole),
)

-- what is read may be an expiry, and prints as the text
expires_of_text-prints : (text : List ℕ) (n : ℕ) → expires_of_text text ≡ Some n → IsExpiryOf text n
unfolding expires_of_text
expires_of_text-prints text n read =
    elim (cases_Bool (nat_lt 6 (length text))) [
      | inl longer ↦ absurd (let bad : None ≡ Some n = rw longer at read in cc)
      | inr short ↦
          elim (cases_Bool (bytes_eq (decimal (number_of text)) text && is_expiry (number_of text))) [
            | inl printed ↦
                let same : Some (number_of text) ≡ Some n = rw (short, printed) at read in
                let number : number_of text ≡ n = cc in
                let parts = and_parts (bytes_eq (decimal (number_of text)) text) _ printed in
                record {
                  allowed = subst (λ m. is_expiry m ≡ true) number parts.1;
                  printed = subst (λ m. decimal m ≡ text) number ((bytes_eq-Decides _ _).0 parts.0);
                }
            | inr other ↦ absurd (let bad : None ≡ Some n = rw (short, other) at read in cc)
          ]
    ]

pub expires_of_text-IsExpiryOf : (text : List ℕ) (n : ℕ) → (expires_of_text text ≡ Some n) ↔ IsExpiryOf text n
expires_of_text-IsExpiryOf text n = (
  λ read. expires_of_text-prints text n read,
  λ expiry.
      let bounds = and_parts (nat_lt 0 n) _ expiry.allowed in
      let some : 0 < n = grind (arith, nat_tests) in
      let most : n ≤ 604800 = grind (arith, nat_tests) in
      ap expires_of_text (sym expiry.printed) ∙ expires_of_text-decimal n some most,
)
