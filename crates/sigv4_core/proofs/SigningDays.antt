-- The moments of one day have one date, and those of one date one credential scope.
use Rattle.std.proofs.Common.{◌≡◌, ℕ, ℤ, ◌+◌, ◌++◌, List, sym, ap, ◌∙◌}
use Rattle.sign_time.specs.Calendar.{day_of, year_reached, month_reached}
use Rattle.sign_time.specs.MomentText.{four_digits, two_digits}
use Rattle.sigv4_core.specs.Scope.{Scope}
use Rattle.sigv4_core.specs.Signature.{date_of, scope_text}
use Rattle.sigv4_core.specs.SigningDay.{IsSigningDay}

-- the date of a day
abbrev date_at : ℕ → List ℕ
date_at day =
    four_digits (year_reached day).0
    ++ (two_digits (month_reached day).0 ++ two_digits ((month_reached day).1 + 1))

pub date_of-same_day : (t u : ℤ) → day_of t ≡ day_of u → date_of t ≡ date_of u
date_of-same_day t u same = ap date_at same

pub scope_text-same_date : (scope : Scope) (t u : ℤ) → date_of t ≡ date_of u → scope_text scope t ≡ scope_text scope u
unfolding scope_text
scope_text-same_date scope t u same = rw same

-- what a key keeps of the day of a moment
pub signing_day : (day : ℕ) (date : List ℕ) (scope : Scope) (text : List ℕ) (now : ℤ) → day ≡ day_of now
    → date ≡ date_of now → text ≡ scope_text scope now → IsSigningDay day date scope text
signing_day day date scope text now day_is date_is text_is = record {
  same_date = λ t same. date_of-same_day t now (same ∙ day_is) ∙ sym date_is;
  same_scope = λ t same. scope_text-same_date scope t now (same ∙ date_is) ∙ sym text_is;
}
