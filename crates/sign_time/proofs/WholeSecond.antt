-- The whole second at or before a moment: it is a moment, and the calendar and the clock show the same there.
use Rattle.std.proofs.Common.{◌≡◌, ℕ, ◌+◌, ◌*◌, ◌/◌, ◌%◌, ap, ap₂, ◌∙◌, arith, ℤ, pos, ◌+ℤ◌, ◌≤ℤ◌, ◌<ℤ◌, unsigned_abs}
use Rattle.jiff_core.proofs.SignedLemmas.{signed_arith}
use Rattle.sign_time.specs.Calendar.{Civil, civil_of, day_of, second_of, since_year_0, second_nanos, day_nanos, days_before_1970, year_reached, month_reached, weekday_of_day, IsFourDigitYear}
use Rattle.sign_base.specs.Moment.{IsMoment}
use Rattle.sign_time.specs.MomentRead.{whole_second}
use Rattle.sign_time.proofs.MomentReadBack.{second_found}

pub whole_second-le : (t : ℤ) → whole_second t ≤ℤ t
whole_second-le t = omega (arith, signed_arith)

pub whole_second-lt : (t : ℤ) → t <ℤ (whole_second t +ℤ pos second_nanos)
whole_second-lt t = omega (arith, signed_arith)

pub whole_second-IsFourDigitYear : (t : ℤ) → IsFourDigitYear t → IsFourDigitYear (whole_second t)
whole_second-IsFourDigitYear t low = omega (arith, signed_arith)

pub whole_second-IsMoment : (t : ℤ) → IsMoment t → IsFourDigitYear t → IsMoment (whole_second t)
whole_second-IsMoment t h low = let late = whole_second-le t in let early = whole_second-IsFourDigitYear t low in grind (arith, signed_arith)

since_whole : (t : ℤ) → IsFourDigitYear t
    → since_year_0 (whole_second t) ≡ since_year_0 t / second_nanos * second_nanos
since_whole t low =
    let found = second_found t low in
    let shifted : whole_second t +ℤ pos (days_before_1970 * day_nanos) ≡ pos (since_year_0 t / second_nanos * second_nanos) = omega (arith, signed_arith, found) in
    ap unsigned_abs shifted

-- seconds within a day are those of the nanoseconds
same_day : (n : ℕ) → n / second_nanos * second_nanos / day_nanos ≡ n / day_nanos
same_day n = omega arith

same_second : (n : ℕ)
    → n / second_nanos * second_nanos % day_nanos / second_nanos ≡ n % day_nanos / second_nanos
same_second n = omega arith

civil_at : ℕ → ℕ → Civil
civil_at day second = record {
  year = (year_reached day).0;
  month = (month_reached day).0;
  day = (month_reached day).1 + 1;
  weekday = weekday_of_day day;
  hour = second / 3600;
  minute = second / 60 % 60;
  second = second % 60;
}

pub civil_of-whole_second : (t : ℤ) → IsFourDigitYear t → civil_of (whole_second t) ≡ civil_of t
unfolding civil_at
civil_of-whole_second t low =
    let since = since_whole t low in
    let day : day_of (whole_second t) ≡ day_of t = ap (λ n. n / day_nanos) since ∙ same_day (since_year_0 t) in
    let second : second_of (whole_second t) ≡ second_of t = ap (λ n. n % day_nanos / second_nanos) since ∙ same_second (since_year_0 t) in
    ap₂ civil_at day second
