-- The date and time that is printed of a moment shows the whole second at or before it.
use Rattle.std.proofs.Common.{◌≡◌, ℕ, ◌+◌, ◌*◌, ◌/◌, ◌%◌, ◌<◌, inl, inr, List, [], ◌∷◌, ◌++◌, ap, ap₂, ◌∙◌, arith, ℤ, pos, neg_ℤ, ◌+ℤ◌}
use Rattle.std.specs.Int.{int_div_euclid}
use Rattle.std.proofs.lemmas.Fmt.{decimal_digit}
use Rattle.jiff_core.proofs.SignedLemmas.{signed_arith, one_part}
use Rattle.jiff_core.proofs.CalendarLemmas.{days_in_month_bounds, days_of_months-zero, days_of_months_all, day_count-end}
use Rattle.sign_time.specs.Calendar.{Civil, civil_of, day_of, second_of, since_year_0, second_nanos, day_nanos, days_before_1970, year_reached, month_reached, IsFourDigitYear}
use Rattle.sign_base.specs.Moment.{IsMoment, moment_of_second}
use Rattle.sign_time.specs.MomentText.{two_digits, four_digits, iso8601_text}
use Rattle.sign_time.specs.MomentRead.{whole_second, number_at, shown_days, shown_time, shown_moment}
use Rattle.sign_time.proofs.CivilTime.{day_count-year_0}
use Rattle.sign_time.proofs.DaysCounted.{count_years-most, count_years-within, count_months-most, count_months-within, days_before-reached}

-- ---- digits
two_glyphs : (n : ℕ) → n < 100 → two_digits n ≡ (48 + n / 10) ∷ (48 + n % 10) ∷ []
two_glyphs n small = ap₂ (λ x y. x ++ y) (decimal_digit (n / 10) (omega arith)) (decimal_digit (n % 10) (omega arith))

four_glyphs : (n : ℕ) → n < 10000
    → four_digits n
    ≡ (48 + n / 100 / 10) ∷ (48 + n / 100 % 10) ∷ (48 + n % 100 / 10) ∷ (48 + n % 100 % 10) ∷ []
four_glyphs n small = ap₂ (λ x y. x ++ y) (two_glyphs (n / 100) (omega arith)) (two_glyphs (n % 100) (omega arith))

-- each field of the date and time is printed whole
pub record IsPrintable (c : Civil) : Type 0 where
  pub year : c.year < 10000
  pub month : c.month < 100
  pub day : c.day < 100
  pub hour : c.hour < 100
  pub minute : c.minute < 100
  pub second : c.second < 100

-- the sixteen bytes
abbrev printed : Civil → List ℕ
printed c =
    (48 + c.year / 100 / 10) ∷ (48 + c.year / 100 % 10) ∷ (48 + c.year % 100 / 10) ∷ (48 + c.year % 100 % 10)
    ∷ (48 + c.month / 10) ∷ (48 + c.month % 10) ∷ (48 + c.day / 10) ∷ (48 + c.day % 10) ∷ 84
    ∷ (48 + c.hour / 10) ∷ (48 + c.hour % 10) ∷ (48 + c.minute / 10) ∷ (48 + c.minute % 10)
    ∷ (48 + c.second / 10) ∷ (48 + c.second % 10) ∷ 90 ∷ []

pub iso8601_text-printed : (c : Civil) → IsPrintable c → iso8601_text c ≡ printed c
iso8601_text-printed c h =
    simp (four_glyphs c.year h.year, two_glyphs c.month h.month, two_glyphs c.day h.day, two_glyphs c.hour h.hour, two_glyphs c.minute h.minute, two_glyphs c.second h.second)

-- and they are read as the fields
pub record ShowsFields (text : List ℕ) (c : Civil) : Type 0 where
  pub year : number_at 0 4 text ≡ c.year
  pub month : number_at 4 2 text ≡ c.month
  pub day : number_at 6 2 text ≡ c.day
  pub hour : number_at 9 2 text ≡ c.hour
  pub minute : number_at 11 2 text ≡ c.minute
  pub second : number_at 13 2 text ≡ c.second

pub fields_read : (c : Civil) → IsPrintable c → ShowsFields (iso8601_text c) c
fields_read c h =
    rw (iso8601_text-printed c h)
    (record {
      year = omega arith;
      month = omega arith;
      day = omega arith;
      hour = omega arith;
      minute = omega arith;
      second = omega arith;
    })

-- ---- moments
last_day : (t : ℤ) → IsMoment t → IsFourDigitYear t → day_of t < 3652425
last_day t h low = grind (arith, signed_arith)

pub civil_of-IsPrintable : (t : ℤ) → IsMoment t → IsFourDigitYear t → IsPrintable (civil_of t)
civil_of-IsPrintable t h low =
    let day = day_of t in
    let late = last_day t h low in
    let year = count_years-within 9999 0 day (omega (arith, day_count-year_0, day_count-end, late)) in
    let days = days_of_months-zero (pos (year_reached day).0) in
    let all = days_of_months_all (pos (year_reached day).0) in
    let month = count_months-within (year_reached day).0 11 1 (year_reached day).1 (omega arith) (omega (arith, year, days, all)) in
    record {
      year = omega (arith, count_years-most 9999 0 day);
      month = omega (arith, count_months-most (year_reached day).0 11 1 (year_reached day).1);
      day = omega (arith, month, days_in_month_bounds (pos (year_reached day).0) (month_reached day).0);
      hour = omega arith;
      minute = omega arith;
      second = omega arith;
    }

-- the days and the seconds of the day are those of the moment
days_read : (t : ℤ) → IsMoment t → IsFourDigitYear t → shown_days (iso8601_text (civil_of t)) ≡ day_of t
days_read t h low =
    let read = fields_read (civil_of t) (civil_of-IsPrintable t h low) in
    rw (read.year, read.month, read.day) (days_before-reached (day_of t))

time_read : (t : ℤ) → IsMoment t → IsFourDigitYear t → shown_time (iso8601_text (civil_of t)) ≡ second_of t
time_read t h low =
    let read = fields_read (civil_of t) (civil_of-IsPrintable t h low) in
    omega (arith, read.hour, read.minute, read.second)

whole_days : (n : ℕ) → n / day_nanos * 86400 + n % day_nanos / second_nanos ≡ n / second_nanos
whole_days n = omega arith

since_is : (t : ℤ) → IsFourDigitYear t → t +ℤ pos (days_before_1970 * day_nanos) ≡ pos (since_year_0 t)
since_is t low =
    elim (one_part (t +ℤ pos (days_before_1970 * day_nanos))) [
      | inl none ↦ omega (arith, signed_arith, low, none)
      | inr some ↦ omega (arith, signed_arith, low, some)
    ]

pub second_found : (t : ℤ) → IsFourDigitYear t
    → pos (since_year_0 t / second_nanos) +ℤ neg_ℤ (pos (days_before_1970 * 86400))
    ≡ int_div_euclid t (pos second_nanos)
second_found t low = omega (arith, signed_arith, since_is t low)

pub shown_moment-printed : (t : ℤ) → IsMoment t → IsFourDigitYear t
    → shown_moment (iso8601_text (civil_of t)) ≡ whole_second t
shown_moment-printed t h low =
    let seconds : shown_days (iso8601_text (civil_of t)) * 86400 + shown_time (iso8601_text (civil_of t)) ≡ since_year_0 t / second_nanos =
    omega (arith, days_read t h low, time_read t h low, whole_days (since_year_0 t)) in
    ap moment_of_second (ap (λ n. pos n +ℤ neg_ℤ (pos (days_before_1970 * 86400))) seconds ∙ second_found t low)
