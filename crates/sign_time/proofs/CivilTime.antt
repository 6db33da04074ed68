-- A date and time that lies so many nanoseconds from 1970 shows what the calendar says of that moment.
use Rattle.std.proofs.Common.{◌≡◌, ℕ, zero, suc, ◌+◌, ◌-◌, ◌*◌, ◌/◌, ◌%◌, ◌≤◌, refl, sym, ap, ◌∙◌, arith, ℤ, pos, negsuc, ◌+ℤ◌, unsigned_abs}
use Rattle.std.proofs.lemmas.Int.{int_rem_euclid_is}
use Rattle.jiff_core.specs.declared.civil.datetime.DateTime.{DateTime}
use Rattle.jiff_core.specs.Calendar.{days_of_months, day_count, day_of_year, days_from_civil, weekday_number, IsCivilDate}
use Rattle.jiff_core.specs.DateTime.{civil_nanos}
use Rattle.jiff_core.specs.Time.{time_nanos, time_seconds}
use Rattle.jiff_core.proofs.SignedLemmas.{signed_arith}
use Rattle.jiff_core.proofs.MarchLemmas.{day_count-early}
use Rattle.jiff_core.proofs.CalendarLemmas.{days_from_civil-day_count, day_count-lt_year, day_count-later_year, day_count-day_of_year, day_of_year_bound, days_of_months-zero}
use Rattle.jiff_core.proofs.DateLemmas.{civil}
use Rattle.jiff_core.proofs.DateTimeLemmas.{civil_nanos-parts, time_nanos_bound}
use Rattle.sign_time.specs.Calendar.{count_months, civil_of, since_year_0, day_of, second_of, day_nanos, days_before_1970, year_reached, month_reached, weekday_of_day, IsFourDigitYear}
use Rattle.sign_time.specs.CivilShown.{ShowsCivil}
use Rattle.sign_time.proofs.CountingOff.{count_years-found, count_months-found}

-- the days before the year 0, counted as `jiff` counts
pub day_count-year_0 : day_count (pos 0) 1 1 ≡ 3652425
day_count-year_0 = day_count-early (pos 0) 9999 1 1 refl (omega arith) (omega arith) (omega arith)

-- the days of a date since the year 0 began
abbrev days_since : ℤ → ℕ → ℕ → ℕ
days_since z m d = day_count z m d - 3652425

-- counting off leads to the date's year ..
year_found : (year m d : ℕ) → IsCivilDate (pos year) m d → 3652425 ≤ day_count (pos year) m d
    → year_reached (days_since (pos year) m d) ≡ (year, day_of_year (pos year) m d - 1)
year_found year m d h low =
    let same : 0 + year ≡ year = omega arith in
    let within : year ≤ 9999 = omega (arith, signed_arith, h.0.1) in
    let first = day_count-day_of_year (pos year) m d h.2.0 in
    let inside = day_of_year_bound (pos year) m d h in
    let split : days_since (pos year) m d + day_count (pos 0) 1 1 ≡ day_count (pos year) 1 1 + (day_of_year (pos year) m d - 1) = omega (arith, low, first, day_count-year_0, h.2.0) in
    rw same at (count_years-found year 9999 0 (days_since (pos year) m d) (day_of_year (pos year) m d - 1) within (rw same split) (rw same (omega (arith, inside, h.2.0))))

-- .. and in it to its month
month_found : (year m d : ℕ) → IsCivilDate (pos year) m d
    → count_months year 11 1 (day_of_year (pos year) m d - 1) ≡ (m, d - 1)
month_found year m d h =
    let same : 1 + (m - 1) ≡ m = omega (arith, h.1.0) in
    let start : 1 - 1 ≡ 0 = refl in
    let split : day_of_year (pos year) m d - 1 + days_of_months (pos year) 0 ≡ days_of_months (pos year) (m - 1) + (d - 1) = omega (arith, days_of_months-zero (pos year), h.2.0) in
    rw same at (count_months-found year (m - 1) 11 1 (day_of_year (pos year) m d - 1) (d - 1) (omega arith) (omega (arith, h.1.1)) (rw same split) (rw same (omega (arith, h.2.0, h.2.1))))

-- a date that does not come before the year 0 is what is counted off
pub date_found : (z : ℤ) (m d : ℕ) → IsCivilDate z m d → 3652425 ≤ day_count z m d
    → (z ≡ pos (year_reached (days_since z m d)).0) × (m ≡ (month_reached (days_since z m d)).0)
    × (d ≡ (month_reached (days_since z m d)).1 + 1)
date_found (pos year) m d h low =
    let years = year_found year m d h low in
    let months : month_reached (days_since (pos year) m d) ≡ (m, d - 1) = rw years (month_found year m d h) in
    let back : d - 1 + 1 ≡ d = omega (arith, h.2.0) in
    (ap (λ r. pos r.0) (sym years), ap (λ r. r.0) (sym months), sym (ap (λ r. r.1 + 1) months ∙ back))
date_found (negsuc before) m d h low = absurd (omega (arith, day_count-year_0, day_count-lt_year (negsuc before) m d (pos 0) 1 1 h (omega arith) (omega (arith, signed_arith))))

-- the weekday by the days since the year 0 began
weekday_found : (z : ℤ) (m d : ℕ) → 3652425 ≤ day_count z m d
    → weekday_number (days_from_civil z m d) ≡ weekday_of_day (days_since z m d)
unfolding weekday_number
weekday_found z m d low =
    let shifted : days_from_civil z m d +ℤ pos 3 +ℤ pos (102790 * 7) ≡ pos (days_since z m d + 5) = omega (arith, signed_arith, days_from_civil-day_count z m d, low) in
    ap unsigned_abs (int_rem_euclid_is (days_from_civil z m d +ℤ pos 3) (pos 7) 7 102790 (days_since z m d + 5) (omega arith) refl shifted)

-- a moment from the year 0 on, as days since then and the time of day
since_found : (shown : DateTime) (t : ℤ) → civil_nanos shown ≡ t → IsFourDigitYear t
    → (3652425 ≤ day_count shown.date.year shown.date.month shown.date.day)
    × (since_year_0 t
    ≡ days_since shown.date.year shown.date.month shown.date.day * day_nanos + time_nanos shown.time)
since_found shown t e low =
    let parts = civil_nanos-parts shown in
    let day = days_from_civil-day_count shown.date.year shown.date.month shown.date.day in
    let bound = time_nanos_bound shown.time in
    let late : 3652425 ≤ day_count shown.date.year shown.date.month shown.date.day = omega (arith, signed_arith, parts, day, bound, e, low) in
    let whole : t +ℤ pos (days_before_1970 * day_nanos) ≡ pos (days_since shown.date.year shown.date.month shown.date.day * day_nanos + time_nanos shown.time) = omega (arith, signed_arith, parts, day, bound, e, late) in
    (late, ap unsigned_abs whole)

-- the time of day by the seconds since midnight
clock_found : (shown : DateTime) (seconds : ℕ) → seconds ≡ time_seconds shown.time
    → (shown.time.hour ≡ seconds / 3600) × (shown.time.minute ≡ seconds / 60 % 60)
    × (shown.time.second ≡ seconds % 60)
clock_found shown seconds e = (omega (arith, e), omega (arith, e), omega (arith, e))

-- a date and time that lies at a moment shows what the calendar and the clock show there
pub civil_shown : (shown : DateTime) (t : ℤ) → civil_nanos shown ≡ t → IsFourDigitYear t
    → ShowsCivil shown (civil_of t)
civil_shown shown t e low =
    let since = since_found shown t e low in
    let bound = time_nanos_bound shown.time in
    let day : day_of t ≡ days_since shown.date.year shown.date.month shown.date.day = omega (arith, since.1, bound) in
    let second : second_of t ≡ time_seconds shown.time = omega (arith, since.1, bound) in
    let date = date_found shown.date.year shown.date.month shown.date.day (civil shown.date) since.0 in
    let clock = clock_found shown (second_of t) second in
    record {
      year = rw day date.0;
      month = rw day date.1;
      day = rw day date.2;
      weekday = rw day (weekday_found shown.date.year shown.date.month shown.date.day since.0);
      hour = clock.0;
      minute = clock.1;
      second = clock.2;
    }

-- the years from 0 on do not begin before the year 0
pub not_before_year_0 : (year month day : ℕ) → IsCivilDate (pos year) month day
    → 3652425 ≤ day_count (pos year) month day
not_before_year_0 zero month day h =
    omega (arith, day_count-year_0, day_count-day_of_year (pos 0) month day h.2.0, h.2.0)
not_before_year_0 (suc n) month day h =
    omega (arith, day_count-year_0, day_count-later_year (pos 0) (pos (suc n)) (omega (arith, signed_arith)) (omega (arith, signed_arith)), day_count-day_of_year (pos (suc n)) month day h.2.0, h.2.0)
