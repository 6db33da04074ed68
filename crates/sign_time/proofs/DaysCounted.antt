-- What is counted off of a number of days is a date, and has as many days before it.
use Rattle.std.proofs.Common.{◌≡◌, ℕ, zero, suc, ◌+◌, ◌-◌, ◌<◌, ◌≤◌, inl, inr, refl, arith, pos}
use Rattle.std.proofs.lemmas.Bool.{cases_lt}
use Rattle.jiff_core.specs.Calendar.{days_in_year, days_in_month}
use Rattle.jiff_core.proofs.CalendarLemmas.{day_count-day_of_year, days_of_months-zero}
use Rattle.sign_time.specs.Calendar.{count_years, count_months, year_reached, month_reached}
use Rattle.sign_time.specs.MomentRead as read
use Rattle.sign_time.proofs.CountingOff.{days_before, days_before-next, counts_here, counts_on, days_before_month, days_before_month-next, months_here, months_on}

-- the years that were counted off and the rest are the days
pub count_years-keeps : (most year days : ℕ)
    → (count_years most year days).1 + days_before (count_years most year days).0 ≡ days + days_before year
unfolding count_years
count_years-keeps zero year days = refl
count_years-keeps (suc most) year days =
    elim (cases_lt days (days_in_year (pos year))) [
      | inl here ↦ rw (counts_here (suc most) year days here) refl
      | inr on ↦
          let rest = count_years-keeps most (year + 1) (days - days_in_year (pos year)) in
          rw (counts_on most year days on) (omega (arith, rest, days_before-next year))
    ]

-- not more are counted off than may be
pub count_years-most : (most year days : ℕ) → (count_years most year days).0 ≤ year + most
unfolding count_years
count_years-most zero year days = omega arith
count_years-most (suc most) year days =
    elim (cases_lt days (days_in_year (pos year))) [
      | inl here ↦ rw (counts_here (suc most) year days here) (omega arith)
      | inr on ↦ rw (counts_on most year days on) (let rest = count_years-most most (year + 1) (days - days_in_year (pos year)) in omega (arith, rest))
    ]

-- where these are enough, the rest lies in the year
pub count_years-within : (most year days : ℕ) → days + days_before year < days_before (year + suc most)
    → (count_years most year days).1 < days_in_year (pos (count_years most year days).0)
unfolding count_years
count_years-within zero year days h = omega (arith, days_before-next year, h)
count_years-within (suc most) year days h =
    elim (cases_lt days (days_in_year (pos year))) [
      | inl here ↦ rw (counts_here (suc most) year days here) here
      | inr on ↦
          let next : year + suc (suc most) ≡ year + 1 + suc most = omega arith in
          let left : days - days_in_year (pos year) + days_before (year + 1) < days_before (year + 1 + suc most) = omega (arith, days_before-next year, on, rw next at h) in
          rw (counts_on most year days on) (count_years-within most (year + 1) (days - days_in_year (pos year)) left)
    ]

-- the same of months
pub count_months-keeps : (year most month days : ℕ) → 1 ≤ month
    → (1 ≤ (count_months year most month days).0)
    × ((count_months year most month days).1 + days_before_month year (count_months year most month days).0
    ≡ days + days_before_month year month)
unfolding count_months
count_months-keeps year zero month days low = (low, refl)
count_months-keeps year (suc most) month days low =
    elim (cases_lt days (days_in_month (pos year) month)) [
      | inl here ↦ rw (months_here year (suc most) month days here) (low, refl)
      | inr on ↦
          let rest = count_months-keeps year most (month + 1) (days - days_in_month (pos year) month) (omega arith) in
          rw (months_on year most month days on) (rest.0, omega (arith, rest.1, days_before_month-next year month low))
    ]

pub count_months-most : (year most month days : ℕ) → (count_months year most month days).0 ≤ month + most
unfolding count_months
count_months-most year zero month days = omega arith
count_months-most year (suc most) month days =
    elim (cases_lt days (days_in_month (pos year) month)) [
      | inl here ↦ rw (months_here year (suc most) month days here) (omega arith)
      | inr on ↦ rw (months_on year most month days on) (let rest = count_months-most year most (month + 1) (days - days_in_month (pos year) month) in omega (arith, rest))
    ]

pub count_months-within : (year most month days : ℕ) → 1 ≤ month
    → days + days_before_month year month < days_before_month year (month + suc most)
    → (count_months year most month days).1 < days_in_month (pos year) (count_months year most month days).0
unfolding count_months
count_months-within year zero month days low h = omega (arith, days_before_month-next year month low, h)
count_months-within year (suc most) month days low h =
    elim (cases_lt days (days_in_month (pos year) month)) [
      | inl here ↦ rw (months_here year (suc most) month days here) here
      | inr on ↦
          let next : month + suc (suc most) ≡ month + 1 + suc most = omega arith in
          let left : days - days_in_month (pos year) month + days_before_month year (month + 1) < days_before_month year (month + 1 + suc most) = omega (arith, days_before_month-next year month low, on, rw next at h) in
          rw (months_on year most month days on) (count_months-within year most (month + 1) (days - days_in_month (pos year) month) (omega arith) left)
    ]

-- a date that was counted off has as many days before it
pub days_before-reached : (day : ℕ)
    → read.days_before (year_reached day).0 (month_reached day).0 ((month_reached day).1 + 1) ≡ day
days_before-reached day =
    let years = count_years-keeps 9999 0 day in
    let months = count_months-keeps (year_reached day).0 11 1 (year_reached day).1 (omega arith) in
    let first = day_count-day_of_year (pos (year_reached day).0) (month_reached day).0 ((month_reached day).1 + 1) (omega arith) in
    omega (arith, years, months.1, first, days_of_months-zero (pos (year_reached day).0))
