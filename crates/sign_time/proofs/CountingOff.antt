-- Years and months that are counted off lead to the date with that many days before it.
use Rattle.std.proofs.Common.{◌≡◌, ℕ, zero, suc, ◌+◌, ◌-◌, ◌<◌, ◌≤◌, nat_lt, true, false, refl, ◌∙◌, arith, pos}
use Rattle.std.proofs.lemmas.Bool.Decides.{nat_tests}
use Rattle.jiff_core.specs.Calendar.{days_in_year, days_in_month, days_of_months, day_count}
use Rattle.jiff_core.proofs.SignedLemmas.{signed_arith}
use Rattle.jiff_core.proofs.CalendarLemmas.{day_count-next_year, day_count-later_year, days_of_months_more, days_of_months_mono}
use Rattle.sign_time.specs.Calendar.{count_years, count_months}

-- the days before a year, counted from the year -10000
abbrev pub days_before : ℕ → ℕ
days_before year = day_count (pos year) 1 1

pub days_before-next : (year : ℕ) → days_before (year + 1) ≡ days_before year + days_in_year (pos year)
days_before-next year = day_count-next_year (pos year) (pos (year + 1)) (omega (arith, signed_arith)) (omega (arith, signed_arith))

days_before-later : (year k : ℕ) → days_before (year + 1) ≤ days_before (year + suc k)
days_before-later year k =
    let later = day_count-later_year (pos year) (pos (year + suc k)) (omega (arith, signed_arith)) (omega (arith, signed_arith)) in
    omega (arith, later, days_before-next year)

pub counts_here : (most year days : ℕ) → days < days_in_year (pos year)
    → count_years most year days ≡ (year, days)
unfolding count_years
counts_here zero year days h = refl
counts_here (suc most) year days h = let t : nat_lt days (days_in_year (pos year)) ≡ true = grind (arith, nat_tests, h) in rw t refl

pub counts_on : (most year days : ℕ) → days_in_year (pos year) ≤ days
    → count_years (suc most) year days ≡ count_years most (year + 1) (days - days_in_year (pos year))
unfolding count_years
counts_on most year days h = let t : nat_lt days (days_in_year (pos year)) ≡ false = grind (arith, nat_tests, h) in rw t refl

-- the year that is reached is the one with so many days before it and the rest in it
pub count_years-found : (k most year days rest : ℕ) → k ≤ most
    → days + days_before year ≡ days_before (year + k) + rest → rest < days_in_year (pos (year + k))
    → count_years most year days ≡ (year + k, rest)
count_years-found zero most year days rest h e small =
    let same : year + 0 ≡ year = omega arith in
    let day : days ≡ rest = omega (arith, rw same at e) in
    rw (same, day) (counts_here most year rest (rw same at small))
count_years-found (suc k) zero year days rest h e small = absurd (omega arith)
count_years-found (suc k) (suc most) year days rest h e small =
    let whole : days_in_year (pos year) ≤ days = omega (arith, days_before-next year, days_before-later year k, e) in
    let next : year + suc k ≡ year + 1 + k = omega arith in
    let left : days - days_in_year (pos year) + days_before (year + 1) ≡ days_before (year + 1 + k) + rest = omega (arith, days_before-next year, whole, rw next at e) in
    counts_on most year days whole
    ∙ rw next (count_years-found k most (year + 1) (days - days_in_year (pos year)) rest (omega arith) left (rw next at small))

pub months_here : (year most month days : ℕ) → days < days_in_month (pos year) month
    → count_months year most month days ≡ (month, days)
unfolding count_months
months_here year zero month days h = refl
months_here year (suc most) month days h = let t : nat_lt days (days_in_month (pos year) month) ≡ true = grind (arith, nat_tests, h) in rw t refl

pub months_on : (year most month days : ℕ) → days_in_month (pos year) month ≤ days
    → count_months year (suc most) month days
    ≡ count_months year most (month + 1) (days - days_in_month (pos year) month)
unfolding count_months
months_on year most month days h = let t : nat_lt days (days_in_month (pos year) month) ≡ false = grind (arith, nat_tests, h) in rw t refl

-- the days of the year before a month
abbrev pub days_before_month : ℕ → ℕ → ℕ
days_before_month year month = days_of_months (pos year) (month - 1)

pub days_before_month-next : (year month : ℕ) → 1 ≤ month
    → days_before_month year (month + 1) ≡ days_before_month year month + days_in_month (pos year) month
days_before_month-next year month h =
    let back : month + 1 - 1 ≡ month = omega arith in
    rw back (days_of_months_more (pos year) month h)

days_before_month-later : (year month k : ℕ)
    → days_before_month year (month + 1) ≤ days_before_month year (month + suc k)
days_before_month-later year month k = days_of_months_mono (pos year) (month + 1 - 1) (month + suc k - 1) (omega arith)

pub count_months-found : (year k most month days rest : ℕ) → 1 ≤ month → k ≤ most
    → days + days_before_month year month ≡ days_before_month year (month + k) + rest
    → rest < days_in_month (pos year) (month + k) → count_months year most month days ≡ (month + k, rest)
count_months-found year zero most month days rest low h e small =
    let same : month + 0 ≡ month = omega arith in
    let day : days ≡ rest = omega (arith, rw same at e) in
    rw (same, day) (months_here year most month rest (rw same at small))
count_months-found year (suc k) zero month days rest low h e small = absurd (omega arith)
count_months-found year (suc k) (suc most) month days rest low h e small =
    let whole : days_in_month (pos year) month ≤ days = omega (arith, days_before_month-next year month low, days_before_month-later year month k, e) in
    let next : month + suc k ≡ month + 1 + k = omega arith in
    let left : days - days_in_month (pos year) month + days_before_month year (month + 1) ≡ days_before_month year (month + 1 + k) + rest = omega (arith, days_before_month-next year month low, whole, rw next at e) in
    months_on year most month days whole
    ∙ rw next (count_months-found year k most (month + 1) (days - days_in_month (pos year) month) rest (omega arith) (omega arith) left (rw next at small))
