-- The calendar in UTC from the year 0 on: the date and the time of day at a moment, with no leap
-- seconds.
use Rattle.std.specs.Prelude.{ℕ, zero, suc, ◌+◌, ◌-◌, ◌*◌, ◌/◌, ◌%◌, nat_lt, if◌then◌else◌}
use Rattle.std.specs.Prelude.{ℤ, pos, neg_ℤ, ◌+ℤ◌, ◌≤ℤ◌, unsigned_abs}
use Rattle.jiff_core.specs.Calendar.{days_in_year, days_in_month}

-- nanoseconds of a second
abbrev pub second_nanos : ℕ
second_nanos = 1000000000

-- nanoseconds of a day
abbrev pub day_nanos : ℕ
day_nanos = 86400000000000

-- the days from the first of the year 0 to the first of 1970
abbrev pub days_before_1970 : ℕ
days_before_1970 = 719528

-- the moment lies in a year from 0 on; the last moment lies in 9999
abbrev pub IsFourDigitYear : ℤ → Type 0
IsFourDigitYear t = neg_ℤ (pos (days_before_1970 * day_nanos)) ≤ℤ t

-- nanoseconds since the year 0 began
abbrev pub since_year_0 : ℤ → ℕ
since_year_0 t = unsigned_abs (t +ℤ pos (days_before_1970 * day_nanos))

-- the days that have passed since then
abbrev pub day_of : ℤ → ℕ
day_of t = since_year_0 t / day_nanos

-- the seconds since midnight
abbrev pub second_of : ℤ → ℕ
second_of t = since_year_0 t % day_nanos / second_nanos

-- years are counted off one by one while a whole one is left: the year that is reached, and the days into it
unfoldable pub count_years : ℕ → ℕ → ℕ → ℕ × ℕ
count_years zero year days = (year, days)
count_years (suc most) year days =
    if nat_lt days (days_in_year (pos year)) then (year, days)
    else count_years most (year + 1) (days - days_in_year (pos year))

-- months of a year likewise
unfoldable pub count_months : ℕ → ℕ → ℕ → ℕ → ℕ × ℕ
count_months year zero month days = (month, days)
count_months year (suc most) month days =
    if nat_lt days (days_in_month (pos year) month) then (month, days)
    else count_months year most (month + 1) (days - days_in_month (pos year) month)

-- the year of a day, and the days of that year before it
abbrev pub year_reached : ℕ → ℕ × ℕ
year_reached day = count_years 9999 0 day

-- its month, January being 1, and the days of that month before it
abbrev pub month_reached : ℕ → ℕ × ℕ
month_reached day = count_months (year_reached day).0 11 1 (year_reached day).1

-- the day of the week, Monday being 0: the first of the year 0 was a Saturday
abbrev pub weekday_of_day : ℕ → ℕ
weekday_of_day day = (day + 5) % 7

-- what a calendar and a clock show
pub record Civil : Type 0 where
  pub year : ℕ
  pub month : ℕ
  pub day : ℕ
  pub weekday : ℕ
  pub hour : ℕ
  pub minute : ℕ
  pub second : ℕ

-- what they show at a moment in a year from 0 on
abbrev pub civil_of : ℤ → Civil
civil_of t = record {
  year = (year_reached (day_of t)).0;
  month = (month_reached (day_of t)).0;
  day = (month_reached (day_of t)).1 + 1;
  weekday = weekday_of_day (day_of t);
  hour = second_of t / 3600;
  minute = second_of t / 60 % 60;
  second = second_of t % 60;
}
