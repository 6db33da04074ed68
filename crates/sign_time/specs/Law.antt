-- What holds of the calendar and of printed moments.
use Rattle.std.specs.Prelude.{◌≡◌, ℕ, ◌+◌, ℤ, pos, ◌+ℤ◌, ◌≤ℤ◌, ◌<ℤ◌, length, take}
use Rattle.jiff_core.specs.Calendar.{IsCivilDate}
use Rattle.sign_base.specs.Moment.{IsMoment}
use Rattle.sign_time.specs.Calendar.{Civil, second_nanos, year_reached, month_reached}
use Rattle.sign_time.specs.Calendar.{civil_of, IsFourDigitYear}
use Rattle.sign_time.specs.MomentText.{date_text, iso8601_text}
use Rattle.sign_time.specs.MomentRead.{days_before, whole_second, shown_moment}

-- the text of ISO 8601 begins with the date's
abbrev pub BeginsWithDate : Type 0
BeginsWithDate = (c : Civil) → take (length (date_text c)) (iso8601_text c) ≡ date_text c

-- counting off the days before a date of the years from 0 to 9999 leads back to that date
abbrev pub CountsBack : Type 0
CountsBack = (year month day : ℕ) → IsCivilDate (pos year) month day
    → (year ≡ (year_reached (days_before year month day)).0)
    × (month ≡ (month_reached (days_before year month day)).0)
    × (day ≡ (month_reached (days_before year month day)).1 + 1)

-- the date that is counted off has as many days before it
abbrev pub CountsForth : Type 0
CountsForth = (day : ℕ)
    → days_before (year_reached day).0 (month_reached day).0 ((month_reached day).1 + 1) ≡ day

-- the date and time that is printed of a moment in the years 0 to 9999 shows the whole second at or before it
abbrev pub CountsToItsSecond : Type 0
CountsToItsSecond = (t : ℤ) → IsMoment t → IsFourDigitYear t
    → shown_moment (iso8601_text (civil_of t)) ≡ whole_second t

-- the whole second lies at or before a moment, and less than a second before it
abbrev pub IsWithinItsSecond : Type 0
IsWithinItsSecond = (t : ℤ) → (whole_second t ≤ℤ t) × (t <ℤ (whole_second t +ℤ pos second_nanos))

-- the calendar and the clock show at a moment what they show at the whole second at or before it
abbrev pub ShowsItsWholeSecond : Type 0
ShowsItsWholeSecond = (t : ℤ) → IsFourDigitYear t → civil_of (whole_second t) ≡ civil_of t
