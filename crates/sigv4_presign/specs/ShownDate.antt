-- The date and the time of day that the digits of a text show, at the places that ISO 8601 has for them.
use Rattle.std.specs.Prelude.{◌≡◌, ℕ, ◌≤◌, ℤ, pos, List, length}
use Rattle.jiff_core.specs.Calendar.{IsCivilDate}
use Rattle.jiff_core.specs.declared.civil.date.Date.{Date}
use Rattle.jiff_core.specs.declared.civil.time.Time.{Time}
use Rattle.sign_time.specs.Calendar.{IsFourDigitYear}
use Rattle.sign_base.specs.Moment.{IsMoment}
use Rattle.sign_time.specs.MomentRead.{number_at, shown_moment}

-- the calendar has the date
abbrev pub HasDate : List ℕ → Type 0
HasDate text = IsCivilDate (pos (number_at 0 4 text)) (number_at 4 2 text) (number_at 6 2 text)

-- and this is it
abbrev pub IsDateOf : List ℕ → Date → Type 0
IsDateOf text d =
    (d.year ≡ pos (number_at 0 4 text)) × (d.month ≡ number_at 4 2 text) × (d.day ≡ number_at 6 2 text)

-- the clock has the time of day
abbrev pub HasTime : List ℕ → Type 0
HasTime text = (number_at 9 2 text ≤ 23) × (number_at 11 2 text ≤ 59) × (number_at 13 2 text ≤ 59)

-- and this is it
abbrev pub IsTimeOf : List ℕ → Time → Type 0
IsTimeOf text t =
    (t.hour ≡ number_at 9 2 text) × (t.minute ≡ number_at 11 2 text) × (t.second ≡ number_at 13 2 text)
    × (t.subsec_nanosecond ≡ 0)

-- the text has the length of a date and time, and shows this moment
abbrev pub IsShown : List ℕ → ℤ → Type 0
IsShown text t = (length text ≡ 16) × (t ≡ shown_moment text) × IsFourDigitYear t × IsMoment t
