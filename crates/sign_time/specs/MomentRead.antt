-- The moment that a date and time of ISO 8601 shows, by the digits that stand at their places.
use Rattle.std.specs.Prelude.{ℕ, ◌+◌, ◌-◌, ◌*◌, ℤ, pos, neg_ℤ, ◌+ℤ◌, List, take, drop, fold}
use Rattle.std.specs.Int.{int_div_euclid}
use Rattle.jiff_core.specs.Calendar.{day_count}
use Rattle.sign_time.specs.Calendar.{second_nanos, days_before_1970}
use Rattle.sign_base.specs.Moment.{moment_of_second}

-- the days from the first of the year 0 to a date
abbrev pub days_before : ℕ → ℕ → ℕ → ℕ
days_before year month day = day_count (pos year) month day - day_count (pos 0) 1 1

-- the whole second at or before an instant
abbrev pub whole_second : ℤ → ℤ
whole_second t = moment_of_second (int_div_euclid t (pos second_nanos))

-- the value of decimal digits
abbrev pub number_of : List ℕ → ℕ
number_of digits = fold (λ n b. n * 10 + (b - 48)) 0 digits

-- the number in some places of a text
abbrev pub number_at : ℕ → ℕ → List ℕ → ℕ
number_at place count text = number_of (take count (drop place text))

-- the days from the first of the year 0 to the date that the text shows
abbrev pub shown_days : List ℕ → ℕ
shown_days text = days_before (number_at 0 4 text) (number_at 4 2 text) (number_at 6 2 text)

-- the seconds since midnight
abbrev pub shown_time : List ℕ → ℕ
shown_time text = number_at 9 2 text * 3600 + (number_at 11 2 text * 60 + number_at 13 2 text)

-- the moment
abbrev pub shown_moment : List ℕ → ℤ
shown_moment text =
    moment_of_second
    (pos (shown_days text * 86400 + shown_time text) +ℤ neg_ℤ (pos (days_before_1970 * 86400)))
