-- The four texts of a moment, in UTC.
use Rattle.std.specs.Prelude.{ℕ, suc, ◌/◌, ◌%◌, ℤ, pos, negsuc, List, [], ◌∷◌, ◌++◌, slice_index_or}
use Rattle.std.specs.Fmt.{decimal}
use lib.Chars.{codes}
use Rattle.sign_time.specs.Calendar.{Civil}

-- a number below 100 in two digits
abbrev pub two_digits : ℕ → List ℕ
two_digits n = decimal (n / 10) ++ decimal (n % 10)

-- a number below 10000 in four digits
abbrev pub four_digits : ℕ → List ℕ
four_digits n = two_digits (n / 100) ++ two_digits (n % 100)

-- a year; those before the year 0 have a sign
abbrev pub year_text : ℤ → List ℕ
year_text (pos year) = four_digits year
year_text (negsuc before) = codes "-" ++ four_digits (suc before)

-- the name of a weekday, Monday being 0
abbrev pub weekday_name : ℕ → List ℕ
weekday_name n =
    slice_index_or (codes "Mon" ∷ codes "Tue" ∷ codes "Wed" ∷ codes "Thu" ∷ codes "Fri" ∷ codes "Sat"
    ∷ codes "Sun" ∷ []) n []

-- the name of a month, January being 1
abbrev pub month_name : ℕ → List ℕ
month_name n =
    slice_index_or ([] ∷ codes "Jan" ∷ codes "Feb" ∷ codes "Mar" ∷ codes "Apr" ∷ codes "May" ∷ codes "Jun"
    ∷ codes "Jul" ∷ codes "Aug" ∷ codes "Sep" ∷ codes "Oct" ∷ codes "Nov" ∷ codes "Dec" ∷ []) n []

-- `20220301`
abbrev pub date_text : Civil → List ℕ
date_text c = four_digits c.year ++ (two_digits c.month ++ two_digits c.day)

-- `20220301T081234Z`
abbrev pub iso8601_text : Civil → List ℕ
iso8601_text c =
    date_text c
    ++ (codes "T" ++ (two_digits c.hour ++ (two_digits c.minute ++ (two_digits c.second ++ codes "Z"))))

-- `Tue, 01 Mar 2022 08:12:34 GMT`
abbrev pub http_date_text : Civil → List ℕ
http_date_text c =
    weekday_name c.weekday ++ (codes ", " ++ (two_digits c.day ++ (codes " " ++ (month_name c.month
    ++ (codes " " ++ (four_digits c.year ++ (codes " "
    ++ (two_digits c.hour ++ (codes ":" ++ (two_digits c.minute ++ (codes ":"
    ++ (two_digits c.second ++ codes " GMT"))))))))))))

-- `2022-03-01T08:12:34Z`
abbrev pub rfc3339_text : Civil → List ℕ
rfc3339_text c =
    four_digits c.year ++ (codes "-" ++ (two_digits c.month ++ (codes "-" ++ (two_digits c.day ++ (codes "T"
    ++ (two_digits c.hour ++ (codes ":" ++ (two_digits c.minute ++ (codes ":"
    ++ (two_digits c.second ++ codes "Z"))))))))))
