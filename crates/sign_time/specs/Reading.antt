-- What a text reads as: the moment that a reader of `jiff` gives, where it lies in the range.
use Rattle.std.specs.Prelude.{ℕ, ℤ, List, ◌++◌, Option, Some, None, is_ok, false, option_map, if◌then◌else◌}
use Rattle.std.specs.Option.{option_and_then}
use Rattle.std.specs.Result.{result_ok}
use lib.Chars.{codes}
use Rattle.jiff_fmt.specs.Temporal.{parse_timestamp, parse_datetime, parts_nanos}
use Rattle.jiff_fmt.specs.Rfc2822.{timestamp}
use Rattle.sign_base.specs.Moment.{is_moment}

-- an instant, where it lies in the range
abbrev pub in_range : Option ℤ → Option ℤ
in_range instant = option_and_then (λ t. if is_moment t then Some t else None) instant

-- an instant as RFC 3339 writes it
abbrev pub read_moment : List ℕ → Option ℤ
read_moment text = in_range (result_ok (parse_timestamp text))

-- a date and time of RFC 2822, whose weekday must fit its date
abbrev pub read_rfc2822 : List ℕ → Option ℤ
read_rfc2822 text = in_range (result_ok (timestamp false text))

-- a date and time with no offset, taken as UTC
abbrev pub read_civil : List ℕ → Option ℤ
read_civil text =
    in_range (option_map (λ parts. parts_nanos parts.0 parts.1) (result_ok (parse_datetime text)))

-- the message of a text that does not read
abbrev pub parse_message : List ℕ → List ℕ → List ℕ
parse_message text into = codes "parse '" ++ (text ++ (codes "' into " ++ (into ++ codes " failed")))

-- the message of a date and time that reads and lies out of range
abbrev pub range_message : List ℕ → List ℕ
range_message text = codes "convert '" ++ (text ++ codes "' into timestamp failed")

-- the message of a text that is no date and time in UTC, for either cause
abbrev pub civil_parse_message : List ℕ → List ℕ
civil_parse_message text =
    if is_ok (parse_datetime text) then range_message text else parse_message text (codes "datetime")
