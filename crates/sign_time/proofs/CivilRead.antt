-- A text that reads as a date and time reads as the moment at which a clock in UTC shows it.
use Rattle.std.proofs.Common.{◌≡◌, ℕ, List, Ok, Some, refl, ap}
use Rattle.jiff_core.specs.declared.civil.datetime.DateTime.{DateTime}
use Rattle.jiff_core.specs.DateTime.{civil_nanos}
use Rattle.jiff_fmt.specs.Temporal.{parse_datetime, parts_nanos, date_parts, time_parts}
use Rattle.sign_time.specs.Reading.{read_civil, in_range}

parts_nanos-civil_nanos : (civil : DateTime)
    → parts_nanos (date_parts civil.date) (time_parts civil.time) ≡ civil_nanos civil
unfolding civil_nanos
parts_nanos-civil_nanos civil = refl

pub read_civil-found : (text : List ℕ) (civil : DateTime)
    → parse_datetime text ≡ Ok (date_parts civil.date, time_parts civil.time)
    → read_civil text ≡ in_range (Some (civil_nanos civil))
read_civil-found text civil read = rw read (ap (λ t. in_range (Some t)) (parts_nanos-civil_nanos civil))
