use Rattle.std.proofs.Common.{append_assoc, refl}
use Rattle.sign_time.proofs.timestamp_text.TimestampFormatMoment.format_http_date.Goals as goal

pub returns : goal.returns
returns c = λ low.
    let s = c.of-c.ensures low in
    simp (c.in_ok-format.ensures.ok, s.weekday, s.day, s.month_name, s.year, s.hour, s.minute, s.second, append_assoc) refl
