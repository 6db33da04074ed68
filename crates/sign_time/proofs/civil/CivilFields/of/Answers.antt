use Rattle.std.proofs.Common.{◌≡◌, ◌∙◌, ap, arith}
use Rattle.jiff_core.proofs.SignedLemmas.{signed_arith}
use Rattle.jiff_core.proofs.CalendarLemmas.{days_in_month_bounds}
use Rattle.sign_time.specs.Calendar.{month_reached, day_of}
use Rattle.sign_time.specs.MomentText.{weekday_name, month_name}
use Rattle.sign_time.proofs.civil.CivilFields.of.Goals as goal

pub returns : goal.returns
returns c = λ low.
    let s = c.shown-shown.ensures low in
    let month : c.of-month.result.0 ≡ (month_reached (day_of c.args.timestamp)).0 = omega (arith, signed_arith, c.of-month.ensures, c.month.ensures, s.month) in
    record {
      year = omega (arith, signed_arith, c.year.ensures, s.year);
      month = month;
      month_name = c.month_name.ensures ∙ ap month_name month;
      day = omega (arith, signed_arith, c.of.ensures, c.day.ensures, s.day, days_in_month_bounds);
      weekday = c.weekday_name.ensures ∙ ap weekday_name (c.weekday.ensures ∙ s.weekday);
      hour = omega (arith, signed_arith, c.of-2.ensures, c.hour.ensures, s.hour);
      minute = omega (arith, signed_arith, c.of-3.ensures, c.minute.ensures, s.minute);
      second = omega (arith, signed_arith, c.of-4.ensures, c.second.ensures, s.second);
    }
