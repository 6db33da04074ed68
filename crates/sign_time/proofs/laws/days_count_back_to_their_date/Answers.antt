use Rattle.std.proofs.Common.{pos, ap, unsigned_abs}
use Rattle.sign_time.proofs.CivilTime.{date_found, day_count-year_0, not_before_year_0}
use Rattle.sign_time.proofs.laws.days_count_back_to_their_date.Goals as goal

pub returns : goal.returns
returns c = λ year month day date.
    let found = date_found (pos year) month day date (not_before_year_0 year month day date) in
    rw day_count-year_0 (ap unsigned_abs found.0, found.1, found.2)
