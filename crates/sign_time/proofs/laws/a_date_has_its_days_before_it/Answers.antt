use Rattle.sign_time.proofs.DaysCounted.{days_before-reached}
use Rattle.sign_time.proofs.laws.a_date_has_its_days_before_it.Goals as goal

pub returns : goal.returns
returns c = days_before-reached
