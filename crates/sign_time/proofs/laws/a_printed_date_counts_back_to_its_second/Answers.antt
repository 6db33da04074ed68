use Rattle.sign_time.proofs.MomentReadBack.{shown_moment-printed}
use Rattle.sign_time.proofs.laws.a_printed_date_counts_back_to_its_second.Goals as goal

pub returns : goal.returns
returns c = shown_moment-printed
