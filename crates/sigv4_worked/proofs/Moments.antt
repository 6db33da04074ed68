-- The published moments, on the calendar.
use Rattle.std.proofs.Common.{◌≡◌, codes, refl}
use Rattle.std.specs.Fmt.{digits}
use Rattle.sign_time.specs.Calendar.{civil_of, count_years, count_months}
use Rattle.sign_time.specs.MomentText.{iso8601_text}
use Rattle.sigv4_core.specs.Signature.{date_of}
use Rattle.sigv4_worked.specs.WorkedSignature.{iam_moment, link_moment}

pub iam_date : date_of iam_moment ≡ codes "20150830"
unfolding count_years count_months digits
iam_date = refl

pub iam_time : iso8601_text (civil_of iam_moment) ≡ codes "20150830T123600Z"
unfolding count_years count_months digits
iam_time = refl

pub link_date : date_of link_moment ≡ codes "20130524"
unfolding count_years count_months digits
link_date = refl

pub link_time : iso8601_text (civil_of link_moment) ≡ codes "20130524T000000Z"
unfolding count_years count_months digits
link_time = refl
