use Rattle.sign_time.proofs.WholeSecond.{whole_second-le, whole_second-lt, civil_of-whole_second}
use Rattle.sign_time.proofs.laws.a_moment_shows_its_whole_second.Goals as goal

pub returns-clause-within : goal.returns-clause-within
returns-clause-within c = λ t. (whole_second-le t, whole_second-lt t)

pub returns-clause-shown : goal.returns-clause-shown
returns-clause-shown c = civil_of-whole_second
