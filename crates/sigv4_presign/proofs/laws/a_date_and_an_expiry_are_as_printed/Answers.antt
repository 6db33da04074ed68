use Rattle.sigv4_presign.proofs.DateTexts.{moment_of_text-IsDateOf, expires_of_text-IsExpiryOf}
use Rattle.sigv4_presign.proofs.laws.a_date_and_an_expiry_are_as_printed.Goals as goal

pub returns-clause-date : goal.returns-clause-date
returns-clause-date c = λ text t. moment_of_text-IsDateOf text t

pub returns-clause-expiry : goal.returns-clause-expiry
returns-clause-expiry c = λ text seconds. expires_of_text-IsExpiryOf text seconds
