use Rattle.sigv4_worked.proofs.SignedRequest.{iam_signed}
use Rattle.sigv4_worked.proofs.worked_signature.iam_head_is_signed_as_published.Goals as goal

pub returns : goal.returns
returns c = iam_signed
