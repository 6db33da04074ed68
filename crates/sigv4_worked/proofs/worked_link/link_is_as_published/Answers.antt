use Rattle.sigv4_worked.proofs.PresignedLink.{link_presigned}
use Rattle.sigv4_worked.proofs.worked_link.link_is_as_published.Goals as goal

pub returns : goal.returns
returns c = link_presigned
