use Rattle.sigv4_worked.proofs.Signatures.{link_digest}
use Rattle.sigv4_worked.proofs.worked_digest.link_digest_is_as_published.Goals as goal

pub returns : goal.returns
returns c = link_digest
