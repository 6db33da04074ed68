use Rattle.signctl_audit.proofs.LegalLogs.{accepted_claims_are_legal}
use Rattle.signctl_audit.proofs.laws.accepted_claims_are_legal.Goals as goal

pub returns : goal.returns
returns c = accepted_claims_are_legal
