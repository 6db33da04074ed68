use Rattle.signctl_audit.proofs.ClaimGrammar.{decided}
use Rattle.signctl_audit.proofs.laws.claims_are_decided.Goals as goal

pub returns : goal.returns
returns c = λ text claimed. decided text claimed
