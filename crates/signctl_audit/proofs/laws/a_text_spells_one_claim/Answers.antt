use Rattle.signctl_audit.proofs.ClaimGrammar.{one_claim}
use Rattle.signctl_audit.proofs.laws.a_text_spells_one_claim.Goals as goal

pub returns : goal.returns
returns c = λ text a b first second. one_claim text a b first second
