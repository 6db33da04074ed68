use Rattle.signctl_by_line.proofs.HmacGrammars.{decided}
use Rattle.signctl_by_line.proofs.laws.hmac_grammar_is_decided.Goals as goal

pub returns : goal.returns
returns c = decided
