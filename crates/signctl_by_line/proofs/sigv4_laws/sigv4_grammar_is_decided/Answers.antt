use Rattle.signctl_by_line.proofs.Sigv4Grammars.{decided}
use Rattle.signctl_by_line.proofs.sigv4_laws.sigv4_grammar_is_decided.Goals as goal

pub returns : goal.returns
returns c = decided
