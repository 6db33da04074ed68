use Rattle.signctl_by_line.proofs.ViewGrammars.{decided}
use Rattle.signctl_by_line.proofs.laws.view_grammar_is_decided.Goals as goal

pub returns : goal.returns
returns c = decided
