use Rattle.signctl_by_line.proofs.Sigv4Grammars.{spelled}
use Rattle.signctl_by_line.proofs.sigv4_laws.a_sigv4_item_has_a_spelling.Goals as goal

pub returns : goal.returns
returns c = spelled
