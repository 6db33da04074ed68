use Rattle.signctl_by_line.proofs.ViewGrammars.{spelled}
use Rattle.signctl_by_line.proofs.laws.a_view_item_has_a_spelling.Goals as goal

pub returns : goal.returns
returns c = spelled
