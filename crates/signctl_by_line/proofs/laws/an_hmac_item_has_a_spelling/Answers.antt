use Rattle.signctl_by_line.proofs.HmacGrammars.{spelled}
use Rattle.signctl_by_line.proofs.laws.an_hmac_item_has_a_spelling.Goals as goal

pub returns : goal.returns
returns c = spelled
