use Rattle.signctl_by_line.proofs.HmacGrammars.{item_fits}
use Rattle.signctl_by_line.proofs.hmac_command.HmacCommandEachLine.answer.Goals as goal

-- the item was read, so its line spells it
pub push_answer-requires : goal.push_answer-requires
push_answer-requires c = item_fits c.requires.0 c.args.item.now c.requires.1
