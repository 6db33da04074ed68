use Rattle.signctl_by_line.proofs.BytesWords.{visible_is_text}
use Rattle.signctl_by_line.proofs.hmac_answer.push_decoded.Goals as goal

pub unreachable-requires : goal.unreachable-requires
unreachable-requires c = c.in_default.ensures.cases.0 (visible_is_text c.args.content.now c.requires)
