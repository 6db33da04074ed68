use Rattle.line_words.specs.Escapes.{is_plain}
use Rattle.line_words.proofs.Runs.{all_by_len}
use Rattle.line_words.proofs.head.all_plain.Goals as goal

pub returns : goal.returns
returns c = rw c.prefix_len.ensures (all_by_len is_plain c.args.word.now)
