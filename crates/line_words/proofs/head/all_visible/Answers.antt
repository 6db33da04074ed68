use Rattle.line_words.specs.Bytes.{is_visible}
use Rattle.line_words.proofs.Runs.{all_by_len}
use Rattle.line_words.proofs.head.all_visible.Goals as goal

pub returns : goal.returns
returns c = rw c.prefix_len.ensures (all_by_len is_visible c.args.word.now)
