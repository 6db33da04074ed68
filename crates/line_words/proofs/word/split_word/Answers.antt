use Rattle.std.proofs.Common.{arith}
use Rattle.line_words.specs.Words.{is_space}
use Rattle.line_words.proofs.WordList.{place_within}
use Rattle.line_words.proofs.word.split_word.Goals as goal

pub split_at-requires : goal.split_at-requires
split_at-requires c = omega (arith, c.word_len.ensures, place_within is_space c.args.text.now)
