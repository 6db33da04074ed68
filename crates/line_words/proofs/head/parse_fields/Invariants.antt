use Rattle.std.proofs.Common.{◌≡◌, length}
use Rattle.line_words.specs.Heads.{fields_in}
use Rattle.line_words.specs.Readers.{words_after}
use Rattle.line_words.proofs.HeadWords.{with_front}
use Rattle.line_words.proofs.head.parse_fields.Given as goal

abbrev pub decreases-loop-word : goal.decreases-loop-word
decreases-loop-word l = length l.rest

abbrev pub invariant-loop-word : goal.invariant-loop-word
invariant-loop-word l = with_front l.fields (fields_in (words_after l.rest)) ≡ fields_in (words_after l.fn.rest)
