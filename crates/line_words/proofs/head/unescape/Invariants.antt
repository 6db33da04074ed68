use Rattle.std.proofs.Common.{◌≡◌, length}
use Rattle.line_words.specs.Escapes.{value_of}
use Rattle.line_words.proofs.HeadWords.{with_front}
use Rattle.line_words.proofs.head.unescape.Given as goal

abbrev pub decreases-loop-value : goal.decreases-loop-value
decreases-loop-value l = length l.rest

abbrev pub invariant-loop-value : goal.invariant-loop-value
invariant-loop-value l = with_front l.value.items (value_of l.rest) ≡ value_of l.word
