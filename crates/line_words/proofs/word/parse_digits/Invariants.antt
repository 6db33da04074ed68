use Rattle.std.proofs.Common.{length}
use Rattle.line_words.proofs.Digits.{ReadsDigits}
use Rattle.line_words.proofs.word.parse_digits.Given as goal

abbrev pub decreases-loop-rest : goal.decreases-loop-rest
decreases-loop-rest l = length l.rest

abbrev pub invariant-loop-rest : goal.invariant-loop-rest
invariant-loop-rest l = ReadsDigits l.n l.rest l.word
