use Rattle.std.proofs.Common.{◌≡◌, ◌++◌, List, ℕ, map, take, Bor}
use Rattle.line_words.specs.Words.{spaced_words}
use Rattle.signctl_by_line.proofs.view_answer.push_words.Given as goal

abbrev pub invariant-loop-word : goal.invariant-loop-word
invariant-loop-word l = l.text.items ≡ l.fn.text.items ++ spaced_words (map (λ (word : Bor (List ℕ)). word.now) (take l.word-index l.words))
