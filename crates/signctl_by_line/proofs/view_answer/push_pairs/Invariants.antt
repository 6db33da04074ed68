use Rattle.std.proofs.Common.{◌≡◌, ◌++◌, flat_map, map, take}
use Rattle.signctl_by_line.specs.LentPairs.{lent_pairs}
use Rattle.line_words.specs.Words.{with_newline}
use Rattle.signctl_by_line.specs.ViewAnswers.{pair_line}
use Rattle.signctl_by_line.proofs.view_answer.push_pairs.Given as goal

abbrev pub invariant-loop-pair : goal.invariant-loop-pair
invariant-loop-pair l = l.text.items ≡ l.fn.text.items ++ flat_map with_newline (map pair_line (lent_pairs (take l.pair-index l.pairs)))
