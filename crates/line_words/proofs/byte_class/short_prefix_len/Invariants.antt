use Rattle.std.proofs.Common.{◌-◌, ◌≤◌, length}
use Rattle.line_words.specs.Classes.{has}
use Rattle.line_words.proofs.Runs.{PassBefore}
use Rattle.line_words.proofs.byte_class.short_prefix_len.Given as goal

abbrev pub invariant-loop-at : goal.invariant-loop-at
invariant-loop-at l = (l.at ≤ length l.bytes) × PassBefore (has l.class) l.bytes l.at

abbrev pub decreases-loop-at : goal.decreases-loop-at
decreases-loop-at l = length l.bytes - l.at
