use Rattle.std.proofs.Common.{sym, arith}
use Rattle.std.proofs.lemmas.List.Sums.{prefix_len_is}
use Rattle.line_words.specs.Classes.{has}
use Rattle.line_words.proofs.byte_class.short_prefix_len.Goals as goal

pub returns-else-has : goal.returns-else-has
returns-else-has c =
    sym (prefix_len_is (has c.args.class) c.args.bytes.now c.loop-at.at 0 c.loop-at.invariant.0 c.loop-at.invariant.1 (λ short. cc))

pub returns-after-loop-at : goal.returns-after-loop-at
returns-after-loop-at c =
    sym (prefix_len_is (has c.args.class) c.args.bytes.now c.loop-at.at 0 c.loop-at.invariant.0 c.loop-at.invariant.1 (λ short. absurd (omega (arith, short))))
