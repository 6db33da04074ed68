use Rattle.std.proofs.Common.{refl}
use Rattle.line_words.proofs.Digits.{digits_stop_at_first}
use Rattle.line_words.proofs.word.parse_digits.Goals as goal

pub returns-in_err-n-clause-none : goal.returns-in_err-n-clause-none
returns-in_err-n-clause-none c = λ e m small spelled.
    digits_stop_at_first c.loop-rest.n _ c.loop-rest.rest.now c.args.word.now c.in-len1-up.len_at_least refl (c.in_err-n.ensures.none refl) c.loop-rest.invariant m small spelled
