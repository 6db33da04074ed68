use Rattle.std.proofs.Common.{◌+◌, arith}
use Rattle.line_words.proofs.Fractions.{ten_pow_le, digit_fits}
use Rattle.line_words.proofs.moment.count.Goals as goal

pub overflow_mul-result : goal.overflow_mul-result
overflow_mul-result c =
    rw (c.from.ensures, c.pow.ensures) (omega (arith, digit_fits c.args.digit c.args.places c.requires.digit, ten_pow_le (c.args.places + 1) 9 (omega arith)))

pub returns-clause-below : goal.returns-clause-below
returns-clause-below c =
    rw (c.from.ensures, c.pow.ensures) (digit_fits c.args.digit c.args.places c.requires.digit)
