use Rattle.std.proofs.Common.{sym, arith}
use Rattle.line_words.proofs.Failures.{reads_none}
use Rattle.line_words.proofs.Fractions.{place_below, read_more, read_more_none, read_none}
use Rattle.line_words.proofs.moment.+parse_fraction.Goals as goal

pub returns-in_ok-parse_fraction-clause-value : goal.returns-in_ok-parse_fraction-clause-value
returns-in_ok-parse_fraction-clause-value t c =
    rw c.count-here.ensures.value (read_more c.args.places c.args.digits.now c.in_ok-parse_fraction.field-0 (omega arith) (omega arith) (sym c.if-not-is_digit.ensures) c.in_ok-parse_fraction.ensures.value)

pub returns-else-here-gt0-clause-value : goal.returns-else-here-gt0-clause-value
returns-else-here-gt0-clause-value t c =
    let none = rw c.count-here.ensures.value at c.if-here-gt0.false in
    read_none c.args.places c.args.digits.now (omega arith) (omega arith) (sym c.if-not-is_digit.ensures) c.if-rest-gt0.false none

pub returns-in_ok-parse_fraction-clause-below : goal.returns-in_ok-parse_fraction-clause-below
returns-in_ok-parse_fraction-clause-below t c =
    place_below c.args.places _ _ (omega arith) c.count-here.ensures.below c.in_ok-parse_fraction.ensures.below

pub returns-in_err-parse_fraction-clause-value : goal.returns-in_err-parse_fraction-clause-value
returns-in_err-parse_fraction-clause-value t c =
    reads_none (λ n. n) c.from_residual.result _ c.from_residual.ensures.0 (read_more_none c.args.places c.args.digits.now (omega arith) (omega arith) (sym c.if-not-is_digit.ensures) c.if-rest-gt0.true c.in_err-parse_fraction.ensures.value)
