use Rattle.std.proofs.Common.{◌≡◌, ◌-◌, rules, ap, ◌∙◌, arith}
use Rattle.line_words.specs.Moments.{fraction_digits}
use Rattle.line_words.proofs.Printing.{all_to_print, one_more, short_in_rest, all_printed}
use Rattle.line_words.proofs.Fractions.{ten_pow, first_digit, fraction_digits-zero}
use Rattle.line_words.proofs.moment_text.push_digits.Goals as goal

pub nonzero_div-rest : goal.nonzero_div-rest
nonzero_div-rest c = rw c.pow-unit.ensures (ten_pow (c.loop-rest.places - 1))

pub overflow_cast-rest : goal.overflow_cast-rest
overflow_cast-rest c =
    let first = first_digit c.loop-rest.places c.loop-rest.rest (omega arith) (omega arith) in
    rw c.pow-unit.ensures (omega (arith, first.digit))

pub overflow_add-rest : goal.overflow_add-rest
overflow_add-rest c =
    let first = first_digit c.loop-rest.places c.loop-rest.rest (omega arith) (omega arith) in
    rw c.pow-unit.ensures (omega (arith, first.digit))

pub nonzero_rem-rest : goal.nonzero_rem-rest
nonzero_rem-rest c = rw c.pow-unit.ensures (ten_pow (c.loop-rest.places - 1))

pub loop-rest-init : goal.loop-rest-init
loop-rest-init c = record { few = search rules; below = search rules; so_far = all_to_print _ _ }

pub loop-rest-preserved : goal.loop-rest-preserved
loop-rest-preserved c =
    let first = first_digit c.loop-rest.places c.loop-rest.rest (omega arith) (omega arith) in
    let digit = rw c.pow-unit.ensures at c.in_ok-push.ensures in
    rw c.pow-unit.ensures (record { few = omega arith; below = first.rest; so_far = one_more _ first.written c.loop-rest.invariant.so_far digit })

pub returns-in_err-push : goal.returns-in_err-push
returns-in_err-push c =
    let first = first_digit c.loop-rest.places c.loop-rest.rest (omega arith) (omega arith) in
    let digit = rw c.pow-unit.ensures at c.in_err-push.ensures in
    short_in_rest _ first.written c.loop-rest.invariant.so_far c.from_residual.ensures.0 digit

pub returns : goal.returns
returns c =
    let none : c.loop-rest.rest ≡ 0 = omega arith in
    all_printed (ap (fraction_digits c.loop-rest.places) none ∙ fraction_digits-zero c.loop-rest.places) c.loop-rest.invariant.so_far
