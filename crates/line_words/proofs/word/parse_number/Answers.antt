use Rattle.std.proofs.Common.{◌≡◌, sym, ap, ◌∙◌, refl, arith}
use Rattle.std.specs.Fmt.{decimal}
use Rattle.line_words.proofs.NumberWords.{number_of-decimal}
use Rattle.line_words.proofs.Digits.{digits_spell, no_number}
use Rattle.line_words.proofs.word.parse_number.Goals as goal

pub returns-then-not-begins_a_number-clause-value : goal.returns-then-not-begins_a_number-clause-value
returns-then-not-begins_a_number-clause-value c =
    no_number c.args.limit c.args.word.now _ (omega (arith, c.ranges.limit.fits)) refl (sym c.begins_a_number.ensures ∙ cc)

pub returns-in-Some-clause-value : goal.returns-in-Some-clause-value
returns-in-Some-clause-value c =
    let read = c.in-Some.ensures.some in
    let spelled : c.args.word.now ≡ decimal c.in-Some.n = digits_spell c.args.word.now (sym c.begins_a_number.ensures ∙ cc) read.0 (omega (arith, read.1)) ∙ ap decimal read.1 in
    number_of-decimal c.args.limit c.in-Some.n c.args.word.now (omega (arith, c.ranges.limit.fits)) spelled (omega arith)
