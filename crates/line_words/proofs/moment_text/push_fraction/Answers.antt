use Rattle.std.proofs.lemmas.Bool.{ne_eqb}
use Rattle.line_words.proofs.Printing.{prints_short, prints_then}
use Rattle.line_words.proofs.moment_text.push_fraction.Goals as goal

pub returns-in_err-push : goal.returns-in_err-push
returns-in_err-push c = rw (ne_eqb c.args.nanos 0 c.if-nanos-eq0.false) (prints_short _ c.from_residual.ensures.0 c.in_err-push.ensures)

pub returns : goal.returns
returns c =
    rw (ne_eqb c.args.nanos 0 c.if-nanos-eq0.false) (prints_then c.in_ok-push.ensures c.push_digits.ensures)
