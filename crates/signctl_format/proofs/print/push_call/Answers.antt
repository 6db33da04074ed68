use Rattle.line_words.proofs.Printing.{prints_short, prints_then, prints_last}
use Rattle.signctl_format.proofs.print.push_call.Goals as goal

pub returns-in_err-push_number : goal.returns-in_err-push_number
returns-in_err-push_number c = rw (← c.from.ensures) (prints_short _ c.from_residual.ensures.0 c.in_err-push_number.ensures)

pub returns : goal.returns
returns c = rw (← c.from.ensures) (prints_then c.in_ok-push_number.ensures (prints_last c.push_number-2.ensures))
