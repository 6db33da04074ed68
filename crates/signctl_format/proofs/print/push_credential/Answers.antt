use Rattle.line_words.proofs.Printing.{prints_short, prints_then, prints_last}
use Rattle.signctl_format.proofs.print.push_credential.Goals as goal

pub returns-in_err-push_number : goal.returns-in_err-push_number
returns-in_err-push_number c = prints_short _ c.from_residual.ensures.0 c.in_err-push_number.ensures

pub returns-in_err-push_moment : goal.returns-in_err-push_moment
returns-in_err-push_moment c = prints_then c.in_ok-push_number.ensures (prints_short _ c.from_residual-in_err-push_moment.ensures.0 c.in_err-push_moment.ensures)

pub returns-in_err-push_moment-2 : goal.returns-in_err-push_moment-2
returns-in_err-push_moment-2 c =
    prints_then c.in_ok-push_number.ensures (prints_then c.in_ok-push_moment.ensures (prints_short _ c.from_residual-in_err-push_moment-2.ensures.0 c.in_err-push_moment-2.ensures))

pub returns : goal.returns
returns c =
    prints_then c.in_ok-push_number.ensures (prints_then c.in_ok-push_moment.ensures
    (prints_then c.in_ok-push_moment-2.ensures (prints_last c.push_moment-3.ensures)))
