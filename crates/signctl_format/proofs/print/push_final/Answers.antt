use Rattle.line_words.proofs.Printing.{prints_short, prints_then, prints_last}
use Rattle.signctl_format.proofs.print.push_final.Goals as goal

pub returns-in_err-push : goal.returns-in_err-push
returns-in_err-push c = prints_short _ c.from_residual.ensures.0 c.in_err-push.ensures

pub returns-in_err-push_number : goal.returns-in_err-push_number
returns-in_err-push_number c = prints_then c.in_ok-push.ensures (prints_short _ c.from_residual-in_err-push_number.ensures.0 c.in_err-push_number.ensures)

pub returns-in-None : goal.returns-in-None
returns-in-None c =
    rw c.in-None.is (prints_then c.in_ok-push.ensures (prints_then c.in_ok-push_number.ensures (prints_last c.push_word.ensures)))

pub returns-in-Some : goal.returns-in-Some
returns-in-Some c =
    rw c.in-Some.is (prints_then c.in_ok-push.ensures (prints_then c.in_ok-push_number.ensures c.push_credential.ensures))
