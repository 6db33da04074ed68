use Rattle.line_words.proofs.Printing.{prints_short, prints_then}
use Rattle.signctl_format.proofs.print.push_wake.Goals as goal

pub returns-in_err-push_word-in-Some : goal.returns-in_err-push_word-in-Some
returns-in_err-push_word-in-Some c = rw c.in-Some.is (prints_short _ c.from_residual.ensures.0 c.in_err-push_word-in-Some.ensures)

pub returns-in_ok-push_word-in-Some : goal.returns-in_ok-push_word-in-Some
returns-in_ok-push_word-in-Some c = rw c.in-Some.is (prints_then c.in_ok-push_word-in-Some.ensures c.push_call.ensures)
