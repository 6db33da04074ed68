use Rattle.line_words.proofs.Printing.{prints_short, prints_then, prints_last}
use Rattle.signctl_format.proofs.print.push_cache.Goals as goal

pub returns-in_err-push : goal.returns-in_err-push
returns-in_err-push c = prints_short _ c.from_residual.ensures.0 c.in_err-push.ensures

pub returns : goal.returns
returns c = prints_then c.in_ok-push.ensures (prints_last c.push_number.ensures)
