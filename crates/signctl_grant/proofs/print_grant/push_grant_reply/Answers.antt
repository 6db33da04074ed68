use Rattle.line_words.proofs.Printing.{prints_short, prints_then, prints_last}
use Rattle.signctl_grant.proofs.print_grant.push_grant_reply.Goals as goal

pub returns-in_err-push-in-Ask : goal.returns-in_err-push-in-Ask
returns-in_err-push-in-Ask c = rw c.in-Ask.is (prints_short _ c.from_residual.ensures.0 c.in_err-push-in-Ask.ensures)

pub returns-in_ok-push-in-Ask : goal.returns-in_ok-push-in-Ask
returns-in_ok-push-in-Ask c =
    rw (c.in-Ask.is, ← c.from.ensures) (prints_then c.in_ok-push-in-Ask.ensures (prints_last c.push_number.ensures))

pub returns-in_err-push-in-Grant : goal.returns-in_err-push-in-Grant
returns-in_err-push-in-Grant c = rw c.in-Grant.is (prints_short _ c.from_residual-in_err-push-in-Grant.ensures.0 c.in_err-push-in-Grant.ensures)

pub returns-in_ok-push-in-Grant : goal.returns-in_ok-push-in-Grant
returns-in_ok-push-in-Grant c =
    rw c.in-Grant.is (prints_then c.in_ok-push-in-Grant.ensures (prints_last c.push_number-in-Grant.ensures))

pub returns-in_err-push-in-Given : goal.returns-in_err-push-in-Given
returns-in_err-push-in-Given c = rw c.in-Given.is (prints_short _ c.from_residual-in_err-push-in-Given.ensures.0 c.in_err-push-in-Given.ensures)

pub returns-in_ok-push-in-Given : goal.returns-in_ok-push-in-Given
returns-in_ok-push-in-Given c =
    rw c.in-Given.is (prints_then c.in_ok-push-in-Given.ensures (prints_last c.push_number-in-Given.ensures))

pub returns-in_err-push-in-Refused : goal.returns-in_err-push-in-Refused
returns-in_err-push-in-Refused c = rw c.in-Refused.is (prints_short _ c.from_residual-in_err-push-in-Refused.ensures.0 c.in_err-push-in-Refused.ensures)

pub returns-in_ok-push-in-Refused : goal.returns-in_ok-push-in-Refused
returns-in_ok-push-in-Refused c = rw c.in-Refused.is (prints_then c.in_ok-push-in-Refused.ensures c.push_why.ensures)
