use Rattle.line_words.proofs.Printing.{prints_short, prints_then, prints_last}
use Rattle.signctl_grant.proofs.print_grant.push_why.Goals as goal

pub returns-in_err-push_word-in-Loader : goal.returns-in_err-push_word-in-Loader
returns-in_err-push_word-in-Loader c = rw c.in-Loader.is (prints_short _ c.from_residual.ensures.0 c.in_err-push_word-in-Loader.ensures)

pub returns-in_ok-push_word-in-Loader : goal.returns-in_ok-push_word-in-Loader
returns-in_ok-push_word-in-Loader c =
    rw c.in-Loader.is (prints_then c.in_ok-push_word-in-Loader.ensures (prints_last c.push_number.ensures))

pub returns-in_err-push_word-in-Service : goal.returns-in_err-push_word-in-Service
returns-in_err-push_word-in-Service c = rw c.in-Service.is (prints_short _ c.from_residual-in_err-push_word-in-Service.ensures.0 c.in_err-push_word-in-Service.ensures)

pub returns-in_ok-push_word-in-Service : goal.returns-in_ok-push_word-in-Service
returns-in_ok-push_word-in-Service c =
    rw c.in-Service.is (prints_then c.in_ok-push_word-in-Service.ensures (prints_last c.push_number-in-Service.ensures))
