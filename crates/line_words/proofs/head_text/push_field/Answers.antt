use Rattle.line_words.proofs.Printing.{prints_short, prints_then}
use Rattle.line_words.proofs.head_text.push_field.Goals as goal

pub returns-in_err-push_word : goal.returns-in_err-push_word
returns-in_err-push_word c = rw (← c.as_slice.ensures) (prints_short _ c.from_residual.ensures.0 c.in_err-push_word.ensures)

pub returns-in_err-push : goal.returns-in_err-push
returns-in_err-push c =
    rw (← c.as_slice.ensures) (prints_then c.in_ok-push_word.ensures (prints_short _ c.from_residual-in_err-push.ensures.0 c.in_err-push.ensures))

pub returns : goal.returns
returns c =
    rw (← c.as_slice.ensures, ← c.as_slice-2.ensures)
    (prints_then c.in_ok-push_word.ensures (prints_then c.in_ok-push.ensures c.push_escaped.ensures))
