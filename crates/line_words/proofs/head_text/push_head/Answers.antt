use Rattle.line_words.proofs.Printing.{prints_short, prints_then}
use Rattle.line_words.proofs.head_text.push_head.Goals as goal

pub returns-in_err-push_word : goal.returns-in_err-push_word
returns-in_err-push_word c = rw (← c.as_slice.ensures) (prints_short _ c.from_residual.ensures.0 c.in_err-push_word.ensures)

pub returns-in_err-push_word-2 : goal.returns-in_err-push_word-2
returns-in_err-push_word-2 c =
    rw (← c.as_slice.ensures, ← c.as_slice-2.ensures)
    (prints_then c.in_ok-push_word.ensures (prints_short _ c.from_residual-in_err-push_word-2.ensures.0 c.in_err-push_word-2.ensures))

pub returns-in_err-push_version : goal.returns-in_err-push_version
returns-in_err-push_version c =
    rw (← c.as_slice.ensures, ← c.as_slice-2.ensures) (prints_then c.in_ok-push_word.ensures
    (prints_then c.in_ok-push_word-2.ensures (prints_short _ c.from_residual-in_err-push_version.ensures.0 c.in_err-push_version.ensures)))

pub returns : goal.returns
returns c =
    rw (← c.as_slice.ensures, ← c.as_slice-2.ensures, ← c.as_slice-3.ensures)
    (prints_then c.in_ok-push_word.ensures (prints_then c.in_ok-push_word-2.ensures
    (prints_then c.in_ok-push_version.ensures c.push_fields.ensures)))
