use Rattle.std.proofs.Common.{◌≡◌, ◌++◌, ◌∷◌, ℕ, List, Option}
use Rattle.std.proofs.lemmas.Grind.{flat_map-append}
use Rattle.sign_base.specs.declared.call_id.CallId.{CallId}
use Rattle.sequential_signer.specs.declared.event.Why.{Why}
use Rattle.line_words.specs.Bytes.{space}
use Rattle.line_words.specs.Words.{spaced_words}
use Rattle.line_words.proofs.Printing.{prints_short, prints_then, prints_last}
use Rattle.signctl_format.specs.Lines.{wake_words, why_words}
use Rattle.signctl_format.proofs.print.push_reply.Goals as goal

words_after : (why : Why) (wake : Option CallId)
    → spaced_words (why_words why ++ wake_words wake)
    ≡ spaced_words (why_words why) ++ spaced_words (wake_words wake)
words_after why wake = flat_map-append (λ (word : List ℕ). space ∷ word) (why_words why) (wake_words wake)

pub returns-in_err-push-in-Ask : goal.returns-in_err-push-in-Ask
returns-in_err-push-in-Ask c = rw c.in-Ask.is (prints_short _ c.from_residual.ensures.0 c.in_err-push-in-Ask.ensures)

pub returns-in_ok-push-in-Ask : goal.returns-in_ok-push-in-Ask
returns-in_ok-push-in-Ask c =
    rw (c.in-Ask.is, ← c.from.ensures) (prints_then c.in_ok-push-in-Ask.ensures (prints_last c.push_number.ensures))

pub returns-in_err-push-in-Sign : goal.returns-in_err-push-in-Sign
returns-in_err-push-in-Sign c = rw c.in-Sign.is (prints_short _ c.from_residual-in_err-push-in-Sign.ensures.0 c.in_err-push-in-Sign.ensures)

pub returns-in_err-push_number-in-Sign : goal.returns-in_err-push_number-in-Sign
returns-in_err-push_number-in-Sign c =
    rw c.in-Sign.is (prints_then c.in_ok-push-in-Sign.ensures (prints_short _ c.from_residual-in_err-push_number-in-Sign.ensures.0 c.in_err-push_number-in-Sign.ensures))

pub returns-in_ok-push_number-in-Sign : goal.returns-in_ok-push_number-in-Sign
returns-in_ok-push_number-in-Sign c =
    rw c.in-Sign.is (prints_then c.in_ok-push-in-Sign.ensures
    (prints_then c.in_ok-push_number-in-Sign.ensures c.push_wake.ensures))

pub returns-in_err-push-in-Refused : goal.returns-in_err-push-in-Refused
returns-in_err-push-in-Refused c = rw c.in-Refused.is (prints_short _ c.from_residual-in_err-push-in-Refused.ensures.0 c.in_err-push-in-Refused.ensures)

pub returns-in_err-push_why-in-Refused : goal.returns-in_err-push_why-in-Refused
returns-in_err-push_why-in-Refused c =
    rw (c.in-Refused.is, words_after c.in-Refused.why c.in-Refused.wake)
    (prints_then c.in_ok-push-in-Refused.ensures (prints_short _ c.from_residual-in_err-push_why-in-Refused.ensures.0 c.in_err-push_why-in-Refused.ensures))

pub returns-in_ok-push_why-in-Refused : goal.returns-in_ok-push_why-in-Refused
returns-in_ok-push_why-in-Refused c =
    rw (c.in-Refused.is, words_after c.in-Refused.why c.in-Refused.wake)
    (prints_then c.in_ok-push-in-Refused.ensures
    (prints_then c.in_ok-push_why-in-Refused.ensures c.push_wake-in-Refused.ensures))

pub returns-in_err-push-in-Done : goal.returns-in_err-push-in-Done
returns-in_err-push-in-Done c = rw c.in-Done.is (prints_short _ c.from_residual-in_err-push-in-Done.ensures.0 c.in_err-push-in-Done.ensures)

pub returns-in_ok-push-in-Done : goal.returns-in_ok-push-in-Done
returns-in_ok-push-in-Done c = rw c.in-Done.is (prints_then c.in_ok-push-in-Done.ensures c.push_head.ensures)

pub returns-in_err-push-in-Cancelled : goal.returns-in_err-push-in-Cancelled
returns-in_err-push-in-Cancelled c = rw c.in-Cancelled.is (prints_short _ c.from_residual-in_err-push-in-Cancelled.ensures.0 c.in_err-push-in-Cancelled.ensures)

pub returns-in_ok-push-in-Cancelled : goal.returns-in_ok-push-in-Cancelled
returns-in_ok-push-in-Cancelled c =
    rw c.in-Cancelled.is (prints_then c.in_ok-push-in-Cancelled.ensures c.push_wake-in-Cancelled.ensures)
