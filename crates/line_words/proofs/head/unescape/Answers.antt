use Rattle.std.proofs.Common.{sym, ap, ◌∙◌}
use Rattle.line_words.specs.Escapes.{value_of}
use Rattle.line_words.proofs.HeadWords.{with_front, value_more_run}
use Rattle.line_words.proofs.Failures.{gives_none}
use Rattle.line_words.proofs.head.unescape.Goals as goal

pub loop-value-preserved : goal.loop-value-preserved
loop-value-preserved c =
    let read = rw c.in-Some.is at c.in_ok-b.ensures in
    rw (c.in_ok-extend_from_slice.ensures.items, c.in_ok-push.ensures.items) (value_more_run c.loop-value.value.items c.in-Some.b c.split_prefix.result.0.now c.split_prefix.result.1.now c.loop-value.rest.now c.in-Some.after.now (value_of c.args.word.now) read.0 c.split_prefix.ensures.parts c.split_prefix.ensures.class c.loop-value.invariant)

pub returns-in_err-b : goal.returns-in_err-b
returns-in_err-b c =
    gives_none (λ v. v) c.from_residual-in_err-b.result _ c.from_residual-in_err-b.ensures.0 (sym c.loop-value.invariant ∙ ap (with_front c.loop-value.value.items) c.in_err-b.ensures)
