use Rattle.std.proofs.Common.{◌≡◌, None, length, ap, sym, subst, ◌∙◌, arith}
use Rattle.std.specs.List.{position_or_len}
use Rattle.std.proofs.lemmas.Bool.{leb-true, le-leb, eqb-true}
use Rattle.sign_io.specs.Lines.{is_newline}
use Rattle.sign_io.specs.LineInput.{LineInput, looked_at}
use Rattle.sign_io.proofs.LineLemmas.{unclosed, needs-read, needed-read}
use Rattle.sign_io.proofs.line_buffer.LineBuffer.needs_read.Goals as goal

pub returns-then-self-held : goal.returns-then-self-held
returns-then-self-held c =
    let input = c.args.self.now.input in
    let input_is : record { handed = c.self.inside.handed; held = c.self.inside.window.held; closed = c.self.inside.closed } ≡ input = ap (λ v. v.input) c.self.view_is in
    let first : c.self.inside.line_len ≡ position_or_len is_newline (looked_at input) =
    subst (λ (i : LineInput). c.self.inside.line_len ≡ position_or_len is_newline (looked_at i)) input_is c.self.invariant.2 in
    let held_is : c.self.inside.window.held ≡ input.held = ap (λ i. i.held) input_is in
    let closed : input.closed ≡ None = sym (ap (λ i. i.closed) input_is) ∙ unclosed c.self.inside.closed c.if-is_some.ensures in (
      λ fits. needs-read input c.self.inside.line_len first closed (omega arith) (c.if-self-held.true ∙ ap length (c.held.ensures.held ∙ held_is)) (leb-true _ _ fits),
      λ needs. le-leb _ _ (needed-read input c.self.inside.line_len first needs).1,
    )

pub returns-else-self-held : goal.returns-else-self-held
returns-else-self-held c =
    let input = c.args.self.now.input in
    let input_is : record { handed = c.self.inside.handed; held = c.self.inside.window.held; closed = c.self.inside.closed } ≡ input = ap (λ v. v.input) c.self.view_is in
    let first : c.self.inside.line_len ≡ position_or_len is_newline (looked_at input) =
    subst (λ (i : LineInput). c.self.inside.line_len ≡ position_or_len is_newline (looked_at i)) input_is c.self.invariant.2 in
    let held_is : c.self.inside.window.held ≡ input.held = ap (λ i. i.held) input_is in (
      λ all. absurd (c.if-self-held.false (eqb-true _ _ all)),
      λ needs. absurd (c.if-self-held.false ((needed-read input c.self.inside.line_len first needs).0 ∙ sym (ap length (c.held.ensures.held ∙ held_is)))),
    )
