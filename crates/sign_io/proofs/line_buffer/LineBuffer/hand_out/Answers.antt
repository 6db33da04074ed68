use Rattle.std.proofs.Common.{◌≡◌, length, ap, subst, ◌∙◌, arith}
use Rattle.std.specs.List.{position_or_len}
use Rattle.sign_io.specs.Lines.{is_newline}
use Rattle.sign_io.specs.LineInput.{LineInput, looked_at}
use Rattle.sign_io.proofs.LineLemmas.{position-within, too-long, too-much}
use Rattle.sign_io.proofs.line_buffer.LineBuffer.hand_out.Goals as goal

pub returns-then-self-gt-LINE_LIMIT-clause-answer :
    goal.returns-then-self-gt-LINE_LIMIT-clause-answer
returns-then-self-gt-LINE_LIMIT-clause-answer c =
    let input_is : record { handed = c.self.inside.handed; held = c.self.inside.window.held; closed = c.self.inside.closed } ≡ c.args.self.now.input = ap (λ v. v.input) c.self.view_is in
    let first = subst (λ (i : LineInput). c.self.inside.line_len ≡ position_or_len is_newline (looked_at i)) input_is c.self.invariant.2 in
    λ left. rw c.close.ensures.answer (too-long c.args.self.now.input c.self.inside.line_len first c.if-self-gt-LINE_LIMIT.true, c.close.ensures.closed)

pub returns-then-self-looked_at-clause-answer : goal.returns-then-self-looked_at-clause-answer
returns-then-self-looked_at-clause-answer c =
    let input = c.args.self.now.input in
    let input_is : record { handed = c.self.inside.handed; held = c.self.inside.window.held; closed = c.self.inside.closed } ≡ input = ap (λ v. v.input) c.self.view_is in
    let first = subst (λ (i : LineInput). c.self.inside.line_len ≡ position_or_len is_newline (looked_at i)) input_is c.self.invariant.2 in
    let all = c.if-self-looked_at.true ∙ ap length c.looked_at.ensures in
    λ left. rw c.close-then-self-looked_at.ensures.answer (
      too-much input c.self.inside.line_len first c.requires.unclosed c.requires.ready all c.if-self-gt-LINE_LIMIT.false,
      c.close-then-self-looked_at.ensures.closed,
    )

pub cut_line-requires-clause-whole : goal.cut_line-requires-clause-whole
cut_line-requires-clause-whole c =
    let input = c.args.self.now.input in
    let input_is : record { handed = c.self.inside.handed; held = c.self.inside.window.held; closed = c.self.inside.closed } ≡ input = ap (λ v. v.input) c.self.view_is in
    let first = subst (λ (i : LineInput). c.self.inside.line_len ≡ position_or_len is_newline (looked_at i)) input_is c.self.invariant.2 in
    let within = position-within (looked_at input) in
    omega (arith, ap length c.looked_at.ensures)
