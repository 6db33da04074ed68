use Rattle.std.proofs.Common.{◌≡◌, ◌+◌, ◌-◌, ◌<◌, ◌≤◌, ◌++◌, ◌∷◌, length, take, drop, ap, sym, subst, ◌∙◌, arith, length-drop}
use Rattle.std.specs.List.{position_or_len}
use Rattle.sign_base.specs.Bytes.{newline}
use Rattle.sign_io.specs.Lines.{is_newline, line_limit, input_limit, IsLine}
use Rattle.sign_io.specs.LineInput.{LineInput, looked_at}
use Rattle.sign_io.proofs.LineLemmas.{gives-line, looked_at-behind}
use Rattle.sign_io.proofs.line_buffer.LineBuffer.cut_line.Goals as goal

pub invariant_of-self : goal.invariant_of-self
invariant_of-self c =
    let w = c.self.inside in
    let input : LineInput = record { handed = w.handed; held = w.window.held; closed = w.closed } in
    let input_is : input ≡ c.args.self.now.input = ap (λ v. v.input) c.self.view_is in
    let shown : length (looked_at input) ≡ length (looked_at c.args.self.now.input) = ap (λ (i : LineInput). length (looked_at i)) input_is in
    let first : w.line_len ≡ position_or_len is_newline (looked_at c.args.self.now.input) = c.self.invariant.2 ∙ ap (λ (i : LineInput). position_or_len is_newline (looked_at i)) input_is in
    let whole : w.line_len < length (looked_at input) = omega (arith, c.requires.whole) in
    let fits : w.line_len ≤ line_limit = omega (arith, c.requires.fits) in
    let line = gives-line input w.line_len c.self.invariant.2 whole c.self.invariant.0 fits in
    let held_is = ap (λ v. v.held) c.hand_out.ensures in (
      omega (arith, line.3),
      omega (arith, ap length held_is, length-drop (w.line_len + 1) w.window.held, c.self.invariant.1),
      c.line_len-self-inside.ensures ∙ ap (λ shown. position_or_len is_newline (drop (w.line_len + 1) shown)) (c.looked_at.ensures ∙ sym (ap looked_at input_is))
          ∙ ap (position_or_len is_newline) (sym (looked_at-behind input w.line_len c.self.invariant.2 whole))
          ∙ ap (λ held. position_or_len is_newline (take (input_limit - (w.handed + (w.line_len + 1))) held)) (sym held_is),
    )

pub returns-clause-line : goal.returns-clause-line
returns-clause-line c =
    let buffer = c.self.inside in
    let input : LineInput = record { handed = buffer.handed; held = buffer.window.held; closed = buffer.closed } in
    let input_is : input ≡ c.args.self.now.input = ap (λ v. v.input) c.self.view_is in
    let shown : length (looked_at input) ≡ length (looked_at c.args.self.now.input) = ap (λ (i : LineInput). length (looked_at i)) input_is in
    let first : buffer.line_len ≡ position_or_len is_newline (looked_at c.args.self.now.input) = c.self.invariant.2 ∙ ap (λ (i : LineInput). position_or_len is_newline (looked_at i)) input_is in
    let whole : buffer.line_len < length (looked_at input) = omega (arith, c.requires.whole) in
    let fits : buffer.line_len ≤ line_limit = omega (arith, c.requires.fits) in
    let line = gives-line input buffer.line_len c.self.invariant.2 whole c.self.invariant.0 fits in
    let line_is = ap (λ v. v.line) c.hand_out.ensures in
    let held_is = ap (λ v. v.held) c.hand_out.ensures in (
      subst IsLine (sym line_is) line.0,
      sym (ap (λ i. i.held) input_is) ∙ line.1 ∙ ap (λ v. v.line ++ newline ∷ v.held) (sym c.hand_out.ensures),
      omega (arith, line.2, ap length line_is, ap (λ i. i.handed) input_is),
      omega (arith, line.3),
      ap (λ i. i.closed) input_is ∙ c.requires.unclosed,
    )
