use Rattle.std.proofs.Common.{◌≡◌, ◌-◌, ◌≤◌, length, take, drop, ap, sym, subst, ◌∙◌, arith, length-append, length-take, length-drop}
use Rattle.std.specs.List.{position_or_len}
use Rattle.sign_io.specs.Lines.{is_newline, input_limit}
use Rattle.sign_io.specs.LineInput.{LineInput, taken, with_taken, looked_at, NeedsRead}
use Rattle.sign_io.proofs.LineLemmas.{position-within, position-read}
use Rattle.sign_io.proofs.line_buffer.LineBuffer.read.Goals as goal

pub line_len-requires : goal.line_len-requires
line_len-requires g c =
    let w = c.self.inside in
    let needs = c.requires.1 in
    let piece = c.in_ok-n.ensures.piece in
    let shown = length-take (input_limit - w.handed) c.held.result.now in
    omega (
      arith,
      ap length c.within_limit-looked_at.ensures,
      ap length (c.held.ensures.held ∙ piece.1),
      length-append w.window.held piece.0,
      ap length c.held-len.ensures.held,
      ap taken (ap (λ v. v.input) c.self.view_is),
    )

pub overflow_add-self : goal.overflow_add-self
overflow_add-self g c =
    let rest = drop (length c.held-len.result.now) c.within_limit-looked_at.result.now in
    let found : c.line_len.result ≤ length rest = omega (arith, c.line_len.ensures, position-within rest) in
    omega (arith, length-drop (length c.held-len.result.now) c.within_limit-looked_at.result.now)

pub invariant_of-self-2 : goal.invariant_of-self-2
invariant_of-self-2 g c =
    let w = c.self.inside in
    let input : LineInput = record { handed = w.handed; held = w.window.held; closed = w.closed } in
    let needs : NeedsRead input = subst NeedsRead (sym (ap (λ v. v.input) c.self.view_is)) c.requires in
    let piece = c.in_ok-n.ensures.piece in
    let shown : c.within_limit-looked_at.result.now ≡ looked_at (with_taken input piece.0) =
    c.within_limit-looked_at.ensures ∙ ap (take (input_limit - w.handed)) (c.held.ensures.held ∙ piece.1) in
    let first = position-read input piece.0 c.within_limit-looked_at.result.now (length c.held-len.result.now) c.line_len.result needs shown (ap length c.held-len.ensures.held) c.line_len.ensures in (
      omega arith,
      omega (arith, ap length piece.1, length-append w.window.held piece.0, piece.2, c.in_ok-n.ensures.bound, c.taken.ensures, ap taken (ap (λ v. v.input) c.self.view_is)),
      first ∙ ap (λ held. position_or_len is_newline (take (input_limit - w.handed) held)) (sym piece.1),
    )
