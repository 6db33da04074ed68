use Rattle.std.proofs.Common.{◌≡◌, ◌+◌, ◌-◌, ◌≤◌, ◌++◌, ℕ, List, length, take, drop, ap, ◌∙◌, arith, length-take, length-drop}
use Rattle.std.specs.List.{slice_range}
use Rattle.sign_io.proofs.WindowLemmas.{slice_range-kept, slice_range-more, written-over, ReadsPiece-failed}
use Rattle.sign_io.proofs.window.Window.read.Goals as goal

pub returns-in_err-n-clause-piece : goal.returns-in_err-n-clause-piece
returns-in_err-n-clause-piece g c =
    let w = c.with_room-self-inside in
    let buffer = c.read_at.new.buffer in
    let at = w.result + (c.self.inside.end - c.self.inside.start) in
    let le : w.result ≤ at = omega arith in
    let written : take w.new.bytes.len (buffer ++ drop (length buffer) w.new.bytes.items) ≡ buffer = written-over w.new.bytes.items buffer w.new.bytes.len (omega arith) in
    let kept = slice_range-kept w.new.bytes.items buffer w.result at le (c.read_at.ensures.kept ∙ ap (take at) c.as_mut_slice.ensures.value) in
    ReadsPiece-failed _ _ _ _ _ c.from_residual.ensures.0
    (ap (λ (xs : List ℕ). slice_range xs w.result at) written ∙ kept ∙ w.ensures.part ∙ ap (λ v. v.held) c.self.view_is)
    c.in_err-n.ensures.piece

pub returns-clause-piece : goal.returns-clause-piece
returns-clause-piece g c =
    let w = c.with_room-self-inside in
    let buffer = c.read_at.new.buffer in
    let at = w.result + (c.self.inside.end - c.self.inside.start) in
    let n = c.in_ok-n.n in
    let le : w.result ≤ at = omega arith in
    let written : take w.new.bytes.len (buffer ++ drop (length buffer) w.new.bytes.items) ≡ buffer = written-over w.new.bytes.items buffer w.new.bytes.len (omega arith) in
    let more = slice_range-more w.new.bytes.items buffer w.result at n le (c.read_at.ensures.kept ∙ ap (take at) c.as_mut_slice.ensures.value) in
    let held = w.ensures.part ∙ ap (λ v. v.held) c.self.view_is in (
      take n (drop at buffer),
      ap (λ (xs : List ℕ). slice_range xs w.result (at + n)) written ∙ more ∙ ap (λ (xs : List ℕ). xs ++ take n (drop at buffer)) held,
      omega (arith, length-take n (drop at buffer), length-drop at buffer, c.in_ok-n.ensures.bound.1),
      c.in_ok-n.ensures.piece.0,
      λ none. c.in_ok-n.ensures.piece.1 none (omega (arith, length-drop at buffer)),
    )
