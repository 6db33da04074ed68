use Rattle.std.proofs.Common.{◌≡◌, refl, ap, ◌∙◌, arith, length-append}
use Rattle.sign_io.specs.LineInput.{taken, with_taken, NeedsRead}
use Rattle.sign_io.proofs.TakingLemmas.{needed-first, takes-more, fills-at-end, fills-failed}
use Rattle.sign_io.proofs.line_buffer.LineBuffer.fill.Goals as goal

pub loop-self-preserved : goal.loop-self-preserved
loop-self-preserved g c =
    let now = c.loop-self.self.input in
    let needs : NeedsRead now = c.loop-self-test.ensures.0 refl in
    let piece = c.in-Ok.ensures.piece in
    let new_is : c.read.new.self.input ≡ with_taken now piece.0 = c.in-Ok.ensures.same ∙ ap (λ held. record now { held = held }) piece.1 in
    record {
      taken = takes-more c.args.self.now.input now c.read.new.self.input _ _ _ piece.0 c.loop-self.invariant.taken needs piece.3 new_is;
      faults = c.in-Ok.ensures.faults ∙ c.loop-self.invariant.faults;
      still = λ ready. absurd (ready (needed-first _ _ _ _ c.loop-self.invariant.taken needs));
    }

pub returns-in-Ok-eq0-clause-filled : goal.returns-in-Ok-eq0-clause-filled
returns-in-Ok-eq0-clause-filled g c =
    let now = c.loop-self.self.input in
    let needs : NeedsRead now = c.loop-self-test.ensures.0 refl in
    let piece = c.in-Ok-eq0.ensures.piece in
    let new_is : c.read.new.self.input ≡ with_taken now piece.0 =
    c.in-Ok-eq0.ensures.same ∙ ap (λ held. record now { held = held }) piece.1 in
    fills-at-end c.args.self.now.input now c.read.new.self.input _ _ _ piece.0 c.loop-self.invariant.taken needs piece.3 new_is
    (piece.2 ∙ c.in-Ok-eq0.field-0-test) (piece.4 c.in-Ok-eq0.field-0-test)

pub returns-in-Err-clause-filled : goal.returns-in-Err-clause-filled
returns-in-Err-clause-filled g c =
    let now = c.loop-self.self.input in
    let needs : NeedsRead now = c.loop-self-test.ensures.0 refl in
    let piece = c.in-Err.ensures.piece in
    let new_is : c.read.new.self.input ≡ now = c.in-Err.ensures.same ∙ ap (λ held. record now { held = held }) piece.0 in
    fills-failed c.args.self.now.input now c.read.new.self.input _ _ _ c.loop-self.invariant.taken needs piece.1 new_is

pub returns-in-Err-clause-still : goal.returns-in-Err-clause-still
returns-in-Err-clause-still g c =
    let needs : NeedsRead c.loop-self.self.input = c.loop-self-test.ensures.0 refl in
    λ ready. absurd (ready (needed-first _ _ _ _ c.loop-self.invariant.taken needs))

pub returns-in-Ok-eq0-clause-still : goal.returns-in-Ok-eq0-clause-still
returns-in-Ok-eq0-clause-still g c =
    let needs : NeedsRead c.loop-self.self.input = c.loop-self-test.ensures.0 refl in
    λ ready. absurd (ready (needed-first _ _ _ _ c.loop-self.invariant.taken needs))

pub loop-self-smaller : goal.loop-self-smaller
loop-self-smaller g c =
    let now = c.loop-self.self.input in
    let needs : NeedsRead now = c.loop-self-test.ensures.0 refl in
    let piece = c.in-Ok.ensures.piece in
    let new_is : c.read.new.self.input ≡ with_taken now piece.0 = c.in-Ok.ensures.same ∙ ap (λ held. record now { held = held }) piece.1 in
    omega (arith, needs.1, ap taken new_is, length-append now.held piece.0, piece.2, c.in-Ok.field-0-test.1)

pub read-requires : goal.read-requires
read-requires g c = c.loop-self-test.ensures.0 refl

pub returns-in-Ok-eq0-clause-faults : goal.returns-in-Ok-eq0-clause-faults
returns-in-Ok-eq0-clause-faults g c = c.in-Ok-eq0.ensures.faults ∙ c.loop-self.invariant.faults

pub returns-in-Err-clause-faults : goal.returns-in-Err-clause-faults
returns-in-Err-clause-faults g c = rw (← c.loop-self.invariant.faults) c.in-Err.ensures.faults

pub returns-clause-faults : goal.returns-clause-faults
returns-clause-faults g c = c.loop-self.invariant.faults

pub returns-clause-still : goal.returns-clause-still
returns-clause-still g c = c.loop-self.invariant.still
