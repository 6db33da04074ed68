use Rattle.std.proofs.Common.{◌≡◌, ◌+◌, ◌-◌, List, ℕ}
use Rattle.std.specs.Io.KnownBytes.{Consumes}
use Rattle.sign_io.specs.Lines.{input_limit}
use Rattle.sign_io.specs.LineInput.{taken, with_taken, NeedsRead, TakenByNeed}
use Rattle.sign_io.proofs.line_buffer.LineBuffer.fill.Given as goal

-- bytes were taken by need, with no fault; nothing was read where none was needed
abbrev pub invariant-loop-self : goal.invariant-loop-self
invariant-loop-self g l = record {
  taken : (bytes : List ℕ) × Consumes (g.S.Source.left l.fn.source) (g.S.Source.left l.source) bytes
      × TakenByNeed l.fn.self.input bytes × (l.self.input ≡ with_taken l.fn.self.input bytes);
  faults : g.S.Source.faults l.source ≡ g.S.Source.faults l.fn.source;
  still : (NeedsRead l.fn.self.input → ⊥) → l.source ≡ l.fn.source;
}

abbrev pub decreases-loop-self : goal.decreases-loop-self
decreases-loop-self g l = input_limit + 1 - taken l.self.input
