-- What a line buffer is seen as, and what its steps do.
use Rattle.std.specs.Prelude.{◌≡◌, ℕ, List, Option, Result, Ok, Err, Bool, true, false}
use Rattle.std.specs.Io.KnownBytes.{Consumes, IsAtEnd}
use Rattle.sign_io.specs.declared.input_end.InputEnd.{InputEnd}
use Rattle.sign_io.specs.declared.line_buffer.ReadOutcome.{ReadOutcome}
use Rattle.sign_io.specs.declared.line_buffer.ReadOutcome.TheVariants.{Ready, AtEnd, Failed}
use Rattle.sign_io.specs.LineInput.{LineInput, with_taken, NeedsRead, TakenByNeed}

-- an input, and the line that was handed out last
pub record BufferedInput : Type 0 where
  pub line : List ℕ
  pub input : LineInput

-- what a step answers, which leaves the line in the buffer
abbrev pub step_answer : Result (Unit {0}) InputEnd → List ℕ → Result (List ℕ) InputEnd
step_answer (Ok u) line = Ok line
step_answer (Err why) line = Err why

-- why reading stops: no read is needed, or one gave nothing, or one failed
abbrev pub IsReadOutcome : LineInput → Option (List ℕ) → ReadOutcome → Type 0
IsReadOutcome input left Ready = NeedsRead input → ⊥
IsReadOutcome input left AtEnd = NeedsRead input × IsAtEnd left
IsReadOutcome input left Failed = NeedsRead input

-- bytes were taken by need, and then reading stopped
abbrev pub Fills : LineInput → Option (List ℕ) → Option (List ℕ) → ReadOutcome → LineInput → Type 0
Fills old before after outcome new =
    (bytes : List ℕ) × Consumes before after bytes × TakenByNeed old bytes × (new ≡ with_taken old bytes)
    × IsReadOutcome new after outcome

-- whether a read failed
abbrev pub is_failed : ReadOutcome → Bool
is_failed Failed = true
is_failed _ = false
