-- What a reader of lines answers, and by what each answer comes.
use Rattle.std.specs.Prelude.{◌≡◌, ◌<◌, ◌≤◌, ◌+◌, ◌++◌, ◌∷◌, ◌⊎◌, [], ℕ, Bool, true, false, List}
use Rattle.std.specs.Prelude.{Option, Some, None, Result, Ok, Err, MatchOption, length}
use Rattle.std.specs.Io.KnownBytes.{Consumes, IsAtEnd}
use Rattle.sign_io.specs.declared.input_end.InputEnd.{InputEnd}
use Rattle.sign_io.specs.declared.input_end.InputEnd.TheVariants as input_end
use Rattle.sign_base.specs.Bytes.{newline}
use Rattle.sign_io.specs.Lines.{IsLine, BeginsTooLong, input_limit}
use Rattle.sign_io.specs.LineInput.{LineInput, taken, with_taken, closed_by, looked_at}
use Rattle.sign_io.specs.LineInput.{NeedsRead, TakenByNeed, IsWithinLimit}

-- the next line leaves the input, with its newline
abbrev pub GivesLine : LineInput → List ℕ → LineInput → Type 0
GivesLine input line new =
    IsLine line × (input.held ≡ line ++ newline ∷ new.held) × (new.handed ≡ input.handed + length line + 1)
    × (new.handed ≤ input_limit) × (new.closed ≡ None)

-- all that is held at the end of the source is the last line
abbrev pub GivesLastLine : LineInput → Option (List ℕ) → List ℕ → LineInput → Type 0
GivesLastLine input left line new =
    NeedsRead input × IsAtEnd left × (0 < length line) × (input.held ≡ line)
    × (new ≡ record { handed = input.handed + length line; held = []; closed = Some input_end.End })

-- why the input closes: it holds a line too long; no whole line and too many bytes; nothing at the end of the
-- source; or the beginning of a line where a read failed
abbrev pub ClosesBy : LineInput → Option (List ℕ) → InputEnd → Type 0
ClosesBy input left input_end.TooLong = BeginsTooLong (looked_at input)
ClosesBy input left input_end.TooMuch = IsLine (looked_at input) × (input_limit < taken input)
ClosesBy input left input_end.End = NeedsRead input × IsAtEnd left × (input.held ≡ [])
ClosesBy input left input_end.Fault = NeedsRead input

-- a line or the input's end, by what is held with the bytes taken for it and what is left of
-- the source; and the input then
abbrev pub Answers : LineInput → Option (List ℕ) → Result (List ℕ) InputEnd → LineInput → Type 0
Answers input left (Ok line) new = GivesLine input line new ⊎ GivesLastLine input left line new
Answers input left (Err why) new = ClosesBy input left why × (new ≡ closed_by input why)

-- the next answer of an open input, by the source before and after it
abbrev pub AnswersOpen : LineInput → Option (List ℕ) → Option (List ℕ) → Result (List ℕ) InputEnd
    → LineInput → Type 0
AnswersOpen old before after answer new =
    (bytes : List ℕ) × Consumes before after bytes × TakenByNeed old bytes
    × Answers (with_taken old bytes) after answer new × IsWithinLimit new

-- the next answer: one that closed answers the same again
abbrev pub AnswersNext : LineInput → Option (List ℕ) → Option (List ℕ) → Result (List ℕ) InputEnd
    → LineInput → Type 0
AnswersNext old before after answer new =
    MatchOption old.closed (AnswersOpen old before after answer new) (λ why. (answer ≡ Err why) × (new ≡ old))

-- whether an answer says that a read failed
abbrev pub is_fault : Result (List ℕ) InputEnd → Bool
is_fault (Err input_end.Fault) = true
is_fault _ = false
