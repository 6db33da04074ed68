-- What a reader of lines is seen as: an input, how far it was taken and handed out, and how it closed.
use Rattle.std.specs.Prelude.{◌≡◌, ◌≤◌, ◌+◌, ◌-◌, ◌++◌, ◌⊎◌, [], ℕ, List, Option, Some, None, length, take}
use Rattle.sign_io.specs.declared.input_end.InputEnd.{InputEnd}
use Rattle.sign_io.specs.Lines.{IsLine, input_limit}

-- an input: how many of its bytes were handed out, those that were taken and not handed
-- out, and how it closed, if it did
pub record LineInput : Type 0 where
  pub handed : ℕ
  pub held : List ℕ
  pub closed : Option InputEnd

-- the number of bytes taken
abbrev pub taken : LineInput → ℕ
taken input = input.handed + length input.held

-- the input with more bytes taken
abbrev pub with_taken : LineInput → List ℕ → LineInput
with_taken input bytes = record input { held = input.held ++ bytes }

-- the input closed
abbrev pub closed_by : LineInput → InputEnd → LineInput
closed_by input why = record input { closed = Some why }

-- the held bytes that are looked at: those among the first `input_limit` of the input
abbrev pub looked_at : LineInput → List ℕ
looked_at input = take (input_limit - input.handed) input.held

-- no answer without a read: what is held is the beginning of a line, and more may be taken
abbrev pub NeedsRead : LineInput → Type 0
NeedsRead input = (input.closed ≡ None) × (taken input ≤ input_limit) × IsLine input.held

-- bytes were taken only where a read was needed, also before the last piece of them
abbrev pub TakenByNeed : LineInput → List ℕ → Type 0
TakenByNeed input bytes =
    (bytes ≡ []) ⊎ ((earlier : List ℕ) × (piece : List ℕ) × (bytes ≡ earlier ++ piece)
    × NeedsRead (with_taken input earlier))

-- only the first `input_limit` bytes are handed out, and at most one byte more is taken
abbrev pub IsWithinLimit : LineInput → Type 0
IsWithinLimit input = (input.handed ≤ input_limit) × (taken input ≤ input_limit + 1)
