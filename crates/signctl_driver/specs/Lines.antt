-- The lines of an input.
use Rattle.std.specs.Prelude.{ℕ, Bool, true, false, List, [], ◌∷◌, length, nat_lt, if◌then◌else◌}
use Rattle.std.specs.List.{slice_split}
use Rattle.sign_io.specs.Lines.{is_newline, line_limit}

-- how an input comes to its end: all was read, or a read failed
pub data Ending : Type 0 where
  End : Ending
  Fault : Ending

-- whether a line has too many bytes
abbrev pub is_too_long : List ℕ → Bool
is_too_long line = nat_lt line_limit (length line)

-- whether what stands after the last newline is a line: where all was read, unless it is empty; where a read
-- failed only if it has too many bytes
abbrev pub is_last_line : Ending → List ℕ → Bool
is_last_line End [] = false
is_last_line End (b ∷ rest) = true
is_last_line Fault bytes = is_too_long bytes

-- those of the pieces between newlines that are lines: all but the last, and the last where it is one
abbrev pub lines_in : Ending → List (List ℕ) → List (List ℕ)
lines_in ending [] = []
lines_in ending (last ∷ []) = if is_last_line ending last then last ∷ [] else []
lines_in ending (line ∷ (next ∷ rest)) = line ∷ lines_in ending (next ∷ rest)

-- the lines of some bytes
abbrev pub lines_of : List ℕ → Ending → List (List ℕ)
lines_of bytes ending = lines_in ending (slice_split is_newline bytes)
