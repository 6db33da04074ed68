-- Lines: where one ends, and how many bytes a line and an input may have.
use Rattle.std.specs.Prelude.{◌≡◌, ◌<◌, ◌≤◌, ◌+◌, ◌==◌, ℕ, Bool, false, List, All, length, take}
use Rattle.sign_base.specs.Bytes.{newline}

-- whether a byte ends a line
abbrev pub is_newline : ℕ → Bool
is_newline byte = byte == newline

-- the most bytes of a line, without its newline
abbrev pub line_limit : ℕ
line_limit = 65536

-- the most bytes of an input that are looked at
abbrev pub input_limit : ℕ
input_limit = 67108864

-- no byte ends a line
abbrev pub HasNoNewline : List ℕ → Type 0
HasNoNewline bytes = All (λ byte. is_newline byte ≡ false) bytes

-- no byte ends a line, and there are not too many for one
abbrev pub IsLine : List ℕ → Type 0
IsLine bytes = HasNoNewline bytes × (length bytes ≤ line_limit)

-- the bytes begin with one more than a line may have, and none of these ends a line
abbrev pub BeginsTooLong : List ℕ → Type 0
BeginsTooLong bytes = (line_limit < length bytes) × HasNoNewline (take (line_limit + 1) bytes)
