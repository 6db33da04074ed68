-- Which bytes are kept without an allocation.
use Rattle.std.specs.Prelude.{ℕ, ◌≤◌, List, length}

-- the most bytes that are kept in the value itself
abbrev pub inline_size : ℕ
inline_size = 24

-- bytes that need no allocation
abbrev pub FitsInline : List ℕ → Type 0
FitsInline bytes = length bytes ≤ inline_size
