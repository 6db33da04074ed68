-- Classes of bytes, and how far the bytes of a class go.
use Rattle.std.specs.Prelude.{◌≡◌, ◌+◌, ◌<◌, ◌≤◌, ℕ, Bool, true, false, not, ◌==◌, List, [], ◌∷◌, slice_index}
use Rattle.std.specs.Prelude.{if◌then◌else◌}
use Rattle.std.specs.Int.{w64, trailing_zeros}
use Rattle.line_words.specs.declared.byte_class.ByteClass.{ByteClass}
use Rattle.line_words.specs.declared.byte_class.ByteClass.TheVariants.{Word, Visible, Name, Value, Pair}
use Rattle.line_words.specs.Bytes.{is_visible}
use Rattle.line_words.specs.Words.{is_space}
use Rattle.line_words.specs.Heads.{is_name_byte}
use Rattle.line_words.specs.Escapes.{is_plain, is_pair_plain}

-- a byte of a word
abbrev pub is_no_space : ℕ → Bool
is_no_space b = not (is_space b)

-- the bytes of a class
abbrev pub has : ByteClass → ℕ → Bool
has Word = is_no_space
has Visible = is_visible
has Name = is_name_byte
has Value = is_plain
has Pair = is_pair_plain

-- there is a first byte, and it passes the test
abbrev pub begins_with : (ℕ → Bool) → List ℕ → Bool
begins_with test [] = false
begins_with test (b ∷ rest) = test b

-- of the n bytes from a place, just so many pass the test before one that does not
pub record IsRunIn (test : ℕ → Bool) (bytes : List ℕ) (at n run : ℕ) : Type 0 where
  pub within : run ≤ n
  pub passes : (k : ℕ) → at ≤ k → k < at + run → test (slice_index bytes k) ≡ true
  pub stops : run < n → test (slice_index bytes (at + run)) ≡ false

-- the place of the lowest bit that is set, or n
abbrev pub first_set : ℕ → ℕ → ℕ
first_set mask n = if mask == 0 then n else trailing_zeros w64 mask
