-- A line says nothing, or is parted into words by single spaces. Numbers and names are words.
use Rattle.std.specs.Prelude.{ℕ, Bool, true, false, not, ◌&&◌, ◌==◌, nat_le, nat_lt, length, List, [], ◌∷◌}
use Rattle.std.specs.Prelude.{◌++◌, Option, Some, None, if◌then◌else◌, flat_map}
use Rattle.std.specs.List.{slice_split, list_all}
use Rattle.std.specs.Str.{bytes_eq}
use Rattle.std.specs.Str.Parse.{digits_value}
use Rattle.std.specs.Fmt.{decimal}
use Rattle.sign_base.specs.Bytes.{newline}
use Rattle.line_words.specs.Bytes.{space, hash_sign, zero_digit, is_visible}

-- an empty line, or one that begins with `#`
abbrev pub is_silent : List ℕ → Bool
is_silent [] = true
is_silent (b ∷ rest) = b == hash_sign

-- whether a byte parts words
abbrev pub is_space : ℕ → Bool
is_space b = b == space

-- the words of a line: what stands before, between and after its spaces
abbrev pub words : List ℕ → List (List ℕ)
words line = slice_split is_space line

-- words after the first, each after a space
abbrev pub spaced_words : List (List ℕ) → List ℕ
spaced_words rest = flat_map (λ word. space ∷ word) rest

-- the line that these words make
abbrev pub line_of : List (List ℕ) → List ℕ
line_of [] = []
line_of (word ∷ rest) = word ++ spaced_words rest

-- a line of output
abbrev pub with_newline : List ℕ → List ℕ
with_newline line = line ++ newline ∷ []

-- the greatest number of 32 bits
abbrev pub greatest_u32 : ℕ
greatest_u32 = 4_294_967_295

-- the greatest number of 64 bits
abbrev pub greatest_u64 : ℕ
greatest_u64 = 18_446_744_073_709_551_615

-- the number up to a limit that a word spells: it has no sign, no leading zero and digits alone
abbrev pub number_of : ℕ → List ℕ → Option ℕ
number_of limit word =
    let n = digits_value 10 word in
    if bytes_eq word (decimal n) && nat_le n limit then Some n else None

-- whether a word has a byte, and no zero before another one
abbrev pub begins_a_number : List ℕ → Bool
begins_a_number [] = false
begins_a_number (b ∷ []) = true
begins_a_number (b ∷ c ∷ rest) = not (b == zero_digit)

-- a method or a URI: one or more visible bytes, taken as they are
abbrev pub is_target : List ℕ → Bool
is_target word = nat_lt 0 (length word) && list_all is_visible word
