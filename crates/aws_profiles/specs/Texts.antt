-- White space and comments in the texts of shared files.
use Rattle.std.specs.Prelude.{ℕ, ◌-◌, Bool, false, ◌&&◌, ◌||◌, ◌==◌, List, [], ◌∷◌, length, take, drop}
use Rattle.std.specs.Prelude.{Option, Some, None, slice_get, if◌then◌else◌}
use Rattle.std.specs.Char.{is_ascii_whitespace}
use Rattle.std.specs.List.{prefix_len, suffix_len}

-- the text without white space at its end
abbrev pub trimmed_end : List ℕ → List ℕ
trimmed_end text = take (length text - suffix_len is_ascii_whitespace text) text

-- the text without white space at either end
unfoldable pub trimmed : List ℕ → List ℕ
trimmed text = trimmed_end (drop (prefix_len is_ascii_whitespace text) text)

-- a byte is there, and passes
abbrev pub is_byte : (ℕ → Bool) → Option ℕ → Bool
is_byte test None = false
is_byte test (Some b) = test b

-- the text begins with a byte that passes
abbrev pub begins_with : (ℕ → Bool) → List ℕ → Bool
begins_with test text = is_byte test (slice_get text 0)

-- the byte is `#` or `;`
abbrev pub is_comment_mark : ℕ → Bool
is_comment_mark b = b == 35 || b == 59

-- nothing but white space and a comment stands in the text
abbrev pub is_silent : List ℕ → Bool
is_silent text = length (trimmed text) == 0 || begins_with is_comment_mark (trimmed text)

-- what stands before a comment: before white space that `#` or `;` follows
unfoldable pub uncommented : List ℕ → List ℕ
uncommented [] = []
uncommented (b ∷ text) =
    if is_ascii_whitespace b && begins_with is_comment_mark text then [] else b ∷ uncommented text
