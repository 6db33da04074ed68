-- Bytes as one word: in hexadecimal, or as they are. No bytes are the word `-`.
use Rattle.std.specs.Prelude.{ℕ, Bool, ◌&&◌, List, [], ◌∷◌, length, nat_lt, Option, Some, None, is_some}
use Rattle.std.specs.Prelude.{if◌then◌else◌}
use Rattle.std.specs.List.{list_all}
use Rattle.std.specs.Result.{result_ok}
use Rattle.std.specs.Str.{bytes_eq}
use Rattle.hex.specs.Hex.{encode_lower, decode_of}
use Rattle.line_words.specs.Bytes.{dash, lower_a, hex_digit}
use Rattle.line_words.specs.Words.{is_target}

-- the word `-`
abbrev pub dash_word : List ℕ
dash_word = dash ∷ []

-- a text as a word
abbrev pub text_word : List ℕ → List ℕ
text_word [] = dash_word
text_word (b ∷ rest) = b ∷ rest

-- bytes as a word: two lower-case hexadecimal digits each
abbrev pub hex_word : List ℕ → List ℕ
hex_word bytes = text_word (encode_lower bytes)

-- a lower-case hexadecimal digit
abbrev pub is_lower_hex : ℕ → Bool
is_lower_hex b = is_some (hex_digit lower_a b)

-- one or more of them
abbrev pub is_hex_word : List ℕ → Bool
is_hex_word word = nat_lt 0 (length word) && list_all is_lower_hex word

-- the bytes that a word spells
unfoldable pub bytes_of : List ℕ → Option (List ℕ)
bytes_of word =
    if bytes_eq word dash_word then Some []
    else (if is_hex_word word then result_ok (decode_of word)
    else None)

-- the text of visible bytes that a word spells
unfoldable pub text_of : List ℕ → Option (List ℕ)
text_of word =
    if bytes_eq word dash_word then Some []
    else (if is_target word then Some word
    else None)
