-- Bytes that can't stand for themselves, written as `%` and two digits.
use Rattle.std.specs.Prelude.{ℕ, ◌+◌, ◌*◌, ◌/◌, ◌%◌, Bool, true, not, ◌&&◌, ◌==◌, List, [], ◌∷◌, flat_map}
use Rattle.std.specs.Prelude.{Option, Some, None, if◌then◌else◌, option_map, option_and_then}
use Rattle.std.specs.Fmt.{digit_glyph}
use Rattle.line_words.specs.declared.escape.Escaping.{Escaping}
use Rattle.line_words.specs.declared.escape.Escaping.TheVariants.{Value, Pair}
use Rattle.line_words.specs.Bytes.{percent, equals_sign, upper_a, is_visible, hex_digit}

-- a byte as two hexadecimal digits, in upper or lower case
abbrev pub hex_pair : Bool → ℕ → List ℕ
hex_pair upper b = digit_glyph upper (b / 16) ∷ digit_glyph upper (b % 16) ∷ []

-- a byte as itself where it passes the test, else as `%` and two upper-case digits
abbrev pub byte_or_escape : (ℕ → Bool) → ℕ → List ℕ
byte_or_escape stands b = if stands b then b ∷ [] else percent ∷ hex_pair true b

-- bytes of which those that fail the test are escaped
abbrev pub with_escapes : (ℕ → Bool) → List ℕ → List ℕ
with_escapes stands bytes = flat_map (byte_or_escape stands) bytes

-- a byte that stands for itself in a header's value: visible, and no `%`
abbrev pub is_plain : ℕ → Bool
is_plain b = is_visible b && not (b == percent)

-- a byte that stands for itself in a key or a value of a query: not `=` either
abbrev pub is_pair_plain : ℕ → Bool
is_pair_plain b = is_plain b && not (b == equals_sign)

-- which bytes stand for themselves
abbrev pub stands : Escaping → ℕ → Bool
stands Value = is_plain
stands Pair = is_pair_plain

-- the word of a header's value
abbrev pub value_word : List ℕ → List ℕ
value_word value = with_escapes is_plain value

-- the byte that two digits after `%` represent, where it can't stand for itself
abbrev pub escaped_byte : ℕ → ℕ → Option ℕ
escaped_byte high low =
    option_and_then (λ h. option_and_then (λ l. if is_plain (16 * h + l) then None else Some (16 * h + l))
    (hex_digit upper_a low)) (hex_digit upper_a high)

-- these bytes with one more in front, where there are any
abbrev pub with_first_byte : ℕ → Option (List ℕ) → Option (List ℕ)
with_first_byte b bytes = option_map (λ rest. b ∷ rest) bytes

-- the value that a word spells
abbrev pub value_of : List ℕ → Option (List ℕ)
value_of [] = Some []
value_of (b ∷ []) = if is_plain b then Some (b ∷ []) else None
value_of (b ∷ c ∷ []) = if is_plain b then with_first_byte b (value_of (c ∷ [])) else None
value_of (b ∷ c ∷ d ∷ rest) =
    if is_plain b then with_first_byte b (value_of (c ∷ d ∷ rest))
    else (if b == percent then option_and_then (λ e. with_first_byte e (value_of rest)) (escaped_byte c d)
    else None)
