-- Bytes that have a meaning in a line, and tests of one byte.
use Rattle.std.specs.Prelude.{ℕ, ◌+◌, ◌-◌, Bool, ◌&&◌, nat_le, nat_lt, Option, Some, None, if◌then◌else◌}
pub use Rattle.sign_base.specs.Bytes.{space, equals_sign}

-- the byte that begins a remark
abbrev pub hash_sign : ℕ
hash_sign = 35

-- the byte before the two digits of an escape
abbrev pub percent : ℕ
percent = 37

-- the byte for no duration, or for no bytes
abbrev pub dash : ℕ
dash = 45

-- the byte between whole seconds and their fraction
abbrev pub point : ℕ
point = 46

-- the digit of zero
abbrev pub zero_digit : ℕ
zero_digit = 48

-- the digit of nine
abbrev pub nine_digit : ℕ
nine_digit = 57

-- the byte between a header's name and its value
abbrev pub colon : ℕ
colon = 58

-- the upper-case letter that is the hexadecimal digit of ten
abbrev pub upper_a : ℕ
upper_a = 65

-- the lower-case one
abbrev pub lower_a : ℕ
lower_a = 97

-- whether a number fits a byte
abbrev pub is_byte : ℕ → Bool
is_byte b = nat_lt b 256

-- a byte that prints and is no space
abbrev pub is_visible : ℕ → Bool
is_visible b = nat_le 0x21 b && nat_le b 0x7e

-- a decimal digit
abbrev pub is_digit : ℕ → Bool
is_digit b = nat_le zero_digit b && nat_le b nine_digit

-- the number of a hexadecimal digit whose letters begin with this one
abbrev pub hex_digit : ℕ → ℕ → Option ℕ
hex_digit letter b =
    if is_digit b then Some (b - zero_digit)
    else (if nat_le letter b && nat_le b (letter + 5) then Some (b - letter + 10)
    else None)
