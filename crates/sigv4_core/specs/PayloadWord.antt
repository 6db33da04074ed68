-- The word that a canonical request has for its payload.
use Rattle.std.specs.Prelude.{ℕ, Bool, ◌&&◌, ◌||◌, ◌==◌, nat_le, List, length, codes}
use Rattle.std.specs.Char.{is_ascii_digit}
use Rattle.std.specs.List.{list_all}

-- the word for a payload that is not signed
abbrev pub unsigned_payload : List ℕ
unsigned_payload = codes "UNSIGNED-PAYLOAD"

-- `0` to `9` or `a` to `f`
abbrev pub is_lower_hex : ℕ → Bool
is_lower_hex b = is_ascii_digit b || (nat_le 97 b && nat_le b 102)

-- a SHA-256 in lower-case hexadecimal
abbrev pub is_digest : List ℕ → Bool
is_digest word = (length word == 64) && list_all is_lower_hex word
