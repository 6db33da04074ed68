-- Reading a query: its pairs of a key and a value, each decoded once.
use Rattle.std.specs.Prelude.{◌≢◌, ℕ, ◌+◌, Bool, List, All, map, filter}
use Rattle.std.specs.Prelude.{length, not, sum_by, string_bytes, ◌==◌}
use Rattle.std.specs.List.{slice_split, before_first, after_first}
use Rattle.std.specs.Str.Lossy.{utf8_lossy}
use Rattle.std.specs.declared.string.String.{String}
use Rattle.percent_encoding.specs.Percent.{percent_decode, percent_sign}
use Rattle.sign_base.specs.Bytes.{ampersand, equals_sign}

-- a key and its value
abbrev pub Pair : Type 0
Pair = List ℕ × List ℕ

-- the pair that two strings make
abbrev pub text_pair : {Z : Type 0} → String Z × String Z → Pair
text_pair p = (string_bytes p.0, string_bytes p.1)

-- the pairs that a list of strings makes, in order
abbrev pub text_pairs : {Z : Type 0} → List (String Z × String Z) → List Pair
text_pairs pairs = map text_pair pairs

-- the text with each percent escape replaced by its byte, once, and then U+FFFD for
-- each sequence that is not UTF-8
unfoldable pub decoded_text : List ℕ → List ℕ
decoded_text text = utf8_lossy (percent_decode text)

-- no byte of the text is `%`, so nothing in it is escaped
abbrev pub HasNoEscape : List ℕ → Type 0
HasNoEscape text = All (λ b. b ≢ percent_sign) text

-- the byte is `&`
abbrev pub is_ampersand : ℕ → Bool
is_ampersand b = b == ampersand

-- the byte is `=`
abbrev pub is_equals_sign : ℕ → Bool
is_equals_sign b = b == equals_sign

-- what stands between the `&`s, without the empty pieces
abbrev pub query_pieces : List ℕ → List (List ℕ)
query_pieces query = filter (λ piece. not (length piece == 0)) (slice_split is_ampersand query)

-- a piece cut at its first `=`; where it has none, all of it is the key. `+` stays
abbrev pub read_pair : List ℕ → Pair
read_pair piece =
    (decoded_text (before_first is_equals_sign piece), decoded_text (after_first is_equals_sign piece))

-- the pairs of a query, in order
unfoldable pub query_pairs : List ℕ → List Pair
query_pairs query = map read_pair (query_pieces query)

-- how many bytes the keys and the values have together
abbrev pub query_length : List Pair → ℕ
query_length pairs = sum_by (λ p. length p.0 + length p.1) pairs
