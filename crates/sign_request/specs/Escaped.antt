-- Pairs with every byte escaped, as a query can hold any text.
use Rattle.std.specs.Prelude.{ℕ, List, [], ◌∷◌, ◌++◌, map, IsUtf8}
use Rattle.std.specs.List.{flat_map, AllByRecursion}
use Rattle.percent_encoding.specs.Percent.{percent_encode_byte}
use Rattle.sign_base.specs.Bytes.{ampersand, equals_sign}
use Rattle.sign_request.specs.Query.{Pair}
use Rattle.sign_request.specs.CanonicalText.{joined_texts}

-- each byte as `%` and two hexadecimal digits
abbrev pub escaped_text : List ℕ → List ℕ
escaped_text text = flat_map percent_encode_byte text

-- key, `=`, value, with each byte of both escaped
abbrev pub escaped_pair : Pair → List ℕ
escaped_pair p = escaped_text p.0 ++ equals_sign ∷ escaped_text p.1

-- the pairs joined by `&`
abbrev pub escaped_query : List Pair → List ℕ
escaped_query pairs = joined_texts (ampersand ∷ []) (map escaped_pair pairs)

-- key and value are text
abbrev pub AreTexts : List Pair → Type 0
AreTexts pairs = AllByRecursion (λ p. IsUtf8 p.0 × IsUtf8 p.1) pairs
