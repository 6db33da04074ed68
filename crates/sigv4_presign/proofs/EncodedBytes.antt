-- The bytes that percent-encoding leaves and makes: unreserved ones, `%` and digits.
use Rattle.std.proofs.Common.{◌≡◌, ℕ, ◌<◌, Bool, true, ◌&&◌, ◌||◌, ◌==◌, inl, inr, List, [], ◌∷◌, All, IsAscii, refl, ap, ◌∙◌, arith}
use Rattle.std.proofs.lemmas.Bool.{agree_below, agree_below_at, cases_Bool, and_parts}
use Rattle.std.proofs.lemmas.Bool.Decides.{nat_tests}
use Rattle.std.proofs.lemmas.List.Elements.{All-nil, All-cons, All-append, All-weaker, All-head, All-tail}
use Rattle.std.proofs.lemmas.Str.Ascii.{IsAscii-from_all}
use Rattle.http_uri.specs.ByteClasses.{is_query_byte}
use Rattle.percent_encoding.specs.Percent.{percent_encode_byte}
use Rattle.percent_encoding.proofs.PercentLemmas.{IsEscapeByte, All-percent_encode_byte}
use Rattle.sigv4_canonical.specs.Encoding.{is_unreserved, percent_encoded}

-- an unreserved byte, or `%`
abbrev pub is_encoded_byte : ℕ → Bool
is_encoded_byte b = is_unreserved b || (b == 37)

abbrev pub AreUnreserved : List ℕ → Type 0
AreUnreserved text = All (λ b. is_unreserved b ≡ true) text

abbrev pub AreEncoded : List ℕ → Type 0
AreEncoded text = All (λ b. is_encoded_byte b ≡ true) text

unreserved_small : (b : ℕ) → is_unreserved b ≡ true → b < 128
unreserved_small b h = grind (arith, nat_tests)

pub encoded_small : (b : ℕ) → is_encoded_byte b ≡ true → b < 128
encoded_small b h = grind (arith, nat_tests)

-- what a table says of the bytes below 128 holds of those of a class that has no others
by_table : (class holds : ℕ → Bool) → agree_below (λ b. class b && holds b) class 128 ≡ true → (b : ℕ)
    → b < 128 → class b ≡ true → holds b ≡ true
by_table class holds table b low h = (and_parts (class b) (holds b) (agree_below_at (λ b. class b && holds b) class 128 b table low ∙ h)).1

pub encoded_is_query : (b : ℕ) → is_encoded_byte b ≡ true → is_query_byte b ≡ true
encoded_is_query b h = by_table is_encoded_byte is_query_byte refl b (encoded_small b h) h

pub unreserved_is_encoded : (b : ℕ) → is_unreserved b ≡ true → is_encoded_byte b ≡ true
unreserved_is_encoded b h = rw h refl

escape_is_encoded : (b : ℕ) → IsEscapeByte b → is_encoded_byte b ≡ true
escape_is_encoded b h = grind (arith, nat_tests)

pub percent_encoded-AreEncoded : (text : List ℕ) → AreEncoded (percent_encoded text)
unfolding percent_encoded
percent_encoded-AreEncoded [] = All-nil (λ b. is_encoded_byte b ≡ true)
percent_encoded-AreEncoded (b ∷ bs) =
    let Encoded : ℕ → Type 0 = λ b. is_encoded_byte b ≡ true in
    let rest = percent_encoded-AreEncoded bs in
    elim (cases_Bool (is_unreserved b)) [
      | inl kept ↦ rw kept (All-cons Encoded b (percent_encoded bs) (unreserved_is_encoded b kept) rest)
      | inr other ↦ rw other (All-append Encoded (percent_encode_byte b) (percent_encoded bs) (All-weaker IsEscapeByte Encoded escape_is_encoded (percent_encode_byte b) (All-percent_encode_byte b)) rest)
    ]

-- unreserved bytes are their own encoding
pub percent_encoded-AreUnreserved : (text : List ℕ) → AreUnreserved text → percent_encoded text ≡ text
unfolding percent_encoded
percent_encoded-AreUnreserved [] h = refl
percent_encoded-AreUnreserved (b ∷ bs) h =
    let kept = All-head (λ b. is_unreserved b ≡ true) b bs h in
    rw kept (ap (λ rest. b ∷ rest) (percent_encoded-AreUnreserved bs (All-tail (λ b. is_unreserved b ≡ true) b bs h)))

pub AreUnreserved-IsAscii : (text : List ℕ) → AreUnreserved text → IsAscii text
AreUnreserved-IsAscii text h = IsAscii-from_all text (All-weaker (λ b. is_unreserved b ≡ true) (λ b. b < 128) unreserved_small text h)
