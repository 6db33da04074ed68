-- The set of bytes that the code escapes has all that are not unreserved.
use Rattle.std.proofs.Common.{◌≡◌, ℕ, true, false, not, List, [], ◌∷◌, ◌++◌, refl, sym, ap, ap₂, ◌∙◌, inl, inr, arith, All}
use Rattle.std.proofs.lemmas.Bool.{agree_below, agree_below_at, cases_lt, cases_Bool}
use Rattle.std.proofs.lemmas.Bool.Decides.{nat_tests}
use Rattle.std.specs.List.{list_all}
use Rattle.std.proofs.lemmas.List.Sums.{AllPass-from_list_all}
use Rattle.percent_encoding.specs.AsciiSet.{contains, should_percent_encode}
use Rattle.percent_encoding.specs.Percent.{encode_byte, percent_encode, percent_decode}
use Rattle.percent_encoding.proofs.PercentLemmas.{IsByte, round_trip}
use Rattle.sigv4_canonical.specs.declared.encoding.TheConstants.{RESERVED}
use Rattle.sigv4_canonical.specs.Encoding.{is_unreserved, encoded_byte, percent_encoded, encoded_anew}

table : agree_below (contains RESERVED) (λ b. not (is_unreserved b)) 128 ≡ true
table = refl

-- below 128 by the table, and above because nothing there is unreserved
escaped : (b : ℕ) → should_percent_encode RESERVED b ≡ not (is_unreserved b)
unfolding should_percent_encode
escaped b =
    elim (cases_lt b 128) [
      | inl low ↦ let same = agree_below_at (contains RESERVED) (λ b. not (is_unreserved b)) 128 b table low in grind (arith, nat_tests, same)
      | inr high ↦ grind (arith, nat_tests)
    ]

same_byte : (b : ℕ) → encode_byte RESERVED b ≡ encoded_byte b
same_byte b =
    elim (cases_Bool (is_unreserved b)) [
      | inl kept ↦ rw (escaped b, kept) refl
      | inr other ↦ rw (escaped b, other) refl
    ]

-- the kit's encoding at that set is the standard's
pub percent_encode-RESERVED : (bytes : List ℕ) → percent_encode RESERVED bytes ≡ percent_encoded bytes
unfolding percent_encode percent_encoded
percent_encode-RESERVED [] = refl
percent_encode-RESERVED (b ∷ bytes) = ap₂ (λ x y. x ++ y) (same_byte b) (percent_encode-RESERVED bytes)

-- what was encoded is read back
pub percent_decode-percent_encoded : (bytes : List ℕ) → All IsByte bytes
    → percent_decode (percent_encoded bytes) ≡ bytes
percent_decode-percent_encoded bytes small = ap percent_decode (sym (percent_encode-RESERVED bytes)) ∙ round_trip RESERVED bytes refl small

-- unreserved bytes are bytes, and are encoded as themselves
unreserved_is_byte : (b : ℕ) → is_unreserved b ≡ true → IsByte b
unreserved_is_byte b e = grind (arith, nat_tests, e)

all_bytes : (bytes : List ℕ) → list_all is_unreserved bytes ≡ true → All IsByte bytes
all_bytes bytes e = λ k d within. unreserved_is_byte _ (AllPass-from_list_all is_unreserved bytes e k d within)

encoded_as_itself : (bytes : List ℕ) → list_all is_unreserved bytes ≡ true → percent_encoded bytes ≡ bytes
unfolding percent_encoded
encoded_as_itself [] e = refl
encoded_as_itself (b ∷ bytes) e =
    elim (cases_Bool (is_unreserved b)) [
      | inl kept ↦ rw kept (ap (λ bs. b ∷ bs) (encoded_as_itself bytes (rw kept at e)))
      | inr other ↦ absurd (let never : false ≡ true = rw other at e in cc)
    ]

-- unreserved bytes, decoded and encoded, are themselves
pub encoded_anew-unreserved : (bytes : List ℕ) → list_all is_unreserved bytes ≡ true
    → encoded_anew bytes ≡ bytes
encoded_anew-unreserved bytes e =
    let same = encoded_as_itself bytes e in
    let decoded : percent_decode bytes ≡ bytes = ap percent_decode (sym same) ∙ percent_decode-percent_encoded bytes (all_bytes bytes e) in
    ap percent_encoded decoded ∙ same
