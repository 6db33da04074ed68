-- A pair that is written as a piece of a query is read back.
use Rattle.std.proofs.Common.{◌≡◌, ◌≢◌, ℕ, ◌+◌, ◌<◌, Bool, true, false, inl, inr, List, [], ◌∷◌, ◌++◌, length, map, filter, take, drop, All, IsAscii, refl, sym, ap, ap₂, subst, ◌∙◌, arith, length-append}
use Rattle.std.specs.List.{before_first, after_first, position_or_len}
use Rattle.std.specs.Str.Lossy.{utf8_lossy}
use Rattle.std.proofs.Math.Seq.{append_snoc}
use Rattle.std.proofs.lemmas.Bool.{cases_Bool}
use Rattle.std.proofs.lemmas.Bool.Decides.{nat_tests}
use Rattle.std.proofs.lemmas.List.{take_at, drop_at, drop-drop}
use Rattle.std.proofs.lemmas.List.Elements.{All-nil, All-cons, All-append, All-weaker, All-head, All-tail}
use Rattle.std.proofs.lemmas.Str.{IsUtf8-from_ascii, utf8_lossy-IsUtf8}
use Rattle.std.proofs.lemmas.Str.Ascii.{All-from_ascii}
use Rattle.percent_encoding.proofs.PercentLemmas.{IsByte}
use Rattle.sign_request.specs.Query.{Pair, decoded_text, is_ampersand, is_equals_sign, read_pair}
use Rattle.sign_request.proofs.Unescaped.{percent_decode-unescaped}
use Rattle.sigv4_canonical.specs.Encoding.{is_unreserved, percent_encoded}
use Rattle.sigv4_presign.specs.LinkPairs.{pair_piece}
use Rattle.sigv4_presign.proofs.EncodedBytes.{is_encoded_byte, AreUnreserved, unreserved_is_encoded, percent_encoded-AreEncoded, AreUnreserved-IsAscii}
use Rattle.sigv4_presign.proofs.LinkReadBack.{first_mark}
use Rattle.sigv4_presign.proofs.QueryPieces.{IsPiece}
use Rattle.sigv4_presign.proofs.ValuesReadBack.{decoded_text-percent_encoded}

-- a name that needs no escape, and a value of ASCII
pub record IsPlainPair (p : Pair) : Type 0 where
  pub name : AreUnreserved p.0
  pub value : IsAscii p.1

no_equals_sign : (b : ℕ) → is_unreserved b ≡ true → is_equals_sign b ≡ false
no_equals_sign b h = grind (arith, nat_tests)

no_percent_sign : (b : ℕ) → is_unreserved b ≡ true → b ≢ 37
no_percent_sign b h = λ same. let bad : is_unreserved 37 ≡ true = rw same at h in cc

no_ampersand : (b : ℕ) → is_encoded_byte b ≡ true → is_ampersand b ≡ false
no_ampersand b h = grind (arith, nat_tests)

small_byte : (b : ℕ) → b < 128 → IsByte b
small_byte b h = omega arith

name_decoded : (name : List ℕ) → AreUnreserved name → decoded_text name ≡ name
unfolding decoded_text
name_decoded name h =
    ap utf8_lossy (percent_decode-unescaped name (All-weaker (λ b. is_unreserved b ≡ true) (λ b. b ≢ 37) no_percent_sign name h))
    ∙ utf8_lossy-IsUtf8 name (IsUtf8-from_ascii name (AreUnreserved-IsAscii name h))

value_decoded : (value : List ℕ) → IsAscii value → decoded_text (percent_encoded value) ≡ value
value_decoded value h = decoded_text-percent_encoded value (All-weaker (λ b. b < 128) IsByte small_byte value (All-from_ascii value h)) (IsUtf8-from_ascii value h)

-- a piece is the name, `=` and the value
pub pair_piece-is : (p : Pair) → pair_piece p ≡ p.0 ++ 61 ∷ percent_encoded p.1
pair_piece-is p = append_snoc p.0 61 (percent_encoded p.1)

module _ (p : Pair) (h : IsPlainPair p) where
  abbrev piece : List ℕ
  piece = p.0 ++ 61 ∷ percent_encoded p.1

  mark_at : position_or_len is_equals_sign piece ≡ length p.0
  mark_at = first_mark is_equals_sign p.0 61 (percent_encoded p.1) (All-weaker (λ b. is_unreserved b ≡ true) (λ b. is_equals_sign b ≡ false) no_equals_sign p.0 h.name) refl

  before_mark : before_first is_equals_sign (pair_piece p) ≡ p.0
  before_mark =
      ap (before_first is_equals_sign) (pair_piece-is p)
      ∙ (ap (λ n. take n piece) mark_at ∙ take_at p.0 (61 ∷ percent_encoded p.1) (length p.0) refl)

  after_mark : after_first is_equals_sign (pair_piece p) ≡ percent_encoded p.1
  after_mark =
      ap (after_first is_equals_sign) (pair_piece-is p)
      ∙ (ap (λ n. drop (n + 1) piece) mark_at
      ∙ (sym (drop-drop 1 (length p.0) piece) ∙ ap (drop 1) (drop_at p.0 (61 ∷ percent_encoded p.1) (length p.0) refl)))

  pub read_pair-pair_piece : read_pair (pair_piece p) ≡ p
  read_pair-pair_piece = λ i. ((ap decoded_text before_mark ∙ name_decoded p.0 h.name) i, (ap decoded_text after_mark ∙ value_decoded p.1 h.value) i)

-- what holds of each encoded byte and of `=` holds of each byte of a piece
pub All-pair_piece : (P : ℕ → Type 0) → ((b : ℕ) → is_encoded_byte b ≡ true → P b) → P 61 → (p : Pair)
    → IsPlainPair p → All P (pair_piece p)
All-pair_piece P encoded equals p h =
    subst (All P) (sym (pair_piece-is p))
    (All-append P p.0 (61 ∷ percent_encoded p.1)
    (All-weaker (λ b. is_unreserved b ≡ true) P (λ b kept. encoded b (unreserved_is_encoded b kept)) p.0 h.name)
    (All-cons P 61 (percent_encoded p.1) equals (All-weaker (λ b. is_encoded_byte b ≡ true) P encoded (percent_encoded p.1) (percent_encoded-AreEncoded p.1))))

pub pair_piece-IsPiece : (p : Pair) → IsPlainPair p → IsPiece (pair_piece p)
pair_piece-IsPiece p h =
    let long = ap length (pair_piece-is p) ∙ length-append p.0 (61 ∷ percent_encoded p.1) in
    record { whole = All-pair_piece (λ b. is_ampersand b ≡ false) no_ampersand refl p h; some = omega (arith, long) }

-- the pieces of pairs are read as these, and a filter on what is read keeps the pieces of what it keeps
pub read-pieces : (pairs : List Pair) → All IsPlainPair pairs → map read_pair (map pair_piece pairs) ≡ pairs
read-pieces [] h = refl
read-pieces (p ∷ ps) h = ap₂ (λ (x : Pair) (xs : List Pair). x ∷ xs) (read_pair-pair_piece p (All-head IsPlainPair p ps h)) (read-pieces ps (All-tail IsPlainPair p ps h))

pub filter-pieces : (test : Pair → Bool) (pairs : List Pair) → All IsPlainPair pairs
    → filter (λ piece. test (read_pair piece)) (map pair_piece pairs) ≡ map pair_piece (filter test pairs)
filter-pieces test [] h = refl
filter-pieces test (p ∷ ps) h =
    let read = ap test (read_pair-pair_piece p (All-head IsPlainPair p ps h)) in
    let rest = filter-pieces test ps (All-tail IsPlainPair p ps h) in
    elim (cases_Bool (test p)) [
      | inl passes ↦ let kept : test (read_pair (pair_piece p)) ≡ true = read ∙ passes in rw (kept, passes) (ap (λ pieces. pair_piece p ∷ pieces) rest)
      | inr fails ↦ let left : test (read_pair (pair_piece p)) ≡ false = read ∙ fails in rw (left, fails) rest
    ]

pub All-pieces : (pairs : List Pair) → All IsPlainPair pairs → All IsPiece (map pair_piece pairs)
All-pieces [] h = All-nil IsPiece
All-pieces (p ∷ ps) h = All-cons IsPiece (pair_piece p) (map pair_piece ps) (pair_piece-IsPiece p (All-head IsPlainPair p ps h)) (All-pieces ps (All-tail IsPlainPair p ps h))
