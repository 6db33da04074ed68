-- A word of bytes and the bytes spell each other.
use Rattle.std.proofs.Common.{◌≡◌, ◌≢◌, ℕ, zero, suc, ◌+◌, ◌*◌, ◌/◌, ◌%◌, ◌<◌, ◌==◌, Bool, true, false, leb, ltb, List, [], ◌∷◌, length, slice_index, Option, Some, None, Result, Ok, Err, is_some, refl, sym, ap, subst, ◌∙◌, inl, inr, arith}
use Rattle.std.specs.List.{list_all}
use Rattle.std.specs.Result.{result_ok}
use Rattle.std.specs.Fmt.{digit_glyph}
use Rattle.std.specs.Str.{bytes_eq, IsAscii, IsUtf8}
use Rattle.std.proofs.lemmas.Bool.{leb-true, lt-ltb, ltb-true, eqb-true, and_parts, and_from, cases_Bool, false≢true}
use Rattle.std.proofs.lemmas.Slice.Eq.{bytes_eq-Decides}
use Rattle.std.proofs.lemmas.Str.{IsUtf8-from_ascii}
use Rattle.std.proofs.lemmas.Str.Ascii.{IsAscii-nil, IsAscii-cons}
use Rattle.base64.proofs.Tables.{all_below_at}
use Rattle.hex.specs.Hex.{IsBytes, decode_of, decode_pairs, digit_or_error, hex_digit_value, encode_lower, encode_with, lower_digits, pair_value, value_at, ◌>>=◌}
use Rattle.hex.specs.declared.error.FromHexError.{FromHexError}
use Rattle.hex.proofs.HexLemmas.{IsDigits-lower_digits, decode_of-encode_lower, decode_of-even, decode_of-ok}
use Rattle.line_words.specs.Bytes.{lower_a, is_byte, is_visible, hex_digit}
use Rattle.line_words.specs.Words.{is_target}
use Rattle.line_words.proofs.ReadingSteps.{some_is, chosen, passed_test, same_word}
use Rattle.line_words.proofs.Values.{hex_digit-some}
use Rattle.signctl_by_line.specs.BytesWords.{dash_word, text_word, hex_word, is_lower_hex, is_hex_word, bytes_of, text_of}

-- ---- digits

-- the digit at each place of the table
digit_at : (d : ℕ) → d < 16 → slice_index lower_digits d ≡ digit_glyph false d
digit_at d small = eqb-true (slice_index lower_digits d) (digit_glyph false d) (all_below_at (λ d. slice_index lower_digits d == digit_glyph false d) 16 d refl small)

-- it is lower-case
lower_at : (d : ℕ) → d < 16 → is_lower_hex (slice_index lower_digits d) ≡ true
lower_at d small = all_below_at (λ d. is_lower_hex (slice_index lower_digits d)) 16 d refl small

-- it is visible
visible_at : (d : ℕ) → d < 16 → is_visible (slice_index lower_digits d) ≡ true
visible_at d small = all_below_at (λ d. is_visible (slice_index lower_digits d)) 16 d refl small

some_from : (o : Option ℕ) → is_some o ≡ true → (n : ℕ) × (o ≡ Some n)
some_from (Some n) e = (n, refl)
some_from None e = absurd cc

-- a lower-case digit stands in the table at the place that it reads as
place_of : (c v : ℕ) → is_lower_hex c ≡ true → hex_digit_value c ≡ Some v
    → (v < 16) × (c ≡ slice_index lower_digits v)
place_of c v lower e =
    let n = some_from (hex_digit lower_a c) lower in
    let digit = hex_digit-some false c n.0 n.1 in
    let here : c ≡ slice_index lower_digits n.0 = digit.1 ∙ sym (digit_at n.0 digit.0) in
    let same : n.0 ≡ v = some_is n.0 v (sym (ap hex_digit_value here ∙ IsDigits-lower_digits n.0 digit.0) ∙ e) in
    subst (λ (m : ℕ). (m < 16) × (c ≡ slice_index lower_digits m)) same (digit.0, here)

-- ---- bytes and their digits

each_byte : (bytes : List ℕ) → list_all is_byte bytes ≡ true → IsBytes bytes
each_byte [] all i = omega arith
each_byte (b ∷ bytes) all zero =
    let parts = and_parts (is_byte b) (list_all is_byte bytes) all in
    ltb-true b 256 parts.0
each_byte (b ∷ bytes) all (suc i) =
    let parts = and_parts (is_byte b) (list_all is_byte bytes) all in
    each_byte bytes parts.1 i

-- each byte's digits pass a test that all digits pass
digits_pass : (p : ℕ → Bool) → ((d : ℕ) → d < 16 → p (slice_index lower_digits d) ≡ true) → (bytes : List ℕ)
    → list_all is_byte bytes ≡ true → list_all p (encode_lower bytes) ≡ true
unfolding encode_with
digits_pass p each [] all = refl
digits_pass p each (b ∷ bytes) all =
    let parts = and_parts (is_byte b) (list_all is_byte bytes) all in
    let small : b < 256 = ltb-true b 256 parts.0 in
    rw (each (b / 16) (omega arith), each (b % 16) (omega arith)) (digits_pass p each bytes parts.1)

digit_read : (c i : ℕ) (o : Option ℕ) (v : ℕ) → digit_or_error c i o ≡ Ok v → o ≡ Some v
digit_read c i (Some w) v e = cc
digit_read c i None v e = absurd cc

bind_ok : {A B : Type 0} (r : Result A FromHexError) (f : A → Result B FromHexError) (y : B)
    → (r >>= f) ≡ Ok y → (x : A) × (r ≡ Ok x) × (f x ≡ Ok y)
bind_ok (Ok x) f y e = (x, refl, e)
bind_ok (Err why) f y e = absurd cc

-- the pair of digits at a byte
abbrev IsPair : ℕ → ℕ → ℕ → Type 0
IsPair high low b = (is_byte b ≡ true) × (high ≡ slice_index lower_digits (b / 16)) × (low ≡ slice_index lower_digits (b % 16))

pair_read : (high low i b : ℕ) → is_lower_hex high ≡ true → is_lower_hex low ≡ true
    → pair_value high low i ≡ Ok b → IsPair high low b
pair_read high low i b first second e =
    let h = bind_ok (value_at high i) (λ (h : ℕ). value_at low (i + 1) >>= λ (l : ℕ). Ok (h * 16 + l)) b e in
    let l = bind_ok (value_at low (i + 1)) (λ (l : ℕ). Ok (h.0 * 16 + l)) b h.2 in
    let front = place_of high h.0 first (digit_read high i (hex_digit_value high) h.0 h.1) in
    let back = place_of low l.0 second (digit_read low (i + 1) (hex_digit_value low) l.0 l.1) in
    let whole : h.0 * 16 + l.0 ≡ b = cc in
    let high_is : b / 16 ≡ h.0 = omega (arith, front.0, back.0) in
    let low_is : b % 16 ≡ l.0 = omega (arith, front.0, back.0) in
    (lt-ltb b 256 (omega (arith, front.0, back.0)), front.1 ∙ ap (slice_index lower_digits) (sym high_is), back.1 ∙ ap (slice_index lower_digits) (sym low_is))

-- the digits are those of the bytes
abbrev AreDigits : List ℕ → List ℕ → Type 0
AreDigits digits bytes = (digits ≡ encode_lower bytes) × (list_all is_byte bytes ≡ true)

pair_first : (high low b : ℕ) (digits bytes : List ℕ) → IsPair high low b → AreDigits digits bytes
    → AreDigits (high ∷ low ∷ digits) (b ∷ bytes)
unfolding encode_with
pair_first high low b digits bytes pair rest = (cc (pair.1, pair.2, rest.0), and_from (is_byte b) (list_all is_byte bytes) pair.0 rest.1)

digits_read : (i : ℕ) (digits bytes : List ℕ) → list_all is_lower_hex digits ≡ true
    → decode_pairs i digits ≡ Ok bytes → AreDigits digits bytes
unfolding decode_pairs encode_with
digits_read i [] bytes lower e =
    let none : [] ≡ bytes = cc in
    subst (λ (o : List ℕ). AreDigits [] o) none (refl, refl)
digits_read i (digit ∷ []) bytes lower e = absurd cc
digits_read i (high ∷ low ∷ digits) bytes lower e =
    let first = and_parts (is_lower_hex high) (list_all is_lower_hex (low ∷ digits)) lower in
    let second = and_parts (is_lower_hex low) (list_all is_lower_hex digits) first.1 in
    let b = bind_ok (pair_value high low i) (λ (b : ℕ). decode_pairs (i + 2) digits >>= λ (rest : List ℕ). Ok (b ∷ rest)) bytes e in
    let rest = bind_ok (decode_pairs (i + 2) digits) (λ (rest : List ℕ). Ok (b.0 ∷ rest)) bytes b.2 in
    let whole : b.0 ∷ rest.0 ≡ bytes = cc in
    subst (λ (o : List ℕ). AreDigits (high ∷ low ∷ digits) o) whole
    (pair_first high low b.0 digits rest.0 (pair_read high low i b.0 first.0 second.0 b.1) (digits_read (i + 2) digits rest.0 second.1 rest.1))

-- ---- words

ok_some : {A E : Type 0} (r : Result A E) (x : A) → result_ok r ≡ Some x → r ≡ Ok x
ok_some (Ok y) x e = ap Ok (some_is y x e)
ok_some (Err why) x e = absurd cc

-- words that are not the same fail the test
other_word : (a b : List ℕ) → a ≢ b → bytes_eq a b ≡ false
other_word a b other = elim (cases_Bool (bytes_eq a b)) [
  | inl same ↦ absurd (other (same_word a b same))
  | inr differ ↦ differ
]

-- digits that are not none are a word
whole_word : (digits : List ℕ) → 0 < length digits → digits ≡ text_word digits
whole_word [] some = absurd (omega arith)
whole_word (b ∷ digits) some = refl

-- the word of a visible text is visible
pub visible_text : (text : List ℕ) → list_all is_visible text ≡ true
    → list_all is_visible (text_word text) ≡ true
visible_text [] all = refl
visible_text (b ∷ text) all = all

-- the word of some bytes reads as them
pub bytes_of-word : (bytes : List ℕ) → list_all is_byte bytes ≡ true → bytes_of (hex_word bytes) ≡ Some bytes
unfolding bytes_of encode_with
bytes_of-word [] all = refl
bytes_of-word (b ∷ bytes) all =
    let digits = digits_pass is_lower_hex lower_at (b ∷ bytes) all in
    let read = decode_of-encode_lower (b ∷ bytes) (each_byte (b ∷ bytes) all) in
    rw (other_word (encode_lower (b ∷ bytes)) dash_word (λ same. absurd cc), lt-ltb 0 (length (encode_lower (b ∷ bytes))) (omega arith), digits, read) refl

-- a word that reads as bytes is their word
pub bytes_of-some : (word bytes : List ℕ) → bytes_of word ≡ Some bytes
    → (word ≡ hex_word bytes) × (list_all is_byte bytes ≡ true)
unfolding bytes_of encode_with
bytes_of-some word bytes e = elim (chosen (bytes_eq word dash_word) (Some []) _ (Some bytes) e) [
  | inl here ↦ subst (λ (o : List ℕ). (word ≡ hex_word o) × (list_all is_byte o ≡ true)) (some_is [] bytes here.1) (same_word word dash_word here.0, refl)
  | inr there ↦
      let p = passed_test (is_hex_word word) (result_ok (decode_of word)) bytes there.1 in
      let lower = and_parts (ltb 0 (length word)) (list_all is_lower_hex word) p.0 in
      let read = ok_some (decode_of word) bytes p.1 in
      let even = (decode_of-ok word bytes read).0 in
      let digits = digits_read 0 word bytes lower.1 (sym (decode_of-even word even) ∙ read) in
      (digits.0 ∙ whole_word (encode_lower bytes) (subst (λ (w : List ℕ). 0 < length w) digits.0 (ltb-true 0 (length word) lower.0)), digits.1)
]

-- a word of bytes is visible
pub visible_bytes : (bytes : List ℕ) → list_all is_byte bytes ≡ true
    → list_all is_visible (hex_word bytes) ≡ true
visible_bytes bytes all = visible_text (encode_lower bytes) (digits_pass is_visible visible_at bytes all)

-- the word of a visible text reads as it
pub text_of-word : (text : List ℕ) → list_all is_visible text ≡ true → text ≢ dash_word
    → text_of (text_word text) ≡ Some text
unfolding text_of
text_of-word [] all other = refl
text_of-word (b ∷ text) all other = rw (other_word (b ∷ text) dash_word other, lt-ltb 0 (length (b ∷ text)) (omega arith), all) refl

-- a word that reads as a text is its word
pub text_of-some : (word text : List ℕ) → text_of word ≡ Some text
    → (word ≡ text_word text) × (list_all is_visible text ≡ true) × (text ≢ dash_word)
unfolding text_of
text_of-some word text e = elim (chosen (bytes_eq word dash_word) (Some []) _ (Some text) e) [
  | inl here ↦ subst (λ (o : List ℕ). (word ≡ text_word o) × (list_all is_visible o ≡ true) × (o ≢ dash_word)) (some_is [] text here.1) (same_word word dash_word here.0, refl, λ same. absurd cc)
  | inr there ↦
      let p = passed_test (is_target word) (Some word) text there.1 in
      let target = and_parts (ltb 0 (length word)) (list_all is_visible word) p.0 in
      subst (λ (o : List ℕ). (word ≡ text_word o) × (list_all is_visible o ≡ true) × (o ≢ dash_word)) (some_is word text p.1)
      (whole_word word (ltb-true 0 (length word) target.0), target.1, λ same. absurd (false≢true (sym there.0 ∙ (bytes_eq-Decides word dash_word).1 same)))
]

is_ascii : (text : List ℕ) → list_all is_visible text ≡ true → IsAscii text
is_ascii [] all = IsAscii-nil
is_ascii (b ∷ text) all =
    let parts = and_parts (is_visible b) (list_all is_visible text) all in
    let high = leb-true b 0x7e (and_parts (leb 0x21 b) (leb b 0x7e) parts.0).1 in
    IsAscii-cons b text (omega (arith, high)) (is_ascii text parts.1)

-- visible bytes are text
pub visible_is_text : (text : List ℕ) → list_all is_visible text ≡ true → IsUtf8 text
visible_is_text text all = IsUtf8-from_ascii text (is_ascii text all)
