-- A value's word and the value spell each other.
use Rattle.std.proofs.Common.{◌≡◌, ℕ, ◌+◌, ◌-◌, ◌*◌, ◌/◌, ◌%◌, ◌<◌, ◌≤◌, lit<, Bool, true, false, cond, not, ◌&&◌, eqb, leb, ltb, List, [], ◌∷◌, ◌++◌, Option, Some, None, refl, sym, ap, subst, ◌∙◌, inl, inr, arith}
use Rattle.std.specs.Prelude.{option_and_then}
use Rattle.std.specs.List.{list_all}
use Rattle.std.specs.Fmt.{digit_glyph}
use Rattle.std.proofs.lemmas.Bool.{cases_Bool, cases_lt, lt-ltb, le-ltb, le-leb, lt-leb, ltb-true, leb-true, eqb-true, and_parts, and_from}
use Rattle.line_words.specs.Bytes.{percent, zero_digit, nine_digit, upper_a, lower_a, is_byte, is_visible, is_digit, hex_digit}
use Rattle.line_words.specs.Escapes.{hex_pair, is_plain, value_word, escaped_byte, with_first_byte, value_of}
use Rattle.line_words.proofs.ReadingSteps.{some_is, chosen, passed_test, and_then_some}
use Rattle.line_words.proofs.HeadWords.{value_of-plain}

-- ---- digits

-- the letter that is the digit of ten, in upper or lower case
abbrev pub first_letter : Bool → ℕ
first_letter true = upper_a
first_letter false = lower_a

letters_beyond : (upper : Bool) → nine_digit < first_letter upper
letters_beyond true = lit< tt
letters_beyond false = lit< tt

glyph_low : (upper : Bool) (n : ℕ) → n < 10 → digit_glyph upper n ≡ zero_digit + n
glyph_low upper n low = rw (lt-ltb n 10 low) refl

glyph_high : (upper : Bool) (n : ℕ) → 10 ≤ n → digit_glyph upper n ≡ first_letter upper + (n - 10)
glyph_high true n high = rw (le-ltb n 10 high) (omega arith)
glyph_high false n high = rw (le-ltb n 10 high) (omega arith)

digit_reads : (letter n : ℕ) → n < 10 → hex_digit letter (zero_digit + n) ≡ Some n
digit_reads letter n low =
    let back : zero_digit + n - zero_digit ≡ n = omega arith in
    rw (le-leb zero_digit (zero_digit + n) (omega arith), le-leb (zero_digit + n) nine_digit (omega arith), back) refl

letter_reads : (letter n : ℕ) → nine_digit < letter → 10 ≤ n → n < 16
    → hex_digit letter (letter + (n - 10)) ≡ Some n
letter_reads letter n beyond high small =
    let back : letter + (n - 10) - letter + 10 ≡ n = omega arith in
    rw (le-leb zero_digit (letter + (n - 10)) (omega arith), lt-leb (letter + (n - 10)) nine_digit (omega arith), le-leb letter (letter + (n - 10)) (omega arith), le-leb (letter + (n - 10)) (letter + 5) (omega arith), back) refl

-- the digit of a number below 16 reads as it
pub hex_digit-glyph : (upper : Bool) (n : ℕ) → n < 16
    → hex_digit (first_letter upper) (digit_glyph upper n) ≡ Some n
hex_digit-glyph upper n small = elim (cases_lt n 10) [
  | inl low ↦ ap (hex_digit (first_letter upper)) (glyph_low upper n low) ∙ digit_reads (first_letter upper) n low
  | inr high ↦ ap (hex_digit (first_letter upper)) (glyph_high upper n high) ∙ letter_reads (first_letter upper) n (letters_beyond upper) high small
]

-- the byte is the digit of this number
abbrev IsDigit : Bool → ℕ → ℕ → Type 0
IsDigit upper b n = (n < 16) × (b ≡ digit_glyph upper n)

letter_some : (upper : Bool) (b n : ℕ)
    → cond (leb (first_letter upper) b && leb b (first_letter upper + 5)) (Some (b - first_letter upper + 10))
    None
    ≡ Some n
    → IsDigit upper b n
letter_some upper b n e =
    let p = passed_test (leb (first_letter upper) b && leb b (first_letter upper + 5)) (Some (b - first_letter upper + 10)) n e in
    let range = and_parts (leb (first_letter upper) b) (leb b (first_letter upper + 5)) p.0 in
    let low = leb-true (first_letter upper) b range.0 in
    let high = leb-true b (first_letter upper + 5) range.1 in
    let same : b - first_letter upper + 10 ≡ n = some_is (b - first_letter upper + 10) n p.1 in
    let back : b ≡ first_letter upper + (n - 10) = omega arith in
    (omega arith, back ∙ sym (glyph_high upper n (omega arith)))

-- a byte that reads as a number is its digit
pub hex_digit-some : (upper : Bool) (b n : ℕ) → hex_digit (first_letter upper) b ≡ Some n → IsDigit upper b n
hex_digit-some upper b n e = elim (chosen (is_digit b) (Some (b - zero_digit)) (cond (leb (first_letter upper) b && leb b (first_letter upper + 5)) (Some (b - first_letter upper + 10)) None) (Some n) e) [
  | inl here ↦
      let range = and_parts (leb zero_digit b) (leb b nine_digit) here.0 in
      let low = leb-true zero_digit b range.0 in
      let high = leb-true b nine_digit range.1 in
      let same : b - zero_digit ≡ n = some_is (b - zero_digit) n here.1 in
      let back : b ≡ zero_digit + n = omega arith in
      (omega arith, back ∙ sym (glyph_low upper n (omega arith)))
  | inr there ↦ letter_some upper b n there.1
]

-- ---- escapes

-- the digits of a byte that can't stand for itself represent it
pub escaped_byte-digits : (b : ℕ) → b < 256 → is_plain b ≡ false
    → escaped_byte (digit_glyph true (b / 16)) (digit_glyph true (b % 16)) ≡ Some b
escaped_byte-digits b small plain =
    let whole : 16 * (b / 16) + b % 16 ≡ b = omega arith in
    rw (hex_digit-glyph true (b / 16) (omega arith), hex_digit-glyph true (b % 16) (omega arith), whole, plain) refl

-- two digits represent a byte that can't stand for itself
pub record IsEscape (high low b : ℕ) : Type 0 where
  pub byte : b < 256
  pub plain : is_plain b ≡ false
  pub first : high ≡ digit_glyph true (b / 16)
  pub second : low ≡ digit_glyph true (b % 16)

-- digits that represent a byte are its digits
pub escaped_byte-some : (high low b : ℕ) → escaped_byte high low ≡ Some b → IsEscape high low b
escaped_byte-some high low b e =
    let h = and_then_some (λ (h : ℕ). option_and_then (λ (l : ℕ). cond (is_plain (16 * h + l)) None (Some (16 * h + l))) (hex_digit upper_a low)) (hex_digit upper_a high) b e in
    let l = and_then_some (λ (l : ℕ). cond (is_plain (16 * h.0 + l)) None (Some (16 * h.0 + l))) (hex_digit upper_a low) b h.2 in
    let first = hex_digit-some true high h.0 h.1 in
    let second = hex_digit-some true low l.0 l.1 in
    elim (chosen (is_plain (16 * h.0 + l.0)) None (Some (16 * h.0 + l.0)) (Some b) l.2) [
      | inl here ↦ absurd cc
      | inr there ↦
          let same : 16 * h.0 + l.0 ≡ b = some_is (16 * h.0 + l.0) b there.1 in
          let front : b / 16 ≡ h.0 = omega arith in
          let back : b % 16 ≡ l.0 = omega arith in
          record {
            byte = omega arith;
            plain = ap is_plain (sym same) ∙ there.0;
            first = first.1 ∙ ap (digit_glyph true) (sym front);
            second = second.1 ∙ ap (digit_glyph true) (sym back);
          }
    ]

-- ---- values

led_by_some : (b : ℕ) (o : Option (List ℕ)) (v : List ℕ) → with_first_byte b o ≡ Some v
    → (u : List ℕ) × (o ≡ Some u) × (b ∷ u ≡ v)
led_by_some b (Some u) v e = (u, refl, some_is (b ∷ u) v e)
led_by_some b None v e = absurd cc

byte_word : (b : ℕ) (v : List ℕ) (plain : Bool) → is_plain b ≡ plain → b < 256
    → value_of (value_word v) ≡ Some v → value_of (value_word (b ∷ v)) ≡ Some (b ∷ v)
byte_word b v true plain small read = rw plain (value_of-plain b (value_word v) plain ∙ ap (with_first_byte b) read)
byte_word b v false plain small read = rw (plain, escaped_byte-digits b small plain, read) refl

-- what is written of a value reads as that value
pub value_of-word : (v : List ℕ) → list_all is_byte v ≡ true → value_of (value_word v) ≡ Some v
value_of-word [] bytes = refl
value_of-word (b ∷ v) bytes =
    let parts = and_parts (ltb b 256) (list_all is_byte v) bytes in
    byte_word b v (is_plain b) refl (ltb-true b 256 parts.0) (value_of-word v parts.1)

-- ---- what reads as a value is its word

-- the word is the value's, which is of bytes
abbrev pub SpellsValue : List ℕ → List ℕ → Type 0
SpellsValue word v = (word ≡ value_word v) × (list_all is_byte v ≡ true)

plain_is_byte : (b : ℕ) → is_plain b ≡ true → is_byte b ≡ true
plain_is_byte b plain =
    let visible = (and_parts (is_visible b) (not (eqb b percent)) plain).0 in
    let high = leb-true b 126 (and_parts (leb 33 b) (leb b 126) visible).1 in
    lt-ltb b 256 (omega arith)

plain_first : (b : ℕ) (after v : List ℕ) → is_plain b ≡ true
    → ((u : List ℕ) → value_of after ≡ Some u → SpellsValue after u) → value_of (b ∷ after) ≡ Some v
    → SpellsValue (b ∷ after) v
plain_first b after v plain rest e =
    let parts = led_by_some b (value_of after) v (sym (value_of-plain b after plain) ∙ e) in
    let u = parts.0 in
    let spelled = rest parts.0 parts.1 in
    let written : value_word (b ∷ u) ≡ b ∷ value_word u = rw plain refl in
    subst (λ (w : List ℕ). SpellsValue (b ∷ after) w) parts.2 (ap (λ (w : List ℕ). b ∷ w) spelled.0 ∙ sym written, and_from (is_byte b) (list_all is_byte u) (plain_is_byte b plain) spelled.1)

escape_made : (b c d x : ℕ) (after u : List ℕ) → b ≡ percent → IsEscape c d x → SpellsValue after u
    → SpellsValue (b ∷ c ∷ d ∷ after) (x ∷ u)
escape_made b c d x after u mark escape spelled =
    let written : value_word (x ∷ u) ≡ percent ∷ hex_pair true x ++ value_word u = rw (escape.plain) refl in
    let read : b ∷ c ∷ d ∷ after ≡ percent ∷ hex_pair true x ++ value_word u = cc (mark, escape.first, escape.second, spelled.0) in
    (read ∙ sym written, and_from (is_byte x) (list_all is_byte u) (lt-ltb x 256 escape.byte) spelled.1)

escape_first : (b c d : ℕ) (after v : List ℕ) → is_plain b ≡ false
    → ((u : List ℕ) → value_of after ≡ Some u → SpellsValue after u) → value_of (b ∷ c ∷ d ∷ after) ≡ Some v
    → SpellsValue (b ∷ c ∷ d ∷ after) v
escape_first b c d after v plain rest e =
    let mark = passed_test (eqb b percent) (option_and_then (λ (x : ℕ). with_first_byte x (value_of after)) (escaped_byte c d)) v (rw plain at e) in
    let x = and_then_some (λ (x : ℕ). with_first_byte x (value_of after)) (escaped_byte c d) v mark.1 in
    let parts = led_by_some x.0 (value_of after) v x.2 in
    subst (λ (w : List ℕ). SpellsValue (b ∷ c ∷ d ∷ after) w) parts.2
    (escape_made b c d x.0 after parts.0 (eqb-true b percent mark.0) (escaped_byte-some c d x.0 x.1) (rest parts.0 parts.1))

-- a word that reads as a value is its word
pub value_of-some : (word v : List ℕ) → value_of word ≡ Some v → SpellsValue word v
value_of-some [] v e = subst (λ (w : List ℕ). SpellsValue [] w) (some_is [] v e) (refl, refl)
value_of-some (b ∷ []) v e =
    let plain = (passed_test (is_plain b) (Some (b ∷ [])) v e).0 in
    plain_first b [] v plain (value_of-some []) e
value_of-some (b ∷ c ∷ []) v e =
    let plain = (passed_test (is_plain b) (with_first_byte b (value_of (c ∷ []))) v e).0 in
    plain_first b (c ∷ []) v plain (value_of-some (c ∷ [])) e
value_of-some (b ∷ c ∷ d ∷ after) v e = elim (cases_Bool (is_plain b)) [
  | inl plain ↦ plain_first b (c ∷ d ∷ after) v plain (value_of-some (c ∷ d ∷ after)) e
  | inr plain ↦ escape_first b c d after v plain (value_of-some after) e
]
