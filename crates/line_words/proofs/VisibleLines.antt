-- Numbers, moments and heads have visible words, and a line of visible words parts into them.
use Rattle.std.proofs.Common.{◌≡◌, ℕ, ◌+◌, ◌/◌, ◌%◌, ◌<◌, ◌^◌, Bool, true, false, not, eqb, leb, ltb, List, [], ◌∷◌, ◌++◌, map, length, Option, Some, None, refl, ap, ◌∙◌, arith, lit<, inl, inr, append-nil}
use Rattle.std.specs.Prelude.{ℤ, pos, negsuc}
use Rattle.std.specs.List.{list_all, list_any}
use Rattle.std.specs.Fmt.{decimal, digit_glyph}
use Rattle.std.specs.declared.time.Duration.{Duration}
use Rattle.std.proofs.lemmas.Bool.{cases_Bool, cases_lt, ne_eqb, le-leb, leb-true, lt-ltb, le-ltb, ltb-true, and_parts, and_from}
use Rattle.sign_base.specs.declared.head.Field.{Field}
use Rattle.sign_base.specs.declared.head.Head.{Head}
use Rattle.sign_base.specs.declared.head.Version.{Version}
use Rattle.sign_base.specs.declared.head.Version.TheVariants.{V09, V10, V11, V2, V3}
use Rattle.line_words.specs.declared.moment.ScriptVersion.{ScriptVersion}
use Rattle.line_words.specs.declared.moment.ScriptVersion.TheVariants.{One, Two}
use Rattle.line_words.specs.Bytes.{space, percent, colon, is_byte, is_visible, is_digit}
use Rattle.line_words.specs.Words.{is_space, words, spaced_words, line_of, is_target, greatest_u64}
use Rattle.line_words.specs.Moments.{last_second, nanos_of_second, fraction_digits, fraction_word, in_nanos, IsLineTime, time_word, moment_word, IsLineMoment, duration_word, IsLineDuration}
use Rattle.line_words.specs.Escapes.{byte_or_escape, with_escapes, is_plain, value_word}
use Rattle.line_words.specs.Heads.{is_colon, is_name, field_word, is_field, version_word, head_words, IsLineHead}
use Rattle.line_words.proofs.VisibleWords.{all_wider, all_both, digit_visible, decimal_of_digits}
use Rattle.line_words.proofs.Fractions.{fraction_of_digits}
use Rattle.line_words.proofs.Seconds.{moment_word-pos}

-- whether all bytes of a word are visible
abbrev pub is_visible_word : List ℕ → Bool
is_visible_word word = list_all is_visible word

-- all bytes of all these words are visible
pub record AreVisibleWords (ws : List (List ℕ)) : Type 0 where
  pub all : list_all is_visible_word ws ≡ true

-- ---- lines of visible words have those words

visible_no_space : (b : ℕ) → is_visible b ≡ true → is_space b ≡ false
visible_no_space b visible =
    let low = leb-true 0x21 b (and_parts (leb 0x21 b) (leb b 0x7e) visible).0 in
    ne_eqb b space (λ e. absurd (omega (arith, low, e)))

last_word : (word : List ℕ) → is_visible_word word ≡ true → words word ≡ word ∷ []
last_word [] visible = refl
last_word (b ∷ word) visible =
    let parts = and_parts (is_visible b) (list_all is_visible word) visible in
    rw (visible_no_space b parts.0, last_word word parts.1) refl

first_word_of : (word rest : List ℕ) → is_visible_word word ≡ true
    → words (word ++ space ∷ rest) ≡ word ∷ words rest
first_word_of [] rest visible = refl
first_word_of (b ∷ word) rest visible =
    let parts = and_parts (is_visible b) (list_all is_visible word) visible in
    rw (visible_no_space b parts.0, first_word_of word rest parts.1) refl

words_of : (word : List ℕ) (rest : List (List ℕ)) → list_all is_visible_word (word ∷ rest) ≡ true
    → words (line_of (word ∷ rest)) ≡ word ∷ rest
words_of word [] visible =
    let parts = and_parts (is_visible_word word) true visible in
    ap words (append-nil word) ∙ last_word word parts.0
words_of word (next ∷ rest) visible =
    let parts = and_parts (is_visible_word word) (list_all is_visible_word (next ∷ rest)) visible in
    first_word_of word (next ++ spaced_words rest) parts.0 ∙ ap (λ (ws : List (List ℕ)). word ∷ ws) (words_of next rest parts.1)

-- the line of one or more visible words parts into them
pub words_of_line : {word : List ℕ} {rest : List (List ℕ)} → AreVisibleWords (word ∷ rest)
    → words (line_of (word ∷ rest)) ≡ word ∷ rest
words_of_line {word} {rest} visible = words_of word rest visible.all

-- ---- words are visible

-- no words
pub no_words : AreVisibleWords []
no_words = record { all = refl }

-- one more visible word
pub one_word : {word : List ℕ} {rest : List (List ℕ)} → is_visible_word word ≡ true → AreVisibleWords rest
    → AreVisibleWords (word ∷ rest)
one_word {word} {rest} first others = record { all = and_from (is_visible_word word) (list_all is_visible_word rest) first others.all }

-- the word of a number is visible
pub visible_number : (n : ℕ) → n < 2 ^ 64 → is_visible_word (decimal n) ≡ true
visible_number n small = all_wider is_digit is_visible digit_visible (decimal n) (decimal_of_digits n small)

visible_fraction : (n : ℕ) → n < nanos_of_second → is_visible_word (fraction_word n) ≡ true
visible_fraction n below = elim (cases_Bool (eqb n 0)) [
  | inl none ↦ rw none refl
  | inr some ↦ rw some (all_wider is_digit is_visible digit_visible (fraction_digits 9 n) (fraction_of_digits 9 n below))
]

visible_time : (version : ScriptVersion) (limit : ℕ) (time : Duration) → limit < 2 ^ 64
    → IsLineTime version limit time → is_visible_word (time_word version time) ≡ true
visible_time One limit time wide fits = visible_number time.secs (omega (arith, fits.within))
visible_time Two limit time wide fits = all_both is_visible (decimal time.secs) (fraction_word time.nanos) (visible_number time.secs (omega (arith, fits.within))) (visible_fraction time.nanos fits.below)

-- the word of a moment is visible
pub visible_moment : (version : ScriptVersion) (t : ℤ) → IsLineMoment version t
    → is_visible_word (moment_word version t) ≡ true
visible_moment version (pos n) fits = ap is_visible_word (moment_word-pos version n) ∙ visible_time version last_second (in_nanos n) (lit< tt) fits
visible_moment version (negsuc n) fits = absurd fits

-- so is that of a duration
pub visible_duration : (version : ScriptVersion) (d : Option Duration) → IsLineDuration version d
    → is_visible_word (duration_word version d) ≡ true
visible_duration version None fits = refl
visible_duration version (Some d) fits = visible_time version greatest_u64 d (lit< tt) fits

-- ---- heads

glyph_visible : (n : ℕ) → n < 16 → is_visible (digit_glyph true n) ≡ true
glyph_visible n small = elim (cases_lt n 10) [
  | inl low ↦ rw (lt-ltb n 10 low, le-leb 0x21 (48 + n) (omega arith), le-leb (48 + n) 0x7e (omega arith)) refl
  | inr high ↦ rw (le-ltb n 10 high, le-leb 0x21 (55 + n) (omega arith), le-leb (55 + n) 0x7e (omega arith)) refl
]

visible_byte : (stands : ℕ → Bool) → ((b : ℕ) → stands b ≡ true → is_visible b ≡ true) → (b : ℕ) → b < 256
    → is_visible_word (byte_or_escape stands b) ≡ true
visible_byte stands visible b small = elim (cases_Bool (stands b)) [
  | inl plain ↦ rw plain (and_from (is_visible b) true (visible b plain) refl)
  | inr escaped ↦ rw (escaped, glyph_visible (b / 16) (omega arith), glyph_visible (b % 16) (omega arith)) refl
]

-- escaped bytes are visible where those that stand for themselves are
pub visible_escapes : (stands : ℕ → Bool) → ((b : ℕ) → stands b ≡ true → is_visible b ≡ true)
    → (bytes : List ℕ) → list_all is_byte bytes ≡ true → is_visible_word (with_escapes stands bytes) ≡ true
visible_escapes stands visible [] fit = refl
visible_escapes stands visible (b ∷ bytes) fit =
    let parts = and_parts (is_byte b) (list_all is_byte bytes) fit in
    all_both is_visible (byte_or_escape stands b) (with_escapes stands bytes) (visible_byte stands visible b (ltb-true b 256 parts.0)) (visible_escapes stands visible bytes parts.1)

plain_visible : (b : ℕ) → is_plain b ≡ true → is_visible b ≡ true
plain_visible b plain = (and_parts (is_visible b) (not (eqb b percent)) plain).0

target_visible : (word : List ℕ) → is_target word ≡ true → is_visible_word word ≡ true
target_visible word target = (and_parts (ltb 0 (length word)) (list_all is_visible word) target).1

visible_field : (f : Field) → is_field f ≡ true → is_visible_word (field_word f) ≡ true
visible_field f fits =
    let parts = and_parts (is_name f.name) (list_all is_byte f.value) fits in
    let name = and_parts (is_target f.name) (not (list_any is_colon f.name)) parts.0 in
    all_both is_visible f.name (colon ∷ value_word f.value) (target_visible f.name name.0) (visible_escapes is_plain plain_visible f.value parts.1)

visible_fields : (fs : List Field) → list_all is_field fs ≡ true → AreVisibleWords (map field_word fs)
visible_fields [] fit = no_words
visible_fields (f ∷ fs) fit =
    let parts = and_parts (is_field f) (list_all is_field fs) fit in
    one_word (visible_field f parts.0) (visible_fields fs parts.1)

visible_version : (v : Version) → is_visible_word (version_word v) ≡ true
visible_version V09 = refl
visible_version V10 = refl
visible_version V11 = refl
visible_version V2 = refl
visible_version V3 = refl

-- the words of a head are visible
pub visible_head : (head : Head) → IsLineHead head → AreVisibleWords (head_words head)
visible_head head fits =
    one_word (target_visible head.method fits.method) (one_word (target_visible head.uri fits.uri) (one_word (visible_version head.version) (visible_fields head.headers fits.headers)))
