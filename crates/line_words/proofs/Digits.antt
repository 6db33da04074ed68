-- The digits of a word, read one after another.
use Rattle.std.proofs.Common.{◌≡◌, ◌≢◌, ℕ, zero, suc, ◌+◌, ◌*◌, ◌<◌, ◌≤◌, ◌^◌, Bool, true, false, not, eqb, List, [], ◌∷◌, Option, Some, None, length, get_or, drop, refl, sym, ap, subst, ◌∙◌, arith}
use Rattle.std.specs.Char.{digit_value}
use Rattle.std.specs.Fmt.{decimal}
use Rattle.std.specs.Str.Parse.{AllDigits, digits_value, digits_value_after}
use Rattle.std.proofs.lemmas.Bool.{eqb-true}
use Rattle.std.proofs.lemmas.Str.Parse.{IsNumeralModel}
use Rattle.std.proofs.lemmas.Fmt.{decimal_is_IsNumeral, decimal-digits_value, decimal_nonempty, decimal_digit, first_decimal}
use Rattle.line_words.specs.Bytes.{zero_digit}
use Rattle.line_words.specs.Words.{number_of, begins_a_number}
use Rattle.line_words.proofs.NumberWords.{number_of-some}

-- what was read of a word of digits so far, and what is left of it
pub record ReadsDigits (n : ℕ) (rest word : List ℕ) : Type 0 where
  pub all : AllDigits 10 rest → AllDigits 10 word
  pub left : AllDigits 10 word → AllDigits 10 rest
  pub value : digits_value_after 10 n rest ≡ digits_value 10 word

value_rises : (n : ℕ) (ds : List ℕ) → n ≤ digits_value_after 10 n ds
value_rises n [] = omega arith
value_rises n (c ∷ cs) = omega (arith, value_rises (n * 10 + digit_value c) cs)

-- a byte that is no digit, or a number that gets too great, is in no number's spelling
pub digits_stop : (n b : ℕ) (after rest word : List ℕ) → rest ≡ b ∷ after
    → (digit_value b < 10 → 2 ^ 64 ≤ n * 10 + digit_value b) → ReadsDigits n rest word → (m : ℕ) → m < 2 ^ 64
    → word ≢ decimal m
digits_stop n b after rest word parted stop so_far m small spelled =
    let here : ReadsDigits n (b ∷ after) word = subst (λ (r : List ℕ). ReadsDigits n r word) parted so_far in
    let numeral = decimal_is_IsNumeral m small in
    let all : AllDigits 10 word = subst (AllDigits 10) (sym spelled) numeral.0.1 in
    let value : digits_value 10 word ≡ m = ap (digits_value 10) spelled ∙ numeral.1 in
    omega (arith, stop (here.left all).0, value_rises (n * 10 + digit_value b) after, here.value, value)

first_and_rest : (bytes : List ℕ) → 1 ≤ length bytes → bytes ≡ get_or bytes 0 0 ∷ drop 1 bytes
first_and_rest [] some = absurd (omega arith)
first_and_rest (b ∷ rest) some = refl

-- the same of the first byte of what is left
pub digits_stop_at_first : (n b : ℕ) (rest word : List ℕ) → 1 ≤ length rest → b ≡ get_or rest 0 0
    → (digit_value b < 10 → 2 ^ 64 ≤ n * 10 + digit_value b) → ReadsDigits n rest word → (m : ℕ) → m < 2 ^ 64
    → word ≢ decimal m
digits_stop_at_first n b rest word some first stop so_far =
    let parted : rest ≡ b ∷ drop 1 rest = first_and_rest rest some ∙ ap (λ (x : ℕ). x ∷ drop 1 rest) (sym first) in
    digits_stop n b (drop 1 rest) rest word parted stop so_far

own : IsNumeralModel (AllDigits 10) (digits_value 10)
own = record { to = λ ds d. d; from = λ ds d. d; same = λ ds d. refl }

-- no zero stands before another digit
nonzero_first : (b : ℕ) (zero : Bool) → eqb b zero_digit ≡ zero → not zero ≡ true → b ≢ 48
nonzero_first b true test e z = absurd cc
nonzero_first b false test e z =
    let here : eqb 48 zero_digit ≡ false = rw z at test in
    let wrong : true ≡ false = here in
    absurd cc

-- a word of digits that begins as a number does is the spelling of its value
pub digits_spell : (word : List ℕ) → begins_a_number word ≡ true → AllDigits 10 word
    → digits_value 10 word < 2 ^ 64 → word ≡ decimal (digits_value 10 word)
digits_spell [] begins all small = absurd cc
digits_spell (b ∷ []) begins all small = sym (decimal-digits_value own (b ∷ []) all (omega arith) (λ z. refl) small)
digits_spell (b ∷ c ∷ rest) begins all small =
    sym (decimal-digits_value own (b ∷ c ∷ rest) all (omega arith) (λ z. absurd (nonzero_first b (eqb b zero_digit) refl begins z)) small)

positive_begins : (b c : ℕ) (rest : List ℕ) (zero : Bool) → eqb b zero_digit ≡ zero → 48 < b → not zero ≡ true
positive_begins b c rest true test more = absurd (omega (arith, eqb-true b zero_digit test))
positive_begins b c rest false test more = refl

-- a spelling begins as a number does
pub spelling_begins : (n : ℕ) (word : List ℕ) → n < 2 ^ 64 → word ≡ decimal n → begins_a_number word ≡ true
spelling_begins n [] small spelled = absurd (omega (arith, decimal_nonempty n small, ap length spelled))
spelling_begins n (b ∷ []) small spelled = refl
spelling_begins zero (b ∷ c ∷ rest) small spelled = absurd (omega (arith, ap length (spelled ∙ decimal_digit 0 (omega arith))))
spelling_begins (suc n) (b ∷ c ∷ rest) small spelled =
    let more : 48 < get_or (b ∷ c ∷ rest) 0 0 = subst (λ (ds : List ℕ). 48 < get_or ds 0 0) (sym spelled) (first_decimal (suc n) (omega arith) small) in
    positive_begins b c rest (eqb b zero_digit) refl more

-- a word that begins otherwise spells no number
pub no_number : (limit : ℕ) (word : List ℕ) (says : Option ℕ) → limit < 2 ^ 64 → number_of limit word ≡ says
    → begins_a_number word ≡ false → says ≡ None
no_number limit word None small is begins = refl
no_number limit word (Some n) small is begins =
    let spelled = number_of-some limit n word is in
    let wrong : false ≡ true = sym begins ∙ spelling_begins n word (omega (arith, spelled.1)) spelled.0 in
    absurd cc
