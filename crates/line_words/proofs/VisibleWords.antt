-- Words of visible bytes: what is spelled has no space, and digits have no point and no dash.
use Rattle.std.proofs.Common.{◌≡◌, ℕ, ◌+◌, ◌%◌, ◌<◌, ◌≤◌, ◌^◌, Bool, true, false, eqb, leb, List, [], ◌∷◌, ◌++◌, refl, ◌∙◌, arith}
use Rattle.std.specs.List.{list_all, list_any}
use Rattle.std.specs.Fmt.{decimal}
use Rattle.std.proofs.lemmas.Bool.{ne_eqb, le-leb, leb-true, and_parts, and_from, or_from}
use Rattle.std.proofs.lemmas.List.Folds.{list_all-append}
use Rattle.std.proofs.lemmas.Fmt.{decimal_by_steps}
use Rattle.line_words.specs.Bytes.{zero_digit, nine_digit, is_visible, is_digit}

-- bytes that all pass a test are none of those that it rules out
pub none_of : (p q : ℕ → Bool) → ((b : ℕ) → p b ≡ true → q b ≡ false) → (bytes : List ℕ)
    → list_all p bytes ≡ true → list_any q bytes ≡ false
none_of p q out [] all = refl
none_of p q out (b ∷ bytes) all =
    let parts = and_parts (p b) (list_all p bytes) all in
    or_from (q b) (list_any q bytes) (out b parts.0) (none_of p q out bytes parts.1)

-- bytes that all pass a test all pass a wider one
pub all_wider : (p q : ℕ → Bool) → ((b : ℕ) → p b ≡ true → q b ≡ true) → (bytes : List ℕ)
    → list_all p bytes ≡ true → list_all q bytes ≡ true
all_wider p q wider [] all = refl
all_wider p q wider (b ∷ bytes) all =
    let parts = and_parts (p b) (list_all p bytes) all in
    and_from (q b) (list_all q bytes) (wider b parts.0) (all_wider p q wider bytes parts.1)

-- two runs of bytes that pass pass together
pub all_both : (p : ℕ → Bool) (front back : List ℕ) → list_all p front ≡ true → list_all p back ≡ true
    → list_all p (front ++ back) ≡ true
all_both p front back first second = list_all-append p front back ∙ and_from (list_all p front) (list_all p back) first second

-- ---- digits

-- the digit of a number below ten
pub digit_of : (n : ℕ) → n < 10 → is_digit (zero_digit + n) ≡ true
digit_of n small = and_from (leb zero_digit (zero_digit + n)) (leb (zero_digit + n) nine_digit) (le-leb zero_digit (zero_digit + n) (omega arith)) (le-leb (zero_digit + n) nine_digit (omega arith))

-- a digit lies between those of zero and nine
pub digit_range : (b : ℕ) → is_digit b ≡ true → (zero_digit ≤ b) × (b ≤ nine_digit)
digit_range b digit =
    let parts = and_parts (leb zero_digit b) (leb b nine_digit) digit in
    (leb-true zero_digit b parts.0, leb-true b nine_digit parts.1)

-- a digit is visible
pub digit_visible : (b : ℕ) → is_digit b ≡ true → is_visible b ≡ true
digit_visible b digit =
    let range = digit_range b digit in
    and_from (leb 0x21 b) (leb b 0x7e) (le-leb 0x21 b (omega (arith, range.0))) (le-leb b 0x7e (omega (arith, range.1)))

-- the word of a number is of digits
pub decimal_of_digits : (n : ℕ) → n < 2 ^ 64 → list_all is_digit (decimal n) ≡ true
decimal_of_digits n small = decimal_by_steps (λ _ word. list_all is_digit word ≡ true)
    (λ m low. and_from (is_digit (zero_digit + m)) true (digit_of m low) refl)
    (λ m front high ih. all_both is_digit front ((48 + m % 10) ∷ []) ih (and_from (is_digit (zero_digit + m % 10)) true (digit_of (m % 10) (omega arith)) refl))
    n small

-- a digit is no byte outside the digits
pub digit_is_no : (mark b : ℕ) → is_digit mark ≡ false → is_digit b ≡ true → eqb b mark ≡ false
digit_is_no mark b other digit = ne_eqb b mark (λ same. absurd cc)
