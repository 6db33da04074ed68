-- A fraction and its digits spell each other.
use Rattle.std.proofs.Common.{◌≡◌, ◌≢◌, ℕ, zero, suc, ◌+◌, ◌-◌, ◌*◌, ◌/◌, ◌%◌, ◌^◌, ◌<◌, ◌≤◌, true, not, ◌&&◌, eqb, List, [], ◌∷◌, length, get_or, take, drop, Some, None, refl, sym, ap, subst, ◌∙◌, inl, inr, arith, lit<, add-one}
use Rattle.std.proofs.Math.Nat.{pow-suc, one-le-pow, mul-pos, pow-le-pow_right}
use Rattle.std.proofs.Math.Seq.{take-length}
use Rattle.std.specs.Prelude.{option_map}
use Rattle.std.specs.List.{list_all}
use Rattle.std.proofs.lemmas.Bool.{cases_Bool, cases_eq, ne_eqb, eqb-false, and_parts, and_from, not-true}
use Rattle.std.proofs.lemmas.Nat.{div-mul-add, mod-mul-add, div-add-mod', div_below, mod_below, mul-add-lt, row_fits}
use Rattle.line_words.specs.Bytes.{zero_digit, nine_digit, is_digit}
use Rattle.line_words.specs.Moments.{fraction_digits, fraction_of}
use Rattle.line_words.proofs.ReadingSteps.{some_is, passed_test, map_some}
use Rattle.line_words.proofs.VisibleWords.{digit_of, digit_range}

-- a power of ten is positive
pub ten_pow : (k : ℕ) → 0 < 10 ^ k
ten_pow k = one-le-pow k 10 (omega arith)

-- a greater power of ten is greater
pub ten_pow_le : (k m : ℕ) → k ≤ m → 10 ^ k ≤ 10 ^ m
ten_pow_le k m le = pow-le-pow_right (lit< tt) le

-- what a digit counts leaves room for its places
pub digit_fits : (digit places : ℕ) → is_digit digit ≡ true
    → (digit - zero_digit) * 10 ^ places + 10 ^ places ≤ 10 ^ (places + 1)
digit_fits digit places is =
    let range = digit_range digit is in
    let rows = row_fits (digit - zero_digit) (10 ^ places) 10 (10 ^ places) (omega arith) (omega arith) in
    let next : 10 ^ (places + 1) ≡ 10 ^ places * 10 = rw add-one (pow-suc 10 places) in
    omega (arith, rows, next)

-- nothing has no digits
pub fraction_digits-zero : (places : ℕ) → fraction_digits places 0 ≡ []
unfolding fraction_digits
fraction_digits-zero zero = refl
fraction_digits-zero (suc places) = refl

-- the first digit counts its place, and the others spell the rest
pub fraction_digits-at : (places q rest : ℕ) → 0 < q * 10 ^ places + rest → rest < 10 ^ places
    → fraction_digits (suc places) (q * 10 ^ places + rest) ≡ (zero_digit + q) ∷ fraction_digits places rest
unfolding fraction_digits
fraction_digits-at places q rest some below =
    rw (ne_eqb (q * 10 ^ places + rest) 0 (λ e. absurd (omega (arith, e, some))), div-mul-add q (10 ^ places) rest below, mod-mul-add q (10 ^ places) rest below) refl

-- a number below a power of ten, by its first digit and the rest
pub record FirstPlace (places n : ℕ) : Type 0 where
  pub digit : n / 10 ^ places < 10
  pub rest : n % 10 ^ places < 10 ^ places
  pub whole : n / 10 ^ places * 10 ^ places + n % 10 ^ places ≡ n

pub first_place : (places n : ℕ) → n < 10 ^ suc places → FirstPlace places n
first_place places n below = record {
  digit = div_below n (10 ^ places) 10 (ten_pow places) (omega (arith, below, pow-suc 10 places));
  rest = mod_below n (10 ^ places) (ten_pow places);
  whole = div-add-mod' n (10 ^ places);
}

-- a number that is not zero, by its first digit and the rest of its digits
pub record FirstDigit (places n : ℕ) : Type 0 where
  pub some : 0 < places
  pub digit : n / 10 ^ (places - 1) < 10
  pub rest : n % 10 ^ (places - 1) < 10 ^ (places - 1)
  pub written : fraction_digits places n
      ≡ (zero_digit + n / 10 ^ (places - 1)) ∷ fraction_digits (places - 1) (n % 10 ^ (places - 1))

pub first_digit : (places n : ℕ) → 0 < n → n < 10 ^ places → FirstDigit places n
first_digit zero n some below = absurd (omega (arith, some, below))
first_digit (suc places) n some below =
    let parts = first_place places n below in
    let positive : 0 < n / 10 ^ places * 10 ^ places + n % 10 ^ places = omega (arith, parts.whole, some) in
    let written = fraction_digits-at places (n / 10 ^ places) (n % 10 ^ places) positive parts.rest in
    let back : suc places - 1 ≡ places = omega arith in
    record {
      some = omega arith;
      digit = rw back parts.digit;
      rest = rw back parts.rest;
      written = rw back (ap (fraction_digits (suc places)) (sym parts.whole) ∙ written);
    }

-- ---- digits read as the fraction that they spell

behind : (places digit : ℕ) (others : List ℕ) (n : ℕ) → is_digit digit ≡ true
    → fraction_of places others ≡ Some n
    → fraction_of (suc places) (digit ∷ others) ≡ Some ((digit - zero_digit) * 10 ^ places + n)
unfolding fraction_of
behind places digit [] n is e = absurd cc
behind places digit (next ∷ others) n is e = rw (is, e) refl

-- a digit with others after it, as a reader meets them
pub read_more : (places : ℕ) (word : List ℕ) (n : ℕ) → 0 < places → 1 ≤ length word
    → is_digit (get_or word 0 0) ≡ true
    → fraction_of (places - 1) (take (length word - 1) (drop 1 word)) ≡ Some n
    → fraction_of places word ≡ Some ((get_or word 0 0 - zero_digit) * 10 ^ (places - 1) + n)
read_more zero word n some long is e = absurd (omega (arith, some))
read_more places [] n some long is e = absurd (omega (arith, long))
read_more (suc places) (digit ∷ others) n some long is e =
    let back : suc places - 1 ≡ places = omega arith in
    let all : suc (length others) - 1 ≡ length others = omega arith in
    rw back (behind places digit others n is (ap (fraction_of places) (sym (take-length others)) ∙ rw (back, all) at e))

-- nothing, where the others spell nothing
behind_none : (places digit : ℕ) (others : List ℕ) → 0 < length others → is_digit digit ≡ true
    → fraction_of places others ≡ None → fraction_of (suc places) (digit ∷ others) ≡ None
unfolding fraction_of
behind_none places digit [] some is e = absurd (omega arith)
behind_none places digit (next ∷ others) some is e = rw (is, e) refl

pub read_more_none : (places : ℕ) (word : List ℕ) → 0 < places → 1 ≤ length word
    → is_digit (get_or word 0 0) ≡ true → 0 < length (take (length word - 1) (drop 1 word))
    → fraction_of (places - 1) (take (length word - 1) (drop 1 word)) ≡ None → fraction_of places word ≡ None
read_more_none zero word some long is more e = absurd (omega (arith, some))
read_more_none places [] some long is more e = absurd (omega (arith, long))
read_more_none (suc places) (digit ∷ others) some long is more e =
    let back : suc places - 1 ≡ places = omega arith in
    let all : suc (length others) - 1 ≡ length others = omega arith in
    let whole : take (length others) others ≡ others = take-length others in
    behind_none places digit others (omega (arith, ap length whole, rw all at more)) is (ap (fraction_of places) (sym whole) ∙ rw (back, all) at e)

-- what a digit counts, and what those after it do, is below its place
pub place_below : (places here rest : ℕ) → 0 < places → here + 10 ^ (places - 1) ≤ 10 ^ (places - 1 + 1)
    → rest < 10 ^ (places - 1) → here + rest < 10 ^ places
place_below places here rest some fits below =
    let back : places - 1 + 1 ≡ places = omega arith in
    let power : 10 ^ (places - 1 + 1) ≡ 10 ^ places = ap (λ n. 10 ^ n) back in
    omega (arith, fits, below, power)

-- a last digit that is zero
pub read_none : (places : ℕ) (word : List ℕ) → 0 < places → 1 ≤ length word
    → is_digit (get_or word 0 0) ≡ true → length (take (length word - 1) (drop 1 word)) ≤ 0
    → (get_or word 0 0 - zero_digit) * 10 ^ (places - 1) ≤ 0 → fraction_of places word ≡ None
unfolding fraction_of
read_none zero word some long is short none = absurd (omega (arith, some))
read_none places [] some long is short none = absurd (omega (arith, long))
read_none (suc places) (digit ∷ []) some long is short none = elim (cases_eq digit zero_digit) [
  | inl zero_is ↦ rw (zero_is) refl
  | inr other ↦
      let range = digit_range digit is in
      let counted : 0 < digit - zero_digit = omega (arith, range.0, other) in
      absurd (omega (arith, mul-pos counted (ten_pow (suc places - 1)), none))
]
read_none (suc places) (digit ∷ next ∷ others) some long is short none =
    let all : suc (suc (length others)) - 1 ≡ suc (length others) = omega arith in
    absurd (omega (arith, ap length (take-length (next ∷ others)), rw all at short))

alone : (places q : ℕ) → q < 10 → 0 < q
    → fraction_of (suc places) ((zero_digit + q) ∷ []) ≡ Some (q * 10 ^ places)
unfolding fraction_of
alone places q small some =
    let back : zero_digit + q - zero_digit ≡ q = omega arith in
    rw (digit_of q small, ne_eqb (zero_digit + q) zero_digit (λ e. absurd (omega (arith, e, some))), back) refl

digits_read : (places q rest : ℕ) → q < 10 → 0 < q * 10 ^ places + rest
    → ((0 < rest) → fraction_of places (fraction_digits places rest) ≡ Some rest)
    → fraction_of (suc places) ((zero_digit + q) ∷ fraction_digits places rest)
    ≡ Some (q * 10 ^ places + rest)
digits_read places zero zero small some ih = absurd (omega (arith, some))
digits_read places (suc q) zero small some ih =
    let none : (zero_digit + suc q) ∷ fraction_digits places 0 ≡ (zero_digit + suc q) ∷ [] = ap (λ (ds : List ℕ). (zero_digit + suc q) ∷ ds) (fraction_digits-zero places) in
    let sum : suc q * 10 ^ places ≡ suc q * 10 ^ places + 0 = omega arith in
    ap (fraction_of (suc places)) none ∙ alone places (suc q) small (omega arith) ∙ ap (λ (n : ℕ). Some n) sum
digits_read places q (suc rest) small some ih =
    let back : zero_digit + q - zero_digit ≡ q = omega arith in
    behind places (zero_digit + q) (fraction_digits places (suc rest)) (suc rest) (digit_of q small) (ih (omega arith)) ∙ ap (λ (d : ℕ). Some (d * 10 ^ places + suc rest)) back

-- the digits of a fraction read as it
pub fraction_of-digits : (places n : ℕ) → 0 < n → n < 10 ^ places
    → fraction_of places (fraction_digits places n) ≡ Some n
fraction_of-digits zero n some below = absurd (omega (arith, some, below))
fraction_of-digits (suc places) n some below =
    let parts = first_place places n below in
    let q : ℕ = n / 10 ^ places in
    let r : ℕ = n % 10 ^ places in
    let positive : 0 < n / 10 ^ places * 10 ^ places + n % 10 ^ places = omega (arith, parts.whole, some) in
    let written = fraction_digits-at places (n / 10 ^ places) (n % 10 ^ places) positive parts.rest in
    let read = digits_read places (n / 10 ^ places) (n % 10 ^ places) parts.digit positive (λ more. fraction_of-digits places (n % 10 ^ places) more parts.rest) in
    subst (λ (m : ℕ). fraction_of (suc places) (fraction_digits (suc places) m) ≡ Some m) parts.whole (ap (fraction_of (suc places)) written ∙ read)

-- ---- digits that read as a fraction are its digits

-- the digits spell this fraction
pub record SpellsFraction (places : ℕ) (word : List ℕ) (n : ℕ) : Type 0 where
  pub digits : word ≡ fraction_digits places n
  pub some : 0 < n
  pub below : n < 10 ^ places

value_below : (d p rest : ℕ) → zero_digit ≤ d → d ≤ nine_digit → rest < p
    → (d - zero_digit) * p + rest < p * 10
value_below d p rest low high below = mul-add-lt (d - zero_digit) p rest 10 (omega arith) below

one_digit : (places d : ℕ) → is_digit d ≡ true → d ≢ zero_digit
    → SpellsFraction (suc places) (d ∷ []) ((d - zero_digit) * 10 ^ places)
one_digit places d is some =
    let range = digit_range d is in
    let q : 0 < d - zero_digit = omega (arith, range.0, some) in
    let positive : 0 < (d - zero_digit) * 10 ^ places + 0 = omega (arith, mul-pos q (ten_pow places)) in
    let back : zero_digit + (d - zero_digit) ≡ d = omega (arith, range.0) in
    let written = fraction_digits-at places (d - zero_digit) 0 positive (ten_pow places) in
    let sum : (d - zero_digit) * 10 ^ places + 0 ≡ (d - zero_digit) * 10 ^ places = omega arith in
    subst (λ (n : ℕ). SpellsFraction (suc places) (d ∷ []) n) sum (record {
      digits = sym (written ∙ ap (λ (ds : List ℕ). (zero_digit + (d - zero_digit)) ∷ ds) (fraction_digits-zero places) ∙ ap (λ (b : ℕ). b ∷ []) back);
      some = positive;
      below = omega (arith, value_below d (10 ^ places) 0 range.0 range.1 (ten_pow places), pow-suc 10 places);
    })

more_digits : (places d : ℕ) (others : List ℕ) (rest : ℕ) → is_digit d ≡ true
    → SpellsFraction places others rest
    → SpellsFraction (suc places) (d ∷ others) ((d - zero_digit) * 10 ^ places + rest)
more_digits places d others rest is spelled =
    let range = digit_range d is in
    let positive : 0 < (d - zero_digit) * 10 ^ places + rest = omega (arith, spelled.some) in
    let back : zero_digit + (d - zero_digit) ≡ d = omega (arith, range.0) in
    let written = fraction_digits-at places (d - zero_digit) rest positive spelled.below in
    record {
      digits = sym (written ∙ ap (λ (b : ℕ). b ∷ fraction_digits places rest) back ∙ ap (λ (ds : List ℕ). d ∷ ds) (sym spelled.digits));
      some = positive;
      below = omega (arith, value_below d (10 ^ places) rest range.0 range.1 spelled.below, pow-suc 10 places);
    }

-- digits that read as a fraction are its digits
pub fraction_of-some : (places : ℕ) (word : List ℕ) (n : ℕ) → fraction_of places word ≡ Some n
    → SpellsFraction places word n
unfolding fraction_of
fraction_of-some places [] n e = absurd cc
fraction_of-some zero (d ∷ others) n e = absurd cc
fraction_of-some (suc places) (d ∷ []) n e =
    let p = passed_test (is_digit d && not (eqb d zero_digit)) (Some ((d - zero_digit) * 10 ^ places)) n e in
    let parts = and_parts (is_digit d) (not (eqb d zero_digit)) p.0 in
    subst (λ (m : ℕ). SpellsFraction (suc places) (d ∷ []) m) (some_is ((d - zero_digit) * 10 ^ places) n p.1)
    (one_digit places d parts.0 (eqb-false d zero_digit (not-true (eqb d zero_digit) parts.1)))
fraction_of-some (suc places) (d ∷ next ∷ others) n e =
    let p = passed_test (is_digit d) (option_map (λ (m : ℕ). (d - zero_digit) * 10 ^ places + m) (fraction_of places (next ∷ others))) n e in
    let rest = map_some (λ (m : ℕ). (d - zero_digit) * 10 ^ places + m) (fraction_of places (next ∷ others)) n p.1 in
    subst (λ (m : ℕ). SpellsFraction (suc places) (d ∷ next ∷ others) m) rest.2
    (more_digits places d (next ∷ others) rest.0 p.0 (fraction_of-some places (next ∷ others) rest.0 rest.1))

-- ---- bytes

-- the digits of a fraction are digits
pub fraction_of_digits : (places n : ℕ) → n < 10 ^ places
    → list_all is_digit (fraction_digits places n) ≡ true
unfolding fraction_digits
fraction_of_digits zero n below = refl
fraction_of_digits (suc places) n below = elim (cases_Bool (eqb n 0)) [
  | inl none ↦ rw none refl
  | inr some ↦
      let parts = first_place places n below in
      rw some (and_from (is_digit (zero_digit + n / 10 ^ places)) (list_all is_digit (fraction_digits places (n % 10 ^ places))) (digit_of (n / 10 ^ places) parts.digit) (fraction_of_digits places (n % 10 ^ places) parts.rest))
]
