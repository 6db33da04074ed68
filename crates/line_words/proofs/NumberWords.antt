-- A number's word is its decimal spelling, up to the limit.
use Rattle.std.proofs.Common.{◌≡◌, ℕ, ◌<◌, ◌≤◌, ◌^◌, Bool, true, false, cond, ◌&&◌, leb, List, Some, None, refl, ap, subst, ◌∙◌}
use Rattle.std.specs.Str.{bytes_eq}
use Rattle.std.specs.Str.Parse.{digits_value}
use Rattle.std.specs.Fmt.{decimal}
use Rattle.std.proofs.lemmas.Bool.{le-leb, leb-true, and_parts}
use Rattle.std.proofs.lemmas.Fmt.{decimal_is_IsNumeral}
use Rattle.std.proofs.lemmas.Slice.Eq.{bytes_eq-Decides}
use Rattle.line_words.specs.Words.{number_of}

-- the spelling of a number up to the limit reads as that number
pub number_of-decimal : (limit n : ℕ) (word : List ℕ) → n < 2 ^ 64 → word ≡ decimal n → n ≤ limit
    → number_of limit word ≡ Some n
number_of-decimal limit n word small spelled le =
    let value : digits_value 10 word ≡ n = ap (digits_value 10) spelled ∙ (decimal_is_IsNumeral n small).1 in
    let same : bytes_eq word (decimal n) ≡ true = (bytes_eq-Decides word (decimal n)).1 spelled in
    let fits : leb n limit ≡ true = le-leb n limit le in
    rw (value, same, fits) refl

passed : (limit n m : ℕ) (word : List ℕ) (b : Bool) → (bytes_eq word (decimal m) && leb m limit) ≡ b
    → cond b (Some m) None ≡ Some n → (word ≡ decimal n) × (n ≤ limit)
passed limit n m word false test e = absurd cc
passed limit n m word true test e =
    let parts = and_parts (bytes_eq word (decimal m)) (leb m limit) test in
    let same : m ≡ n = cc in
    subst (λ (k : ℕ). (word ≡ decimal k) × (k ≤ limit)) same ((bytes_eq-Decides word (decimal m)).0 parts.0, leb-true m limit parts.1)

-- a word that reads as a number is its spelling
pub number_of-some : (limit n : ℕ) (word : List ℕ) → number_of limit word ≡ Some n
    → (word ≡ decimal n) × (n ≤ limit)
number_of-some limit n word e =
    let m : ℕ = digits_value 10 word in
    passed limit n (digits_value 10 word) word (bytes_eq word (decimal (digits_value 10 word)) && leb (digits_value 10 word) limit) refl e
