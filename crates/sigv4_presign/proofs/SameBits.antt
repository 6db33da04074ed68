-- Bytes are the same where no bit differs.
use Rattle.std.proofs.Common.{◌≡◌, ◌↔◌, ℕ, ◌+◌, List, [], ◌∷◌, ◌++◌, length, take, refl, sym, ap, ap₂, ◌∙◌, arith, length-append}
use Rattle.std.specs.Int.Bits.{bit_or, bit_xor, xor_zero_l, xor_zero_r, xor_self, xor_assoc}
use Rattle.std.proofs.lemmas.Nat.{le_or_l, le_or_r}

xor-none : (a b : ℕ) → bit_xor a b ≡ 0 → a ≡ b
xor-none a b none =
    sym (xor_zero_r a) ∙ (ap (bit_xor a) (sym (xor_self b)) ∙ (sym (xor_assoc a b b) ∙ (ap (λ n. bit_xor n b) none ∙ xor_zero_l b)))

-- a byte more
difference-more : (d a b : ℕ) → (bit_or d (bit_xor a b) ≡ 0) ↔ ((d ≡ 0) × (a ≡ b))
difference-more d a b = (
  λ none.
      let low = le_or_l d (bit_xor a b) in let high = le_or_r d (bit_xor a b) in
      (omega (arith, none, low), xor-none a b (omega (arith, none, high))),
  λ same. ap₂ bit_or same.0 (ap (λ n. bit_xor n b) same.1 ∙ xor_self b),
)

-- lists with one more are the same where both parts are
parts_same : (xs ys : List ℕ) (x y : ℕ) → xs ++ x ∷ [] ≡ ys ++ y ∷ [] → (xs ≡ ys) × (x ≡ y)
parts_same [] [] x y e = (refl, cc)
parts_same [] (b ∷ ys) x y e = absurd (let long = ap length e in omega (arith, long, length-append ys (y ∷ [])))
parts_same (a ∷ xs) [] x y e = absurd (let long = ap length e in omega (arith, long, length-append xs (x ∷ [])))
parts_same (a ∷ xs) (b ∷ ys) x y e =
    let first : a ≡ b = cc in
    let rest : xs ++ x ∷ [] ≡ ys ++ y ∷ [] = cc in
    let both = parts_same xs ys x y rest in
    (ap₂ (λ z zs. z ∷ zs) first both.0, both.1)

pub same-more : (i d x y : ℕ) (xs ys : List ℕ) → ((d ≡ 0) ↔ (take i xs ≡ take i ys))
    → take (i + 1) xs ≡ take i xs ++ x ∷ [] → take (i + 1) ys ≡ take i ys ++ y ∷ []
    → (bit_or d (bit_xor x y) ≡ 0) ↔ (take (i + 1) xs ≡ take (i + 1) ys)
same-more i d x y xs ys known more_x more_y = (
  λ none. let both = (difference-more d x y).0 none in more_x ∙ (ap₂ (λ zs z. zs ++ z ∷ []) (known.0 both.0) both.1 ∙ sym more_y),
  λ same. let both = parts_same (take i xs) (take i ys) x y (sym more_x ∙ (same ∙ more_y)) in (difference-more d x y).1 (known.1 both.0, both.1),
)
