-- Items that have numbers: those of one number, those from a number on, and how many there are.
use Rattle.std.proofs.Common.{◌≡◌, ℕ, zero, suc, ◌+◌, ◌==◌, nat_lt, Bool, true, false, not, List, [], ◌∷◌, filter, length, refl, sym, ◌∙◌, ap, arith, ◌⊎◌, inl, inr}
use Rattle.std.proofs.lemmas.Bool.{false≢true}
use Rattle.std.proofs.lemmas.Bool.Decides.{nat_tests}

-- where a number lies beside another
pub data Side (n k : ℕ) : Type 0 where
  below : nat_lt k n ≡ true → (k == n) ≡ false → nat_lt k (suc n) ≡ true → Side n k
  here : nat_lt k n ≡ false → (k == n) ≡ true → nat_lt k (suc n) ≡ true → Side n k
  above : nat_lt k n ≡ false → (k == n) ≡ false → nat_lt k (suc n) ≡ false → Side n k

below_others : (n k : ℕ) → nat_lt k n ≡ true → ((k == n) ≡ false) × (nat_lt k (suc n) ≡ true)
below_others n k h = (grind (arith, nat_tests), grind (arith, nat_tests))

here_others : (n k : ℕ) → (k == n) ≡ true → nat_lt k (suc n) ≡ true
here_others n k h = grind (arith, nat_tests)

above_others : (n k : ℕ) → nat_lt k n ≡ false → (k == n) ≡ false → nat_lt k (suc n) ≡ false
above_others n k h e = grind (arith, nat_tests)

pub side : (n k : ℕ) → Side n k
side n k = by_test (nat_lt k n) refl (k == n) refl
  where
    by_test : (l : Bool) → nat_lt k n ≡ l → (e : Bool) → (k == n) ≡ e → Side n k
    by_test true l e _ = let o = below_others n k l in below l o.0 o.1
    by_test false l true e = here l e (here_others n k e)
    by_test false l false e = above l e (above_others n k l e)

module _ {X : Type 0} (key : X → ℕ) where
  -- whether the item has this number, and whether its number is none below this one
  abbrev pub is_of : ℕ → X → Bool
  is_of n x = key x == n

  abbrev pub is_from : ℕ → X → Bool
  is_from n x = not (nat_lt (key x) n)

  -- items from a number on have that number, or are from the next one on
  split_step : (n : ℕ) (x : X) (xs : List X)
      → length (filter (is_from n) xs) ≡ length (filter (is_of n) xs) + length (filter (is_from (suc n)) xs)
      → Side n (key x)
      → length (filter (is_from n) (x ∷ xs))
      ≡ length (filter (is_of n) (x ∷ xs)) + length (filter (is_from (suc n)) (x ∷ xs))
  split_step n x xs rest (below l e s) = rw (l, e, s) rest
  split_step n x xs rest (here l e s) = rw (l, e, s) (omega arith)
  split_step n x xs rest (above l e s) = rw (l, e, s) (omega arith)

  pub split_from : (n : ℕ) (xs : List X)
      → length (filter (is_from n) xs) ≡ length (filter (is_of n) xs) + length (filter (is_from (suc n)) xs)
  split_from n [] = omega arith
  split_from n (x ∷ xs) = split_step n x xs (split_from n xs) (side n (key x))

  all_step : (x : X) (xs : List X) → filter (is_from 0) xs ≡ xs → (l : Bool) → nat_lt (key x) 0 ≡ l
      → filter (is_from 0) (x ∷ xs) ≡ x ∷ xs
  all_step x xs rest false l = rw (l, rest) refl
  all_step x xs rest true l = absurd (grind (arith, nat_tests))

  -- from 0 on there are all
  pub all_from : (xs : List X) → filter (is_from 0) xs ≡ xs
  all_from [] = refl
  all_from (x ∷ xs) = all_step x xs (all_from xs) (nat_lt (key x) 0) refl

  -- how many have one of so many numbers, from the first on
  abbrev pub count_of : ℕ → ℕ → List X → ℕ
  count_of first zero xs = 0
  count_of first (suc n) xs = length (filter (is_of first) xs) + count_of (suc first) n xs

  -- where no item has a later number, they are all that there are from the first on
  pub counts_all : (first n : ℕ) (xs : List X) → length (filter (is_from (first + n)) xs) ≡ 0
      → count_of first n xs ≡ length (filter (is_from first) xs)
  counts_all first zero xs none =
      let e : first + zero ≡ first = omega arith in
      sym none ∙ ap (λ m. length (filter (is_from m) xs)) e
  counts_all first (suc n) xs none =
      let e : first + suc n ≡ suc first + n = omega arith in
      let rest : count_of (suc first) n xs ≡ length (filter (is_from (suc first)) xs) = counts_all (suc first) n xs (ap (λ m. length (filter (is_from m) xs)) (sym e) ∙ none) in
      ap (λ m. length (filter (is_of first) xs) + m) rest ∙ sym (split_from first xs)

  -- an item from a number on has that number, or is from the next one on
  from_cases : (n : ℕ) (x : X) → Side n (key x) → is_from n x ≡ true
      → (is_of n x ≡ true) ⊎ (is_from (suc n) x ≡ true)
  from_cases n x (below l e s) h = absurd (false≢true (ap not (sym l) ∙ h))
  from_cases n x (here l e s) h = inl e
  from_cases n x (above l e s) h = inr (ap not s)

  pub from_either : (n : ℕ) (x : X) → is_from n x ≡ true → (is_of n x ≡ true) ⊎ (is_from (suc n) x ≡ true)
  from_either n x h = from_cases n x (side n (key x)) h

  pub from_zero : (x : X) → is_from 0 x ≡ true
  from_zero x = grind (arith, nat_tests)
