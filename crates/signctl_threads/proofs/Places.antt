-- What holds of each element and its place.
use Rattle.std.proofs.Common.{◌≡◌, ℕ, zero, suc, ◌+◌, ◌<◌, List, [], ◌∷◌, ◌++◌, length, get_or, subst, arith}
use Rattle.std.specs.Prelude.{All}
use Rattle.std.proofs.lemmas.List.Elements.{All-nil, All-cons}
use Rattle.signctl_threads.specs.Slots.{EachFrom}

module _ {X : Type 0} (P : ℕ → X → Type 0) where
  pub each_at : (n : ℕ) (xs : List X) (i : ℕ) (d : X) → EachFrom P n xs → i < length xs
      → P (n + i) (get_or xs i d)
  each_at n [] i d h l = absurd (omega arith)
  each_at n (x ∷ xs) zero d h l = let e : n ≡ n + 0 = omega arith in subst (λ k. P k x) e h.0
  each_at n (x ∷ xs) (suc i) d h l =
      let e : suc n + i ≡ n + suc i = omega arith in
      subst (λ k. P k (get_or xs i d)) e (each_at (suc n) xs i d h.1 (omega arith))

  -- from the first place on
  pub each_here : (xs : List X) (i : ℕ) (d : X) → EachFrom P 0 xs → i < length xs → P i (get_or xs i d)
  each_here xs i d h l = let e : 0 + i ≡ i = omega arith in subst (λ k. P k (get_or xs i d)) e (each_at 0 xs i d h l)

  pub each_from : (n : ℕ) (xs : List X) → ((i : ℕ) (d : X) → i < length xs → P (n + i) (get_or xs i d))
      → EachFrom P n xs
  each_from n [] f = tt
  each_from n (x ∷ xs) f =
      let e : n + 0 ≡ n = omega arith in
      (subst (λ k. P k x) e (f 0 x (omega arith)), each_from (suc n) xs (λ i d l. later i d l))
    where
      later : (i : ℕ) (d : X) → i < length xs → P (suc n + i) (get_or xs i d)
      later i d l = let e : n + suc i ≡ suc n + i = omega arith in subst (λ k. P k (get_or xs i d)) e (f (suc i) d (omega arith))

  -- one more at the end
  pub each_push : (n : ℕ) (xs : List X) (x : X) → EachFrom P n xs → P (n + length xs) x
      → EachFrom P n (xs ++ x ∷ [])
  each_push n [] x h p = let e : n + 0 ≡ n = omega arith in (subst (λ k. P k x) e p, tt)
  each_push n (y ∷ xs) x h p =
      let e : n + suc (length xs) ≡ suc n + length xs = omega arith in
      (h.0, each_push (suc n) xs x h.1 (subst (λ k. P k x) e p))

  -- what follows of each element, without its place
  pub each_all : (R : X → Type 0) → ((i : ℕ) (x : X) → P i x → R x) → (n : ℕ) (xs : List X) → EachFrom P n xs
      → All R xs
  each_all R f n [] h = All-nil R
  each_all R f n (x ∷ xs) h = All-cons R x xs (f n x h.0) (each_all R f (suc n) xs h.1)
