-- Which places a list has.
use Rattle.std.proofs.Common.{◌≡◌, ℕ, zero, suc, Bool, true, false, ◌<◌, ◌==◌, List, [], ◌∷◌, ◌++◌, Option, Some, None, is_some, option_map, slice_get, slice_set, length, refl, sym, ◌∙◌, ap, subst, IfSome, arith}
use Rattle.sign_base.proofs.Truth.{same_number, other_number}
use Rattle.sequential_signer.proofs.Places.{slice_get-set_same, slice_get-set_other}

-- a place that has an item is below the length
pub place-below : {A : Type 0} (xs : List A) (i : ℕ) → is_some (slice_get xs i) ≡ true → i < length xs
place-below [] i h = cc
place-below (x ∷ xs) zero h = omega arith
place-below (x ∷ xs) (suc i) h = let k : i < length xs = place-below xs i h in omega arith

-- a place below the length has an item
pub place-there : {A : Type 0} (xs : List A) (i : ℕ) → i < length xs → is_some (slice_get xs i) ≡ true
place-there [] i h = absurd (omega arith)
place-there (x ∷ xs) zero h = refl
place-there (x ∷ xs) (suc i) h = place-there xs i (omega arith)

-- what stands there
pub item-there : {A : Type 0} (xs : List A) (i : ℕ) → i < length xs → (x : A) × (slice_get xs i ≡ Some x)
item-there [] i h = absurd (omega arith)
item-there (x ∷ rest) zero h = (x, refl)
item-there (x ∷ rest) (suc i) h = item-there rest i (omega arith)

-- one more place in each of two lists
pub both-more : {X Y : Type 0} (c : X) (xs : List X) (ys : List Y) (y : Y)
    → ((i : ℕ) → slice_get xs i ≡ option_map (λ _. c) (slice_get ys i)) → (i : ℕ)
    → slice_get (xs ++ c ∷ []) i ≡ option_map (λ _. c) (slice_get (ys ++ y ∷ []) i)
both-more c [] [] y h zero = refl
both-more c [] [] y h (suc i) = refl
both-more c [] (z ∷ ys) y h i = let e = h zero in absurd (cc)
both-more c (x ∷ xs) [] y h i = let e = h zero in absurd (cc)
both-more c (x ∷ xs) (z ∷ ys) y h zero = h zero
both-more c (x ∷ xs) (z ∷ ys) y h (suc i) = both-more c xs ys y (λ k. h (suc k)) i

-- a place whose item is that of another list's is below the length
pub mapped-below : {A B : Type 0} (xs : List A) (i : ℕ) (x : A) (o : Option B)
    → slice_get xs i ≡ option_map (λ _. x) o → is_some o ≡ true → i < length xs
mapped-below xs i x None e h = absurd (cc)
mapped-below xs i x (Some y) e h = place-below xs i (ap is_some e)

-- what holds of an item that is there
pub if-some : {A : Type 0} (P : A → Type 0) (o : Option A) → ((x : A) → o ≡ Some x → P x) → IfSome o P
if-some P None h = tt
if-some P (Some x) h = h x refl

-- an item at one place, where the items at the other places stay
pub stored-at : {K L : Type 0} (xs : List (Option K)) (ys : List L) (before after : ℕ → Option K) (i : ℕ)
    (c : K) → ((j : ℕ) → slice_get xs j ≡ option_map (λ _. before j) (slice_get ys j)) → i < length xs
    → after i ≡ Some c → ((j : ℕ) → (i == j) ≡ false → after j ≡ before j) → (j : ℕ)
    → slice_get (slice_set xs i (Some c)) j ≡ option_map (λ _. after j) (slice_get ys j)
stored-at {K = K} {L = L} xs ys before after i c stood within here elsewhere j = by_number (i == j) refl
  where
    there : is_some (slice_get xs i) ≡ true
    there = place-there xs i within

    loaded : (o : Option L) → slice_get ys i ≡ o → Some (Some c) ≡ option_map (λ _. Some c) o
    loaded None l = let some : is_some (slice_get xs i) ≡ true = there in let none : slice_get xs i ≡ None = stood i ∙ ap (option_map (λ _. before i)) l in absurd (cc)
    loaded (Some y) l = refl

    by_number : (b : Bool) → (i == j) ≡ b
        → slice_get (slice_set xs i (Some c)) j ≡ option_map (λ _. after j) (slice_get ys j)
    by_number true n =
        subst (λ k. slice_get (slice_set xs i (Some c)) k ≡ option_map (λ _. after k) (slice_get ys k)) (same_number i j n)
        (slice_get-set_same xs i (Some c) there ∙ loaded (slice_get ys i) refl ∙ ap (λ x. option_map (λ _. x) (slice_get ys i)) (sym here))
    by_number false n =
        slice_get-set_other xs i j (Some c) (other_number i j n)
        ∙ stood j
        ∙ ap (λ x. option_map (λ _. x) (slice_get ys j)) (sym (elsewhere j n))
