-- Lists that grow by an item, and what stands at their places.
use Rattle.std.proofs.Common.{◌≡◌, ℕ, zero, suc, ◌+◌, ◌<◌, ◌≤◌, ◌⊎◌, inl, inr, List, [], ◌∷◌, ◌++◌, length}
use Rattle.std.proofs.Common.{option_map, option_and_then, Option, Some, None, IfSome, IsSome, IsSomeAnd}
use Rattle.std.proofs.Common.{slice_get, slice_set, refl, sym, ◌∙◌, ap, subst, arith}
use Rattle.std.specs.List.{slice_index_or}
use Rattle.std.proofs.lemmas.List.{length-append}
use Rattle.std.proofs.lemmas.Option.{get_or_from_slice_get}
use Rattle.sequential_signer.specs.Setup.{Handle}

one-longer : {A : Type 0} (xs : List A) (x : A) → length (xs ++ x ∷ []) ≡ length xs + 1
one-longer xs x = length-append xs (x ∷ [])

pub both-longer : {A B : Type 0} (xs : List A) (ys : List B) (x : A) (y : B) → length xs ≡ length ys
    → length (xs ++ x ∷ []) ≡ length (ys ++ y ∷ [])
both-longer xs ys x y h = one-longer xs x ∙ ap (λ n. n + 1) h ∙ sym (one-longer ys y)

pub both-few : {A B : Type 0} (xs : List A) (ys : List B) (x : A) (y : B) → length xs ≤ length ys
    → length (xs ++ x ∷ []) ≤ length (ys ++ y ∷ [])
both-few xs ys x y h = omega (arith, length-append xs (x ∷ []), length-append ys (y ∷ []))

pub still-few : {A B : Type 0} (xs : List A) (ys : List B) (y : B) → length xs ≤ length ys
    → length xs ≤ length (ys ++ y ∷ [])
still-few xs ys y h = omega (arith, length-append ys (y ∷ []))

-- an item of a list with one more stands in the list, or is that one
pub appended : {A : Type 0} (xs : List A) (x y : A) (k : ℕ) → slice_get (xs ++ x ∷ []) k ≡ Some y
    → (slice_get xs k ≡ Some y) ⊎ ((k ≡ length xs) × (x ≡ y))
appended [] x y zero e = inr (refl, cc)
appended [] x y (suc k) e = absurd (cc)
appended (z ∷ zs) x y zero e = inl e
appended (z ∷ zs) x y (suc k) e = elim (appended zs x y k e) [ inl h ↦ inl h | inr h ↦ inr (ap suc h.0, h.1) ]

-- what stands at a place that was written is what was written
pub written : {A : Type 0} (xs : List A) (i : ℕ) (x y : A) → slice_get (slice_set xs i x) i ≡ Some y → x ≡ y
written [] i x y e = absurd (cc)
written (z ∷ zs) zero x y e = cc
written (z ∷ zs) (suc i) x y e = written zs i x y e

-- what holds of each item holds of one that is there
pub of-there : {A : Type 0} (Q : A → Type 0) (o : Option A) (x : A) → o ≡ Some x → IfSome o Q → Q x
of-there Q None x e h = absurd (cc)
of-there Q (Some y) x e h = let same : y ≡ x = cc in subst Q same h

-- an item stands at each place within the list
pub there-at : {A : Type 0} (xs : List A) (i : ℕ) → i < length xs → (Q : Type 0)
    → ((x : A) → slice_get xs i ≡ Some x → Q) → Q
there-at [] i h Q k = absurd (omega (arith, h))
there-at (x ∷ xs) zero h Q k = k x refl
there-at (x ∷ xs) (suc i) h Q k = there-at xs i (omega (arith, h)) Q k

-- a list with nothing at any place is empty
pub none-there : {A : Type 0} (xs : List A) → ((i : ℕ) → slice_get xs i ≡ None) → xs ≡ []
none-there [] h = refl
none-there (x ∷ xs) h = let e = h zero in absurd (cc)

-- what is read at a place is what stands there
pub index-is : {X : Type 0} (xs : List X) (i j : ℕ) (x d got : X) → slice_get xs j ≡ Some x → i ≡ j
    → got ≡ slice_index_or xs i d → got ≡ x
index-is xs i j x d got is same e = e ∙ ap (λ n. slice_index_or xs n d) same ∙ get_or_from_slice_get xs j x d is

-- what is there, with what holds of it
pub for-there : {A : Type 0} (found : Option A) (Q : A → Type 0) (R : Type 0) → IsSomeAnd found Q
    → ((o : A) → found ≡ Some o → Q o → R) → R
for-there None Q R h k = absurd h
for-there (Some o) Q R h k = k o refl h

-- what led to something was there
pub led-from : {A B : Type 0} (f : A → Option B) (o : Option A) → IsSome (option_and_then f o) → IsSome o
led-from f None h = h
led-from f (Some x) h = refl

-- the cache of a handle that is read
pub cache-is : (handles : Option Handle) (at : Handle) (got : Option ℕ) (cache : ℕ) → handles ≡ Some at
    → got ≡ option_map (λ (x : Handle). x.cache) handles → got ≡ Some cache → cache ≡ at.cache
cache-is handles at got cache h g is =
    let e : (let o : Option ℕ = Some cache in o) ≡ Some at.cache = sym is ∙ g ∙ ap (option_map (λ (x : Handle). x.cache)) h in
    cc

-- the first place, and the first handle
pub first-place : {A : Type 0} (x : A) (i : ℕ)
    → IfSome (slice_get (zero ∷ []) i) (λ place. place < length (x ∷ []))
first-place x zero = omega arith
first-place x (suc i) = tt

pub first-handle : {X Y : Type 0} (x : X) (y : Y) (i : ℕ)
    → IfSome (slice_get (let h : Handle = record { cache = zero; rule = zero } in h ∷ []) i)
    (λ h. (h.cache < length (x ∷ [])) × (h.rule < length (y ∷ [])))
first-handle x y zero = (omega arith, omega arith)
first-handle x y (suc i) = tt
