-- A list where the item at one place changed.
use Rattle.std.proofs.Common.{◌≡◌, ℕ, zero, suc, ◌<◌, List, [], ◌∷◌, Some, option_map, slice_get, slice_set, length, slice_index_or, refl, sym, ◌∙◌, ap}
use Rattle.std.proofs.lemmas.Option.{slice_get_read}
use Rattle.desk_parts.specs.Queue.{with_changed}

set-changed : {A : Type 0} (f : A → A) (xs : List A) (i : ℕ) (v x : A) → slice_get xs i ≡ Some x → v ≡ f x
    → slice_set xs i v ≡ with_changed f i xs
set-changed f [] i v x h e = cc
set-changed f (y ∷ ys) zero v x h e = let s : y ≡ x = cc in ap (λ z. z ∷ ys) (e ∙ ap f (sym s))
set-changed f (y ∷ ys) (suc i) v x h e = ap (λ zs. y ∷ zs) (set-changed f ys i v x h e)

-- a write of what the item at a place is changed to
pub write-changed : {A : Type 0} (f : A → A) (xs : List A) (i : ℕ) (v x : A) → i < length xs
    → x ≡ slice_index_or xs i x → v ≡ f x → slice_set xs i v ≡ with_changed f i xs
write-changed f xs i v x h r e = set-changed f xs i v x (slice_get_read xs (length xs) i x refl h r) e

-- reads after a change
pub changed-same : {A : Type 0} (f : A → A) (xs : List A) (i : ℕ)
    → slice_get (with_changed f i xs) i ≡ option_map f (slice_get xs i)
changed-same f [] i = refl
changed-same f (x ∷ xs) zero = refl
changed-same f (x ∷ xs) (suc i) = changed-same f xs i

-- at another place
pub changed-other : {A : Type 0} (f : A → A) (xs : List A) (i j : ℕ) → (i ≡ j → ⊥)
    → slice_get (with_changed f i xs) j ≡ slice_get xs j
changed-other f [] i j h = refl
changed-other f (x ∷ xs) zero zero h = absurd (h refl)
changed-other f (x ∷ xs) zero (suc j) h = refl
changed-other f (x ∷ xs) (suc i) zero h = refl
changed-other f (x ∷ xs) (suc i) (suc j) h = changed-other f xs i j (λ e. h (ap suc e))

-- two changes that undo each other
pub changed-undone : {A : Type 0} (f g : A → A) (xs : List A) (i : ℕ) → ((x : A) → g (f x) ≡ x)
    → with_changed g i (with_changed f i xs) ≡ xs
changed-undone f g [] i h = refl
changed-undone f g (x ∷ xs) zero h = ap (λ z. z ∷ xs) (h x)
changed-undone f g (x ∷ xs) (suc i) h = ap (λ zs. x ∷ zs) (changed-undone f g xs i h)
