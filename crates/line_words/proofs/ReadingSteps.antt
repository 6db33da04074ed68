-- What the steps of a reading were, where it gave something.
use Rattle.std.proofs.Common.{◌≡◌, ℕ, Bool, true, false, cond, List, [], ◌∷◌, Option, Some, None, refl, ap, ◌∙◌, ◌⊎◌, inl, inr}
use Rattle.std.specs.Prelude.{option_map, option_and_then}
use Rattle.std.specs.Str.{bytes_eq}
use Rattle.std.proofs.lemmas.Slice.Eq.{bytes_eq-Decides}
use Rattle.line_words.specs.Steps.{◌>>=◌, first_word, at_end_of_line}

abbrev something : {A : Type 0} → A → Option A
something x = Some x

-- two options that hold something are the same where they hold the same
pub some_is : {A : Type 0} (x y : A) → something x ≡ something y → x ≡ y
some_is x y e = cc

-- words that pass the test are the same
pub same_word : (a b : List ℕ) → bytes_eq a b ≡ true → a ≡ b
same_word a b e = (bytes_eq-Decides a b).0 e

-- which branch a choice took, and what it gave
pub chosen : {X : Type 0} (b : Bool) (x y z : X) → cond b x y ≡ z
    → ((b ≡ true) × (x ≡ z)) ⊎ ((b ≡ false) × (y ≡ z))
chosen true x y z e = inl (refl, e)
chosen false x y z e = inr (refl, e)

-- a test that lets something through has passed
pub passed_test : {X : Type 0} (b : Bool) (o : Option X) (y : X) → cond b o None ≡ Some y
    → (b ≡ true) × (o ≡ Some y)
passed_test true o y e = (refl, e)
passed_test false o y e = absurd cc

-- a step that gave something had something, and went on from it
pub bind_some : {A B : Type 0} (o : Option A) (f : A → Option B) (y : B) → (o >>= f) ≡ Some y
    → (x : A) × (o ≡ Some x) × (f x ≡ Some y)
bind_some (Some x) f y e = (x, refl, e)
bind_some None f y e = absurd cc

-- there was a first word, and it said this
pub first_word_some : {A : Type 0} (says : List ℕ → Option A) (ws : List (List ℕ)) (p : A × List (List ℕ))
    → first_word says ws ≡ Some p → (word : List ℕ) × (ws ≡ word ∷ p.1) × (says word ≡ Some p.0)
first_word_some says [] p e = absurd cc
first_word_some {A} says (word ∷ rest) p e =
    let b = bind_some (says word) (λ (x : A). Some (x, rest)) p e in
    let made : A × List (List ℕ) = (b.0, rest) in
    let same : made ≡ p = some_is made p b.2 in
    (word, ap (λ (q : A × List (List ℕ)). word ∷ q.1) same, b.1 ∙ ap (λ (q : A × List (List ℕ)). Some q.0) same)

-- no word was left
pub ended_some : {A : Type 0} (x y : A) (ws : List (List ℕ)) → at_end_of_line x ws ≡ Some y
    → (x ≡ y) × (ws ≡ [])
ended_some x y [] e = (some_is x y e, refl)
ended_some x y (word ∷ rest) e = absurd cc

-- a map that gave something had something
pub map_some : {A B : Type 0} (f : A → B) (o : Option A) (y : B) → option_map f o ≡ Some y
    → (x : A) × (o ≡ Some x) × (f x ≡ y)
map_some f (Some x) y e = (x, refl, some_is (f x) y e)
map_some f None y e = absurd cc

-- and so had a step that may fail
pub and_then_some : {A B : Type 0} (f : A → Option B) (o : Option A) (y : B) → option_and_then f o ≡ Some y
    → (x : A) × (o ≡ Some x) × (f x ≡ Some y)
and_then_some f (Some x) y e = (x, refl, e)
and_then_some f None y e = absurd cc
