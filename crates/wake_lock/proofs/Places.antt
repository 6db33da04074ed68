-- How often a place stands in a list of places.
use Rattle.std.proofs.Common.{◌≡◌, ℕ, ◌+◌, ◌≤◌, List, [], ◌∷◌, ◌++◌, refl, arith}
use Rattle.wake_lock.specs.Links.{times}
use Rattle.sign_base.proofs.Truth.{number_refl}

-- the first place stands there once more
pub times-here : (p : ℕ) (ps : List ℕ) → times p (p ∷ ps) ≡ 1 + times p ps
times-here p ps = rw (number_refl p) refl

-- a place stands in two lists as often as in each
pub times-append : (q : ℕ) (xs ys : List ℕ) → times q (xs ++ ys) ≡ times q xs + times q ys
times-append q [] ys = omega arith
times-append q (x ∷ xs) ys = omega (arith, times-append q xs ys)

-- a place stands in the rest at most as often
pub times-rest : (q p : ℕ) (ps : List ℕ) → times q ps ≤ times q (p ∷ ps)
times-rest q p ps = omega arith
