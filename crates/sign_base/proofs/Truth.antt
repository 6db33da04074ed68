-- Truth values: tests of two numbers, and tests made of two.
use Rattle.std.proofs.Common.{◌≡◌, ℕ, Bool, true, false, ◌&&◌, ◌||◌, ◌==◌, refl, arith}
use Rattle.std.proofs.lemmas.Bool.Decides.{nat_tests}

pub number_refl : (a : ℕ) → (a == a) ≡ true
number_refl a = grind (arith, nat_tests)

pub same_number : (a b : ℕ) → (a == b) ≡ true → a ≡ b
same_number a b h = grind (arith, nat_tests)

pub other_number : (a b : ℕ) → (a == b) ≡ false → a ≡ b → ⊥
other_number a b h e = grind (arith, nat_tests)

pub number_comm : (a b : ℕ) → (a == b) ≡ (b == a)
number_comm a b = grind (arith, nat_tests)

pub and_left : (a b : Bool) → (a && b) ≡ true → a ≡ true
and_left true b h = refl
and_left false b h = h

pub and_right : (a b : Bool) → (a && b) ≡ true → b ≡ true
and_right true b h = h
and_right false b h = cc

pub or_left : (a b : Bool) → (a || b) ≡ false → a ≡ false
or_left true b h = h
or_left false b h = refl

pub or_right : (a b : Bool) → (a || b) ≡ false → b ≡ false
or_right true b h = cc
or_right false b h = h

pub or_none : (a b : Bool) → a ≡ false → b ≡ false → (a || b) ≡ false
or_none a b h k = rw (h, k) refl
