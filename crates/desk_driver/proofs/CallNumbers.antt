-- A number above all stays above all, and the next one is above it too.
use Rattle.std.proofs.Common.{◌≡◌, ℕ, zero, suc, ◌+◌, nat_lt, Bool, true, ◌&&◌, List, [], ◌∷◌, ◌++◌, Option}
use Rattle.std.proofs.Common.{Some, None, IfSome, slice_get, slice_set, refl, arith}
use Rattle.std.proofs.lemmas.Bool.Decides.{nat_tests}
use Rattle.sign_base.proofs.Truth.{and_left, and_right}
use Rattle.sequential_signer.specs.LiveCall.{is_above}
use Rattle.desk_driver.specs.CallNumbers.{is_above_all}

and_both : (a b : Bool) → a ≡ true → b ≡ true → (a && b) ≡ true
and_both a b h k = rw (h, k) refl

pub above-none-more : (n : ℕ) (xs : List (Option ℕ)) → is_above_all n xs ≡ true
    → is_above_all n (xs ++ None ∷ []) ≡ true
above-none-more n [] h = refl
above-none-more n (x ∷ xs) h = and_both (is_above n x) (is_above_all n (xs ++ None ∷ [])) (and_left (is_above n x) (is_above_all n xs) h) (above-none-more n xs (and_right (is_above n x) (is_above_all n xs) h))

-- a number above all is above the one at a place
pub above-at : (n : ℕ) (xs : List (Option ℕ)) (i : ℕ) → is_above_all n xs ≡ true
    → IfSome (slice_get xs i) (λ greatest. is_above n greatest ≡ true)
above-at n [] i h = tt
above-at n (x ∷ xs) zero h = and_left (is_above n x) (is_above_all n xs) h
above-at n (x ∷ xs) (suc i) h = above-at n xs i (and_right (is_above n x) (is_above_all n xs) h)

next-above : (n : ℕ) (o : Option ℕ) → is_above n o ≡ true → is_above (n + 1) o ≡ true
next-above n None h = refl
next-above n (Some m) h = further n m h
  where
    further : (a b : ℕ) → nat_lt b a ≡ true → nat_lt b (a + 1) ≡ true
    further a b h = grind (arith, nat_tests)

below-next : (n : ℕ) → nat_lt n (n + 1) ≡ true
below-next n = grind (arith, nat_tests)

next-above_all : (n : ℕ) (xs : List (Option ℕ)) → is_above_all n xs ≡ true → is_above_all (n + 1) xs ≡ true
next-above_all n [] h = refl
next-above_all n (x ∷ xs) h =
    and_both (is_above (n + 1) x) (is_above_all (n + 1) xs) (next-above n x (and_left (is_above n x) (is_above_all n xs) h)) (next-above_all n xs (and_right (is_above n x) (is_above_all n xs) h))

-- the next number is above all, also above the one that was begun last
pub above-next : (n : ℕ) (xs : List (Option ℕ)) (i : ℕ) → is_above_all n xs ≡ true
    → is_above_all (n + 1) (slice_set xs i (Some n)) ≡ true
above-next n [] i h = refl
above-next n (x ∷ xs) zero h = and_both (is_above (n + 1) (Some n)) (is_above_all (n + 1) xs) (below-next n) (next-above_all n xs (and_right (is_above n x) (is_above_all n xs) h))
above-next n (x ∷ xs) (suc i) h =
    and_both (is_above (n + 1) x) (is_above_all (n + 1) (slice_set xs i (Some n))) (next-above n x (and_left (is_above n x) (is_above_all n xs) h)) (above-next n xs i (and_right (is_above n x) (is_above_all n xs) h))
