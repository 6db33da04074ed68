-- Where the first byte of a kind stands.
use Rattle.std.proofs.Common.{◌≡◌, ℕ, ◌≤◌, Bool, true, false, cond, not, ltb, List, length, Some, None, refl, arith}
use Rattle.std.specs.List.{position, position_or_len}
use Rattle.std.proofs.lemmas.Bool.{ltb-false}
use Rattle.std.proofs.lemmas.List.Sums.{prefix_len-le-length}

-- a place lies within its list
pub place_within : (p : ℕ → Bool) (xs : List ℕ) → position_or_len p xs ≤ length xs
place_within p xs = prefix_len-le-length (λ x. not (p x)) xs

-- where no place is found, the place is the end
pub place_is_end : (p : ℕ → Bool) (xs : List ℕ) → position p xs ≡ None → length xs ≡ position_or_len p xs
place_is_end p xs e = by_test (ltb (position_or_len p xs) (length xs)) refl e
  where
    by_test : (b : Bool) → ltb (position_or_len p xs) (length xs) ≡ b
        → cond b (Some (position_or_len p xs)) None ≡ None → length xs ≡ position_or_len p xs
    by_test true test none = absurd cc
    by_test false test none =
        let beyond = ltb-false (position_or_len p xs) (length xs) test in
        omega (arith, beyond, place_within p xs)
