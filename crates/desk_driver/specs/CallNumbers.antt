-- The numbers of calls.
use Rattle.std.specs.Prelude.{ℕ, List, [], ◌∷◌, Option, Bool, true, ◌&&◌, codes}
use Rattle.sequential_signer.specs.LiveCall.{is_above}

-- whether the number is above each of these, where there is one
abbrev pub is_above_all : ℕ → List (Option ℕ) → Bool
is_above_all n [] = true
is_above_all n (x ∷ rest) = is_above n x && is_above_all n rest

-- what a begin is refused with where all call numbers are used up
abbrev pub used_up : List ℕ
used_up = codes "call numbers are used up"
