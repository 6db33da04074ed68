-- A loop that masks each byte in place.
use Rattle.std.proofs.Common.{◌≡◌, ◌+◌, ◌<◌, ℕ, List, ◌++◌, length, map, take, drop, get_or, set, arith, ap, ◌∙◌, length-append}
use Rattle.std.proofs.lemmas.List.{length-map, get_or_default, take-append-drop}
use Rattle.std.proofs.lemmas.List.Edits.{map_over_more}

-- the lists before and during the loop are as long
length-masking : (f : ℕ → ℕ) (xs : List ℕ) (i : ℕ) → length (map f (take i xs) ++ drop i xs) ≡ length xs
length-masking f xs i =
    let whole = ap length (take-append-drop i xs) in
    let parts = length-append (take i xs) (drop i xs) in
    let now = length-append (map f (take i xs)) (drop i xs) in
    let same : length (map f (take i xs)) ≡ length (take i xs) = length-map (take i xs) f in
    omega (arith, whole, parts, now, same)

pub masking_more : (f : ℕ → ℕ) (xs ys : List ℕ) (i : ℕ) → i < length xs → ys ≡ map f (take i xs) ++ drop i xs
    → set ys i (f (get_or ys i 0)) ≡ map f (take (i + 1) xs) ++ drop (i + 1) xs
masking_more f xs ys i within so_far =
    let long : length ys ≡ length xs = ap length so_far ∙ length-masking f xs i in
    map_over_more f xs ys i (get_or ys i 0) within so_far (get_or_default ys i 0 (get_or ys i 0) (omega (arith, within, long)))
