-- Pairs that are cut out of the text of their sides are those pairs.
use Rattle.std.proofs.Common.{◌≡◌, ℕ, List, [], ◌∷◌, ◌++◌, length, take, drop, Bor, refl, sym, ap, ap₂, subst, ◌∙◌, append_assoc, append-nil, arith, length-append}
use lib.Seq.{take-append_seam, drop-append_seam}
use Rattle.std.specs.List.Sorted.{IsPermutation, IsSorted}
use Rattle.std.proofs.lemmas.List.Sorted.{IsPermutation-map}
use Rattle.sign_request.specs.CanonicalText.{pair_cmp, sorted_pairs}
use Rattle.sign_request.specs.Query.{Pair}
use Rattle.sign_request.proofs.Sorting.{sorted-from_sort}
use Rattle.sign_request.proofs.TextOrder.{pair_total, same_pair, IsSorted-map}
use Rattle.sigv4_canonical.specs.EncodedPairs.{shown_pair, shown_pairs, sides_text, side_lengths, cut_pairs, IsCut}

module _ (key value rest : List ℕ) where
  pub first_side : take (length key) (key ++ (value ++ rest)) ≡ key
  first_side = take-append_seam key (value ++ rest)

  pub second_side : take (length value) (drop (length key) (key ++ (value ++ rest))) ≡ value
  second_side = ap (take (length value)) (drop-append_seam key (value ++ rest)) ∙ take-append_seam value rest

  pub other_sides : drop (length value) (drop (length key) (key ++ (value ++ rest))) ≡ rest
  other_sides = ap (drop (length value)) (drop-append_seam key (value ++ rest)) ∙ drop-append_seam value rest

-- what is cut out
pub cut_pairs-sides : (pairs : List Pair) → cut_pairs (sides_text pairs) (side_lengths pairs) ≡ pairs
cut_pairs-sides [] = refl
cut_pairs-sides (p ∷ pairs) =
    let rest = sides_text pairs in
    ap₂ (λ (q : Pair) qs. q ∷ qs) (ap₂ (λ k v. (k, v)) (first_side p.0 p.1 rest) (second_side p.0 p.1 rest))
    (ap (λ text. cut_pairs text (side_lengths pairs)) (other_sides p.0 p.1 rest) ∙ cut_pairs-sides pairs)

-- and the text is long enough
pub IsCut-sides : (pairs : List Pair) → IsCut (sides_text pairs) (side_lengths pairs)
IsCut-sides [] = tt
IsCut-sides (p ∷ pairs) =
    let rest = sides_text pairs in
    let first = length-append p.0 (p.1 ++ rest) in
    let left = ap length (drop-append_seam p.0 (p.1 ++ rest)) in
    let second = length-append p.1 rest in
    (omega (arith, first), omega (arith, left, second), subst (λ text. IsCut text (side_lengths pairs)) (sym (other_sides p.0 p.1 rest)) (IsCut-sides pairs))

-- one pair more goes to the end of the text
pub sides_text-more : (pairs : List Pair) (p : Pair)
    → sides_text (pairs ++ p ∷ []) ≡ (sides_text pairs ++ p.0) ++ p.1
sides_text-more [] p = ap (λ t. p.0 ++ t) (append-nil p.1)
sides_text-more (q ∷ pairs) p =
    ap (λ t. q.0 ++ (q.1 ++ t)) (sides_text-more pairs p)
    ∙ sym (ap (λ t. t ++ p.1) (append_assoc q.0 (q.1 ++ sides_text pairs) p.0 ∙ ap (λ t. q.0 ++ t) (append_assoc q.1 (sides_text pairs) p.0))
    ∙ (append_assoc q.0 (q.1 ++ (sides_text pairs ++ p.0)) p.1 ∙ ap (λ t. q.0 ++ t) (append_assoc q.1 (sides_text pairs ++ p.0) p.1)))

-- pairs after a sort
pub sorted_pairs-from_sort : (xs ys : List (Bor (List ℕ) × Bor (List ℕ))) → IsPermutation xs ys
    → IsSorted (λ x y. pair_cmp (shown_pair x) (shown_pair y)) ys
    → shown_pairs ys ≡ sorted_pairs (shown_pairs xs)
unfolding sorted_pairs
sorted_pairs-from_sort xs ys moved up =
    sorted-from_sort pair_cmp pair_total same_pair (shown_pairs xs) (shown_pairs ys) (IsPermutation-map shown_pair xs ys moved) (IsSorted-map shown_pair pair_cmp ys up)
