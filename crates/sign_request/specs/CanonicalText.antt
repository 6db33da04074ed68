-- Pairs as one text that does not depend on their order.
use Rattle.std.specs.Prelude.{ℕ, List, [], ◌∷◌, ◌++◌, map, length, ◌==◌, if◌then◌else◌}
use Rattle.std.specs.Cmp.Lexicographic.{slice_cmp}
use Rattle.std.specs.Ordering.{nat_cmp, is_gt, ordering_then}
use Rattle.std.specs.declared.cmp.Ordering.{Ordering}
use Rattle.sign_request.specs.Query.{Pair, decoded_text}

-- the order of texts: byte by byte, and a text before those that it begins
abbrev pub text_cmp : List ℕ → List ℕ → Ordering
text_cmp = slice_cmp nat_cmp

-- the order of pairs: by key, then by value
abbrev pub pair_cmp : Pair → Pair → Ordering
pair_cmp p q = ordering_then (text_cmp p.0 q.0) (text_cmp p.1 q.1)

module _ {X : Type 0} (cmp : X → X → Ordering) where
  -- an ascending list with one more element, at its place
  abbrev pub insert_sorted : X → List X → List X
  insert_sorted x [] = x ∷ []
  insert_sorted x (y ∷ ys) = if is_gt (cmp x y) then y ∷ insert_sorted x ys else x ∷ y ∷ ys

  -- the same elements, ascending
  abbrev pub sorted : List X → List X
  sorted [] = []
  sorted (x ∷ xs) = insert_sorted x (sorted xs)

-- the same pairs, ascending by key and then by value
unfoldable pub sorted_pairs : List Pair → List Pair
sorted_pairs pairs = sorted pair_cmp pairs

-- the texts in a row, with one text between each two
abbrev pub joined_texts : List ℕ → List (List ℕ) → List ℕ
joined_texts between [] = []
joined_texts between (x ∷ []) = x
joined_texts between (x ∷ y ∷ xs) = x ++ between ++ joined_texts between (y ∷ xs)

-- a header: its name, the separator and its value
abbrev pub header_text : List ℕ → Pair → List ℕ
header_text sep p = p.0 ++ sep ++ p.1

-- a query parameter: no separator before an empty value
abbrev pub parameter_text : List ℕ → Pair → List ℕ
parameter_text sep p = if length p.1 == 0 then p.0 else p.0 ++ sep ++ p.1

-- the same, with the value decoded once
abbrev pub decoded_parameter_text : List ℕ → Pair → List ℕ
decoded_parameter_text sep p = if length p.1 == 0 then p.0 else p.0 ++ sep ++ decoded_text p.1

-- the pairs in order, each written as a text, and these joined
unfoldable pub canonical_text : (Pair → List ℕ) → List ℕ → List Pair → List ℕ
canonical_text pair_text between pairs = joined_texts between (map pair_text (sorted_pairs pairs))
