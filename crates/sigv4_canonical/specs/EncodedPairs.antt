-- The pairs of a query after their encoding, whose sides stand one after another in one text.
use Rattle.std.specs.Prelude.{ℕ, ◌≤◌, List, [], ◌∷◌, ◌++◌, map, length, take, drop}
use Rattle.std.specs.Borrow.{Bor}
use Rattle.sign_request.specs.Query.{Pair}

-- a pair as the text has it
abbrev pub shown_pair : Bor (List ℕ) × Bor (List ℕ) → Pair
shown_pair p = (p.0.now, p.1.now)

abbrev pub shown_pairs : List (Bor (List ℕ) × Bor (List ℕ)) → List Pair
shown_pairs pairs = map shown_pair pairs

-- the sides of pairs, one after another
abbrev pub sides_text : List Pair → List ℕ
sides_text [] = []
sides_text (p ∷ pairs) = p.0 ++ (p.1 ++ sides_text pairs)

-- the lengths of both sides of each
abbrev pub side_lengths : List Pair → List (ℕ × ℕ)
side_lengths pairs = map (λ p. (length p.0, length p.1)) pairs

-- the pairs that stand in a text, by the lengths of their sides
abbrev pub cut_pairs : List ℕ → List (ℕ × ℕ) → List Pair
cut_pairs text [] = []
cut_pairs text (n ∷ lengths) =
    (take n.0 text, take n.1 (drop n.0 text)) ∷ cut_pairs (drop n.1 (drop n.0 text)) lengths

-- the text is as long as these sides are
abbrev pub IsCut : List ℕ → List (ℕ × ℕ) → Type 0
IsCut text [] = Unit {0}
IsCut text (n ∷ lengths) =
    (n.0 ≤ length text) × (n.1 ≤ length (drop n.0 text)) × IsCut (drop n.1 (drop n.0 text)) lengths
