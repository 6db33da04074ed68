-- Pairs that are sorted by key, while those of one key still stand in any order.
use Rattle.std.specs.Prelude.{◌≡◌, ℕ, false, ⊤, List, [], ◌∷◌, take, drop}
use Rattle.std.specs.List.{AllByRecursion}
use Rattle.std.specs.Ordering.{is_gt}
use Rattle.std.specs.declared.cmp.Ordering.{Ordering}
use Rattle.std.specs.declared.cmp.Ordering.TheVariants.{Less}
use Rattle.sign_request.specs.Query.{Pair}
use Rattle.sign_request.specs.CanonicalText.{text_cmp}

-- no element is above a later one
abbrev pub Ascends : {X : Type 0} → (X → X → Ordering) → List X → Type 0
Ascends cmp [] = ⊤
Ascends cmp (x ∷ xs) = AllByRecursion (λ y. is_gt (cmp x y) ≡ false) xs × Ascends cmp xs

-- the order of pairs by key alone
abbrev pub key_cmp : Pair → Pair → Ordering
key_cmp p q = text_cmp p.0 q.0

-- the first n pairs have one key, which is below those of the others
abbrev pub BeginsWithKey : ℕ → List Pair → Type 0
BeginsWithKey n pairs =
    (key : List ℕ) × AllByRecursion (λ p. p.0 ≡ key) (take n pairs)
    × AllByRecursion (λ p. text_cmp key p.0 ≡ Less) (drop n pairs)
