-- Two lists of one length whose items are related at each place: what reads the same of related items reads
-- the same of the lists.
use Rattle.std.proofs.Common.{◌≡◌, Bool, true, false, cond, List, [], ◌∷◌, ◌++◌, Option, Some, refl, filter, filter_map, find, map}
use Rattle.std.specs.List.{list_any, list_all}
use Rattle.sign_base.specs.EachAfter.{each_after}
use Rattle.sequential_signer.specs.Transcript.{last_of}

-- the items at each place are related
pub data Pairwise {X : Type 0} (R : X → X → Type 0) : List X → List X → Type 0 where
  none : Pairwise R [] []
  more : {x y : X} {xs ys : List X} → R x y → Pairwise R xs ys → Pairwise R (x ∷ xs) (y ∷ ys)

-- lists and items that are related
pub record AfterPairwise {X : Type 0} (R : X → X → Type 0) (p q : List X × X) : Type 0 where
  pub before : Pairwise R p.0 q.0
  pub item : R p.1 q.1

module _ {X : Type 0} {R : X → X → Type 0} where
  -- one more item at each end
  pub pairwise-more : {xs ys : List X} {x y : X} → Pairwise R xs ys → R x y
      → Pairwise R (xs ++ x ∷ []) (ys ++ y ∷ [])
  pairwise-more none r = more r none
  pairwise-more (more s rest) r = more s (pairwise-more rest r)

  -- each item with those before it
  pub each_after-pairwise : {xs ys : List X} → Pairwise R xs ys → (before after : List X)
      → Pairwise R before after → Pairwise (AfterPairwise R) (each_after before xs) (each_after after ys)
  each_after-pairwise none before after b = none
  each_after-pairwise (more {x = x} {y = y} r rest) before after b =
      more (record { before = b; item = r }) (each_after-pairwise rest (before ++ x ∷ []) (after ++ y ∷ []) (pairwise-more b r))

  -- what is the same of related items
  module _ {Y : Type 0} where
    pub map-pairwise : (g : X → Y) → ((x y : X) → R x y → g x ≡ g y) → {xs ys : List X} → Pairwise R xs ys
        → map g xs ≡ map g ys
    map-pairwise g same none = refl
    map-pairwise g same (more r rest) = rw (same _ _ r, map-pairwise g same rest) refl

    pub filter_map-pairwise : (g : X → Option Y) → ((x y : X) → R x y → g x ≡ g y) → {xs ys : List X}
        → Pairwise R xs ys → filter_map g xs ≡ filter_map g ys
    filter_map-pairwise g same none = refl
    filter_map-pairwise g same (more r rest) = rw (same _ _ r, filter_map-pairwise g same rest) refl

    -- and is so of the last ones
    pub last_of-pairwise : (g : Option X → Y) → ((x y : X) → R x y → g (Some x) ≡ g (Some y))
        → {xs ys : List X} → Pairwise R xs ys → g (last_of xs) ≡ g (last_of ys)
    last_of-pairwise g same none = refl
    last_of-pairwise g same (more r none) = same _ _ r
    last_of-pairwise g same (more _ (more r rest)) = last_of-pairwise g same (more r rest)

  -- a test that related items pass alike keeps related items, finds such, and is passed by one, or by all, of
  -- both lists or of none
  module _ (p : X → Bool) (same : (x y : X) → R x y → p x ≡ p y) where
    pub filter-pairwise : {xs ys : List X} → Pairwise R xs ys → Pairwise R (filter p xs) (filter p ys)
    filter-pairwise none = none
    filter-pairwise {xs = x ∷ xs} {ys = y ∷ ys} (more r rest) =
        rw (same x y r)
        (elim (p y) as (λ v. Pairwise R (cond v (x ∷ filter p xs) (filter p xs)) (cond v (y ∷ filter p ys) (filter p ys)))
        [ true ↦ more r (filter-pairwise rest) | false ↦ filter-pairwise rest ])

    pub list_any-pairwise : {xs ys : List X} → Pairwise R xs ys → list_any p xs ≡ list_any p ys
    list_any-pairwise none = refl
    list_any-pairwise (more r rest) = rw (same _ _ r, list_any-pairwise rest) refl

    pub list_all-pairwise : {xs ys : List X} → Pairwise R xs ys → list_all p xs ≡ list_all p ys
    list_all-pairwise none = refl
    list_all-pairwise (more r rest) = rw (same _ _ r, list_all-pairwise rest) refl

    pub find-pairwise : {Y : Type 0} (g : Option X → Y) → ((x y : X) → R x y → g (Some x) ≡ g (Some y))
        → {xs ys : List X} → Pairwise R xs ys → g (find p xs) ≡ g (find p ys)
    find-pairwise g found none = refl
    find-pairwise g found {xs = x ∷ xs} {ys = y ∷ ys} (more r rest) =
        rw (same x y r)
        (elim (p y) as (λ v. g (cond v (Some x) (find p xs)) ≡ g (cond v (Some y) (find p ys)))
        [ true ↦ found x y r | false ↦ find-pairwise g found rest ])
