-- What passes a test that was asked of each element.
use Rattle.std.proofs.Common.{◌≡◌, Bool, true, false, List, [], ◌∷◌, ◌++◌, refl, ap}
use Rattle.std.specs.List.{AllZip, items_where_true}

module _ {X : Type 0} (R : X → Bool → Type 0) where
  pub items_where_true-yes : (xs : List X) (bs : List Bool) (x : X) → AllZip R xs bs
      → items_where_true (bs ++ true ∷ []) (xs ++ x ∷ []) ≡ items_where_true bs xs ++ x ∷ []
  items_where_true-yes [] [] x h = refl
  items_where_true-yes [] (b ∷ bs) x h = absurd h
  items_where_true-yes (y ∷ xs) [] x h = absurd h
  items_where_true-yes (y ∷ xs) (true ∷ bs) x h = ap (λ zs. y ∷ zs) (items_where_true-yes xs bs x h.1)
  items_where_true-yes (y ∷ xs) (false ∷ bs) x h = items_where_true-yes xs bs x h.1

  pub items_where_true-no : (xs : List X) (bs : List Bool) (x : X) → AllZip R xs bs
      → items_where_true (bs ++ false ∷ []) (xs ++ x ∷ []) ≡ items_where_true bs xs
  items_where_true-no [] [] x h = refl
  items_where_true-no [] (b ∷ bs) x h = absurd h
  items_where_true-no (y ∷ xs) [] x h = absurd h
  items_where_true-no (y ∷ xs) (true ∷ bs) x h = ap (λ zs. y ∷ zs) (items_where_true-no xs bs x h.1)
  items_where_true-no (y ∷ xs) (false ∷ bs) x h = items_where_true-no xs bs x h.1
