-- The size of lent pairs, some of which are counted.
use Rattle.std.proofs.Common.{◌≡◌, ◌+◌, ◌≤◌, ◌<◌, ℕ, List, [], ◌∷◌, length, map, take, get_or, refl, sym, ◌∙◌, ap}
use Rattle.std.specs.Cow.{cow_str_bytes}
use Rattle.std.specs.List.{sum_by}
use Rattle.std.specs.declared.borrow.CowStr.{CowStr}
use Rattle.std.proofs.lemmas.List.Sums.{sum_by-cons, sum_by_more_le}
use Rattle.sign_request.specs.Query.{query_length}
use Rattle.signctl_by_line.specs.LentPairs.{lent_pair, lent_pairs}

sum_by-map : {X Y : Type 0} (f : Y → ℕ) (g : X → Y) (xs : List X)
    → sum_by f (map g xs) ≡ sum_by (λ x. f (g x)) xs
sum_by-map f g [] = refl
sum_by-map f g (x ∷ xs) = sum_by-cons f (g x) (map g xs) ∙ (ap (λ n. f (g x) + n) (sum_by-map f g xs) ∙ sym (sum_by-cons (λ y. f (g y)) x xs))

module _ {Z : Type 0} where
  -- the pairs so far and the next one are within the whole
  pub query_length_more_le : (xs : List (CowStr Z × CowStr Z)) (i : ℕ) (p : CowStr Z × CowStr Z)
      → i < length xs → p ≡ get_or xs i p
      → query_length (lent_pairs (take i xs)) + (length (cow_str_bytes p.0) + length (cow_str_bytes p.1))
      ≤ query_length (lent_pairs xs)
  query_length_more_le xs i p l is =
      let size : CowStr Z × CowStr Z → ℕ = λ q. length (cow_str_bytes q.0) + length (cow_str_bytes q.1) in
      let front = sum_by-map (λ q. length q.0 + length q.1) lent_pair (take i xs) in
      let whole = sum_by-map (λ q. length q.0 + length q.1) lent_pair xs in
      rw (front, whole, ap size is) (sum_by_more_le size xs i p l)
