-- How many of the first elements of a list pass a test, and how many items the first lists have.
use Rattle.std.proofs.Common.{◌≡◌, ℕ, zero, suc, ◌+◌, ◌<◌, ◌≤◌, List, [], ◌∷◌, length, take, get_or, ap, arith}
use Rattle.std.specs.Global.{Vec}
use Rattle.std.proofs.lemmas.List.{length-append}
use Rattle.pool_books.specs.Cleared.{joined, lists_of}

-- the items of the lists before one, and its own, are no more than all
pub lists_before : {X : Type 0} (vectors : List (Vec X)) (i : ℕ) (v : Vec X) → i < length vectors
    → v ≡ get_or vectors i v
    → length (joined (lists_of (take i vectors))) + length v.items ≤ length (joined (lists_of vectors))
lists_before {X} [] i v below is = absurd (omega arith)
lists_before {X} (w ∷ vectors) zero v below is =
    omega (arith, ap (λ (u : Vec X). length u.items) is, length-append w.items (joined (lists_of vectors)))
lists_before {X} (w ∷ vectors) (suc i) v below is =
    omega (
      arith,
      length-append w.items (joined (lists_of (take i vectors))),
      length-append w.items (joined (lists_of vectors)),
      lists_before vectors i v (omega arith) is,
    )
