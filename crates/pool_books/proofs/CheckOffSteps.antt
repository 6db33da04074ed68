-- Tickets checked off one after another, each that of an item.
use Rattle.std.proofs.Common.{◌≡◌, ℕ, ◌<◌, ◌+◌, Bool, List, [], ◌∷◌, ◌++◌, Option, Some, None, is_some, length, get_or, take, drop, map, sym, ◌∙◌, ap, subst, arith}
use Rattle.std.specs.Prelude.{Contains, IsPermutation, MatchBool}
use Rattle.std.specs.Map.{lookup, remove_entry, keys_of}
use Rattle.std.proofs.lemmas.List.{append-nil, map-append, take_more, take-append-drop, drop_more, length-append, nil_from_length}
use Rattle.std.proofs.lemmas.List.Elements.{All-head}
use Rattle.std.proofs.lemmas.List.Sorted.{length_permutation}
use Rattle.pool_books.specs.Cleared.{joined}
use Rattle.pool_books.specs.Index.{AreOnceAmong}
use Rattle.pool_books.specs.declared.job.Ticket.{Ticket}
use Rattle.pool_books.proofs.Tickets.{Apart, same_ticket, no-key, checked_off-key, among-rest, among-left, among-same, checked_off-more}
use Rattle.pool_books.proofs.Joined.{joined-around, joined-more}

-- whether a ticket is there, by what was taken out
pub take_out-decides : {X : Type 0} (old new : List (Ticket × X)) (ticket : Ticket) (o : Option X) (b : Bool)
    → o ≡ lookup (same_ticket ticket) old → IsPermutation (remove_entry (same_ticket ticket) old) new
    → b ≡ is_some o
    → MatchBool b (IsPermutation (keys_of old) (ticket ∷ keys_of new)) (Contains (keys_of old) ticket → ⊥)
take_out-decides old new ticket None b found moved is =
    let P : Bool → Type 0 = λ v. MatchBool v (IsPermutation (keys_of old) (ticket ∷ keys_of new)) (Contains (keys_of old) ticket → ⊥) in
    subst P (sym is) (no-key old ticket (sym found))
take_out-decides old new ticket (Some x) b found moved is =
    let P : Bool → Type 0 = λ v. MatchBool v (IsPermutation (keys_of old) (ticket ∷ keys_of new)) (Contains (keys_of old) ticket → ⊥) in
    subst P (sym is) (checked_off-key old new ticket x (sym found) moved)

module _ {X : Type 0} (f : X → Ticket) (those : List Ticket) where
  module _ (xs : List X) (i : ℕ) (x : X) (keys : List Ticket) (below : i < length xs) (is : x ≡ get_or xs i x)
      (had : IsPermutation those (map f (take i xs) ++ keys)) where
    -- one ticket more
    pub check_off-step : (left : List Ticket) → IsPermutation keys (f x ∷ left)
        → IsPermutation those (map f (take (i + 1) xs) ++ left)
    check_off-step left now =
        let one : take (i + 1) xs ≡ take i xs ++ x ∷ [] = take_more xs i x below ∙ ap (λ y. take i xs ++ y ∷ []) (sym is) in
        let t : map f (take (i + 1) xs) ≡ map f (take i xs) ++ f x ∷ [] = ap (map f) one ∙ map-append f (take i xs) (x ∷ []) in
        subst (λ (l : List Ticket). IsPermutation those (l ++ left)) (sym t) (checked_off-more those (map f (take i xs)) keys (f x ∷ []) left had now)

    -- a ticket that is not there
    pub check_off-fail : (Contains keys (f x) → ⊥) → AreOnceAmong those (map f xs) → ⊥
    check_off-fail none once =
        let rest : List Ticket = map f (drop (i + 1) xs) in
        let whole : xs ≡ take i xs ++ (x ∷ drop (i + 1) xs) =
        sym (take-append-drop i xs) ∙ ap (λ l. take i xs ++ l) (drop_more xs i x below ∙ ap (λ y. y ∷ drop (i + 1) xs) (sym is)) in
        let split : map f xs ≡ map f (take i xs) ++ (f x ∷ rest) = ap (map f) whole ∙ map-append f (take i xs) (x ∷ drop (i + 1) xs) in
        let mine : AreOnceAmong keys (f x ∷ rest) = among-rest those (map f (take i xs)) keys (f x ∷ rest) had (subst (AreOnceAmong those) split once) in
        none (All-head (Contains keys) (f x) rest mine.among)

  module _ (lists : List (List X)) (i : ℕ) (list : List X) (keys : List Ticket) (below : i < length lists)
      (is : list ≡ get_or lists i list)
      (had : IsPermutation those (map f (joined (take i lists)) ++ keys)) where
    -- the tickets of one list more
    pub lists-step : (left : List Ticket) → IsPermutation keys (map f list ++ left)
        → IsPermutation those (map f (joined (take (i + 1) lists)) ++ left)
    lists-step left now =
        let t : map f (joined (take (i + 1) lists)) ≡ map f (joined (take i lists)) ++ map f list =
        ap (map f) (joined-more lists i list below is) ∙ map-append f (joined (take i lists)) list in
        subst (λ (l : List Ticket). IsPermutation those (l ++ left)) (sym t) (checked_off-more those (map f (joined (take i lists))) keys (map f list) left had now)

    -- a list of which one is not there
    pub lists-fail : (AreOnceAmong keys (map f list) → ⊥) → AreOnceAmong those (map f (joined lists)) → ⊥
    lists-fail none once =
        let around = joined-around lists i list below is in
        let split : map f (joined lists) ≡ map f (joined (take i lists)) ++ (map f list ++ map f around.0) =
        ap (map f) around.1 ∙ map-append f (joined (take i lists)) (list ++ around.0) ∙ ap (λ l. map f (joined (take i lists)) ++ l) (map-append f list around.0) in
        none (among-left keys (map f list) (map f around.0)
        (among-rest those (map f (joined (take i lists))) keys (map f list ++ map f around.0) had (subst (AreOnceAmong those) split once)))

-- whether both are checked off, and nothing is left
module _ (those answered more : List Ticket) (apart : Apart those) where
  pub once-failed-first : (AreOnceAmong those answered → ⊥) → IsPermutation those (answered ++ more) → ⊥
  once-failed-first none moved = none (among-left those answered more (among-same those (answered ++ more) moved apart))

  module _ (keys : List Ticket) (had : IsPermutation those (answered ++ keys)) where
    pub once-failed-second : (AreOnceAmong keys more → ⊥) → IsPermutation those (answered ++ more) → ⊥
    once-failed-second none moved = none (among-rest those answered keys more had (among-same those (answered ++ more) moved apart))

    module _ (left : List Ticket) (now : IsPermutation keys (more ++ left)) where
      all-checked_off : IsPermutation those ((answered ++ more) ++ left)
      all-checked_off = checked_off-more those answered keys more left had now

      pub once-left : (length left ≡ 0 → ⊥) → IsPermutation those (answered ++ more) → ⊥
      once-left some moved =
          let a : length (answered ++ more) ≡ length those = length_permutation those (answered ++ more) moved in
          let b : length ((answered ++ more) ++ left) ≡ length those = length_permutation those ((answered ++ more) ++ left) all-checked_off in
          let n : length ((answered ++ more) ++ left) ≡ length (answered ++ more) + length left = length-append (answered ++ more) left in
          let none : length left ≡ 0 = omega (arith, a, b, n) in
          some none

      pub once-each : length left ≡ 0 → IsPermutation those (answered ++ more)
      once-each none =
          let e : (answered ++ more) ++ left ≡ answered ++ more = ap (λ l. (answered ++ more) ++ l) (nil_from_length left none) ∙ append-nil (answered ++ more) in
          subst (λ (l : List Ticket). IsPermutation those l) e all-checked_off
