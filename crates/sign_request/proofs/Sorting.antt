-- A list has one ascending order, where elements that tie are the same.
use Rattle.std.proofs.Common.{◌≡◌, ℕ, ◌+◌, ◌<◌, suc, inl, inr, true, false, List, [], ◌∷◌, ◌++◌, length, get_or, cond, refl, sym, ◌∙◌, ap, subst, zero-add, arith}
use Rattle.std.specs.Cmp.{IsTotalOrder}
use Rattle.std.specs.List.{AllByRecursion, sum_by}
use Rattle.std.specs.List.Sorted.{IsPermutation, IsSorted}
use Rattle.std.specs.declared.cmp.Ordering.{Ordering}
use Rattle.std.specs.declared.cmp.Ordering.TheVariants.{Less, Equal, Greater}
use Rattle.std.specs.Ordering.{is_gt, is_lt, ordering_reverse}
use Rattle.std.proofs.lemmas.Bool.{cases_Bool}
use Rattle.std.proofs.lemmas.Cmp.{tied_itself}
use Rattle.std.proofs.lemmas.Cmp as orders
use Rattle.std.proofs.lemmas.List.Sorted.{ranks_by, sorted_far, sum_by-IsPermutation}
use Rattle.std.proofs.lemmas.List.Sums.{sum_by-cons}
use Rattle.sign_request.specs.CanonicalText.{insert_sorted, sorted}
use Rattle.sign_request.specs.KeyOrder.{Ascends}

-- the two ways to say that y is not below x
turned : (r : Ordering) → is_lt r ≡ false → is_gt (ordering_reverse r) ≡ false
turned Less h = cc
turned Equal h = refl
turned Greater h = refl

turned_gt : (r : Ordering) → is_gt r ≡ true → is_gt (ordering_reverse r) ≡ false
turned_gt Less h = cc
turned_gt Equal h = cc
turned_gt Greater h = refl

neither : (r : Ordering) → is_gt r ≡ false → is_gt (ordering_reverse r) ≡ false → r ≡ Equal
neither Less h k = cc
neither Equal h k = refl
neither Greater h k = cc

module _ {X : Type 0} where
  pub all_mapped : (P Q : X → Type 0) → ((x : X) → P x → Q x) → (xs : List X) → AllByRecursion P xs
      → AllByRecursion Q xs
  all_mapped P Q f [] h = tt
  all_mapped P Q f (x ∷ xs) h = (f x h.0, all_mapped P Q f xs h.1)

  all_from_places : (P : X → Type 0) (xs : List X) → ((k : ℕ) (d : X) → k < length xs → P (get_or xs k d))
      → AllByRecursion P xs
  all_from_places P [] h = tt
  all_from_places P (x ∷ xs) h = (h 0 x (omega arith), all_from_places P xs (λ k d l. h (suc k) d (omega arith)))

  no_sum : (f : X → ℕ) (xs : List X) → AllByRecursion (λ x. f x ≡ 0) xs → sum_by f xs ≡ 0
  no_sum f [] h = refl
  no_sum f (x ∷ xs) h = sum_by-cons f x xs ∙ (ap (λ n. n + sum_by f xs) h.0 ∙ (zero-add _ ∙ no_sum f xs h.1))

  module _ (cmp : X → X → Ordering) (o : IsTotalOrder cmp) where
    sum_by-insert : (f : X → ℕ) (x : X) (ys : List X) → sum_by f (insert_sorted cmp x ys) ≡ f x + sum_by f ys
    sum_by-insert f x [] = sum_by-cons f x []
    sum_by-insert f x (y ∷ ys) =
        elim (cases_Bool (is_gt (cmp x y))) [
          | inl t ↦ rw t (let rest = sum_by-insert f x ys in let one = sum_by-cons f y (insert_sorted cmp x ys) in let two = sum_by-cons f y ys in omega (arith, rest, one, two))
          | inr n ↦ rw n (sum_by-cons f x (y ∷ ys))
        ]

    pub sum_by-sorted : (f : X → ℕ) (xs : List X) → sum_by f (sorted cmp xs) ≡ sum_by f xs
    sum_by-sorted f [] = refl
    sum_by-sorted f (x ∷ xs) = sum_by-insert f x (sorted cmp xs) ∙ (ap (λ n. f x + n) (sum_by-sorted f xs) ∙ sym (sum_by-cons f x xs))

    all_inserted : (P : X → Type 0) (x : X) (ys : List X) → P x → AllByRecursion P ys
        → AllByRecursion P (insert_sorted cmp x ys)
    all_inserted P x [] p h = (p, tt)
    all_inserted P x (y ∷ ys) p h =
        elim (cases_Bool (is_gt (cmp x y))) [
          | inl t ↦ rw t (h.0, all_inserted P x ys p h.1)
          | inr n ↦ rw n (p, h)
        ]

    all_sorted : (P : X → Type 0) (xs : List X) → AllByRecursion P xs → AllByRecursion P (sorted cmp xs)
    all_sorted P [] h = tt
    all_sorted P (x ∷ xs) h = all_inserted P x (sorted cmp xs) h.0 (all_sorted P xs h.1)

    insert-append : (x : X) (xs ys : List X) → AllByRecursion (λ y. is_gt (cmp x y) ≡ false) ys
        → insert_sorted cmp x (xs ++ ys) ≡ insert_sorted cmp x xs ++ ys
    insert-append x [] [] h = refl
    insert-append x [] (y ∷ ys) h = rw h.0 refl
    insert-append x (z ∷ xs) ys h =
        elim (cases_Bool (is_gt (cmp x z))) [
          | inl t ↦ rw t (ap (λ zs. z ∷ zs) (insert-append x xs ys h))
          | inr n ↦ rw n refl
        ]

    -- two lists of which no element of the first is above one of the second
    pub sorted-append : (xs ys : List X)
        → AllByRecursion (λ x. AllByRecursion (λ y. is_gt (cmp x y) ≡ false) ys) xs
        → sorted cmp (xs ++ ys) ≡ sorted cmp xs ++ sorted cmp ys
    sorted-append [] ys h = refl
    sorted-append (x ∷ xs) ys h =
        ap (insert_sorted cmp x) (sorted-append xs ys h.1) ∙ insert-append x (sorted cmp xs) (sorted cmp ys) (all_sorted (λ y. is_gt (cmp x y) ≡ false) ys h.0)

    Ascends-insert : (x : X) (ys : List X) → Ascends cmp ys → Ascends cmp (insert_sorted cmp x ys)
    Ascends-insert x [] h = (tt, tt)
    Ascends-insert x (y ∷ ys) h =
        elim (cases_Bool (is_gt (cmp x y))) [
          | inl t ↦ rw t (all_inserted (λ z. is_gt (cmp y z) ≡ false) x ys (ap is_gt (o.antisymm y x) ∙ turned_gt (cmp x y) t) h.0, Ascends-insert x ys h.1)
          | inr n ↦ rw n ((n, all_mapped (λ z. is_gt (cmp y z) ≡ false) (λ z. is_gt (cmp x z) ≡ false) (λ z b. orders.upto o x y z n b) ys h.0), h)
        ]

    pub Ascends-sorted : (xs : List X) → Ascends cmp (sorted cmp xs)
    Ascends-sorted [] = tt
    Ascends-sorted (x ∷ xs) = Ascends-insert x (sorted cmp xs) (Ascends-sorted xs)

    -- what a sort ensures
    pub Ascends-from_sort : (xs : List X) → IsSorted cmp xs → Ascends cmp xs
    Ascends-from_sort [] h = tt
    Ascends-from_sort (x ∷ xs) h =
        let far = sorted_far (λ y z. is_lt (cmp y z)) (ranks_by o (λ y. y)) (x ∷ xs) h in (
          all_from_places (λ y. is_gt (cmp x y) ≡ false) xs
              (λ k d l. ap is_gt (o.antisymm x (get_or xs k d)) ∙ turned (cmp (get_or xs k d) x) (far 0 (suc k) d (omega arith) (omega arith))),
          Ascends-from_sort xs (λ k d low high.
              let At : ℕ → Type 0 = λ n. is_lt (cmp (get_or (x ∷ xs) n d) (get_or xs k d)) ≡ false in
              let next : suc k + 1 ≡ suc (k + 1) = omega arith in
              subst At next (h (suc k) d (omega arith) (omega arith))),
        )

    module _ (same : (x y : X) → cmp x y ≡ Equal → x ≡ y) where
      -- the first of an ascending list is not above what another one with the same elements begins with
      first_not_above : (x y : X) (xs ys : List X) → Ascends cmp (x ∷ xs)
          → ((f : X → ℕ) → sum_by f (x ∷ xs) ≡ sum_by f (y ∷ ys)) → is_gt (cmp x y) ≡ false
      first_not_above x y xs ys h e =
          let below : X → ℕ = λ z. cond (is_gt (cmp x z)) 1 0 in
          let none : sum_by below (x ∷ xs) ≡ 0 = no_sum below (x ∷ xs) (rw (tied_itself o x) refl, all_mapped _ _ (λ z b. rw b refl) xs h.0) in
          elim (cases_Bool (is_gt (cmp x y))) [
            | inl t ↦ absurd (let some = sum_by-cons below y ys in let same_sum = e below in let one : below y ≡ 1 = rw t refl in omega (arith, some, same_sum, one, none))
            | inr n ↦ n
          ]

      pub one_order : (xs ys : List X) → Ascends cmp xs → Ascends cmp ys
          → ((f : X → ℕ) → sum_by f xs ≡ sum_by f ys) → xs ≡ ys
      one_order [] [] h k e = refl
      one_order [] (y ∷ ys) h k e = absurd (let one = e (λ _. 1) in let some = sum_by-cons (λ _. 1) y ys in omega (arith, one, some))
      one_order (x ∷ xs) [] h k e = absurd (let one = e (λ _. 1) in let some = sum_by-cons (λ _. 1) x xs in omega (arith, one, some))
      one_order (x ∷ xs) (y ∷ ys) h k e =
          let back : is_gt (ordering_reverse (cmp x y)) ≡ false = ap is_gt (sym (o.antisymm y x)) ∙ first_not_above y x ys xs k (λ f. sym (e f)) in
          let front : x ≡ y = same x y (neither (cmp x y) (first_not_above x y xs ys h e) back) in
          ap (λ z. z ∷ xs) front ∙ ap (λ zs. y ∷ zs) (one_order xs ys h.1 k.1 (λ f.
          let one = sum_by-cons f x xs in let two = sum_by-cons f y ys in let both = e f in let heads : f x ≡ f y = ap f front in omega (arith, one, two, both, heads)))

      -- the one ascending order of a list is that of each list with the same elements
      pub sorted-from_sort : (xs ys : List X) → IsPermutation xs ys → IsSorted cmp ys → ys ≡ sorted cmp xs
      sorted-from_sort xs ys moved h =
          one_order ys (sorted cmp xs) (Ascends-from_sort ys h) (Ascends-sorted xs)
          (λ f. sum_by-IsPermutation f xs ys moved ∙ sym (sum_by-sorted f xs))

      pub sorted-IsPermutation : (xs ys : List X) → IsPermutation xs ys → sorted cmp xs ≡ sorted cmp ys
      sorted-IsPermutation xs ys moved =
          one_order (sorted cmp xs) (sorted cmp ys) (Ascends-sorted xs) (Ascends-sorted ys)
          (λ f. sum_by-sorted f xs ∙ (sym (sum_by-IsPermutation f xs ys moved) ∙ sym (sum_by-sorted f ys)))
