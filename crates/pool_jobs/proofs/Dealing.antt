-- Items dealt out to so many lists, one after another.
use Rattle.std.proofs.Common.{◌≡◌, ℕ, zero, suc, ◌+◌, ◌<◌, ◌%◌, ◌==◌, Bool, true, false, List, [], ◌∷◌, ◌++◌, map, set, get_or, filter, length, refl, sym, ◌∙◌, ap, subst, arith}
use Rattle.std.specs.List.{range_with_len}
use Rattle.std.proofs.lemmas.Bool.Decides.{nat_tests}
use Rattle.std.proofs.lemmas.Nat.{mod_below}
use Rattle.std.proofs.lemmas.List.{ext_get_or, get_or-set_same, get_or-set_other, length-set, length-map, get_or-map, map-set}
use Rattle.std.proofs.lemmas.List.FromFn.{length-map-range_with_len, map-range_with_len_more, get_or-map-range_with_len}
use Rattle.std.proofs.lemmas.List.Elements.{filter-append}

last : (a n : ℕ) → range_with_len a (suc n) ≡ range_with_len a n ++ (a + n) ∷ []
last a zero = let e : a ≡ a + zero = omega arith in ap (λ k. k ∷ []) e
last a (suc n) = let e : a + 1 + n ≡ a + suc n = omega arith in ap (λ l. a ∷ l) (last (a + 1) n ∙ ap (λ k. range_with_len (a + 1) n ++ k ∷ []) e)

one_more : (n : ℕ) → range_with_len 0 (n + 1) ≡ range_with_len 0 n ++ n ∷ []
one_more n = let e : n + 1 ≡ suc n = omega arith in let f : 0 + n ≡ n = omega arith in ap (range_with_len 0) e ∙ last 0 n ∙ ap (λ k. range_with_len 0 n ++ k ∷ []) f

-- there is a next list
pub next_below : (j count lists : ℕ) → count ≡ lists → 0 < lists → j % count < lists
next_below j count lists e more = subst (λ n. j % n < lists) (sym e) (mod_below j lists more)

map_append : {X Y : Type 0} (f : X → Y) (xs ys : List X) → map f (xs ++ ys) ≡ map f xs ++ map f ys
map_append f [] ys = refl
map_append f (x ∷ xs) ys = ap (λ l. f x ∷ l) (map_append f xs ys)

append_none : {X : Type 0} (xs : List X) → xs ++ [] ≡ xs
append_none [] = refl
append_none (x ∷ xs) = ap (λ l. x ∷ l) (append_none xs)

module _ {X : Type 0} (item : ℕ → ℕ → X) (lists : ℕ) where
  -- the items of one list, out of so many
  abbrev pub dealt_to : ℕ → ℕ → List X
  dealt_to n list = map (item list) (filter (λ j. j % lists == list) (range_with_len 0 n))

  -- all lists
  abbrev pub dealt : ℕ → List (List X)
  dealt n = map (dealt_to n) (range_with_len 0 lists)

  split : (n list : ℕ)
      → dealt_to (n + 1) list ≡ dealt_to n list ++ map (item list) (filter (λ j. j % lists == list) (n ∷ []))
  split n list =
      ap (λ l. map (item list) (filter (λ j. j % lists == list) l)) (one_more n)
      ∙ ap (map (item list)) (filter-append (λ j. j % lists == list) (range_with_len 0 n) (n ∷ []))
      ∙ map_append (item list) (filter (λ j. j % lists == list) (range_with_len 0 n)) (filter (λ j. j % lists == list) (n ∷ []))

  gets : (n list : ℕ) → (n % lists == list) ≡ true
      → dealt_to (n + 1) list ≡ dealt_to n list ++ item list n ∷ []
  gets n list t = split n list ∙ rw t refl

  keeps : (n list : ℕ) → (n % lists == list) ≡ false → dealt_to (n + 1) list ≡ dealt_to n list
  keeps n list t = split n list ∙ rw t (append_none (dealt_to n list))

  at : (n k : ℕ) → k < lists → get_or (dealt n) k [] ≡ dealt_to n k
  at n k lt = get_or-map-range_with_len (dealt_to n) 0 lists k k [] lt (omega arith)

  long : (n : ℕ) → length (dealt n) ≡ lists
  long n = length-map-range_with_len (dealt_to n) 0 lists

  -- the list that is next gets the next item
  pub deals_next : (n next : ℕ) → n % lists ≡ next → next < lists
      → dealt (n + 1) ≡ set (dealt n) next (get_or (dealt n) next [] ++ item next n ∷ [])
  deals_next n next is lt =
      ext_get_or [] (dealt (n + 1)) (set (dealt n) next (get_or (dealt n) next [] ++ item next n ∷ []))
      (long (n + 1) ∙ sym (long n) ∙ sym (length-set (dealt n) next (get_or (dealt n) next [] ++ item next n ∷ [])))
      (λ k within. by_test k (omega (arith, long (n + 1), within)) (n % lists == k) refl)
    where
      new : List X
      new = get_or (dealt n) next [] ++ item next n ∷ []

      by_test : (k : ℕ) → k < lists → (b : Bool) → (n % lists == k) ≡ b
          → get_or (dealt (n + 1)) k [] ≡ get_or (set (dealt n) next new) k []
      by_test k kl true t =
          let e : k ≡ next = grind (arith, nat_tests) in
          at (n + 1) k kl ∙ gets n k t ∙ ap (λ l. l ++ item k n ∷ []) (sym (at n k kl)) ∙ ap (λ i. get_or (dealt n) i [] ++ item i n ∷ []) e
          ∙ sym (get_or-set_same (dealt n) next new [] (omega (arith, long n))) ∙ ap (λ i. get_or (set (dealt n) next new) i []) (sym e)
      by_test k kl false t =
          let e : k ≡ next → ⊥ = λ same. grind (arith, nat_tests) in
          at (n + 1) k kl ∙ keeps n k t ∙ sym (at n k kl) ∙ sym (get_or-set_other (dealt n) next k new [] e)

  -- so many empty lists are dealt out, seen through a view
  pub empties_len : {V : Type 0} (view : V → List X) (work : List V) (n : ℕ)
      → map view work ≡ map (dealt_to 0) (range_with_len 0 n) → length work ≡ n
  empties_len view work n e = sym (length-map work view) ∙ ap length e ∙ length-map-range_with_len (dealt_to 0) 0 n

  -- one more empty list
  pub one_empty_more : {V : Type 0} (view : V → List X) (work : List V) (new : V) (n : ℕ)
      → map view work ≡ map (dealt_to 0) (range_with_len 0 n) → view new ≡ []
      → map view (work ++ new ∷ []) ≡ map (dealt_to 0) (range_with_len 0 (n + 1))
  one_empty_more view work new n e empty =
      map_append view work (new ∷ []) ∙ ap (λ l. l ++ view new ∷ []) e ∙ ap (λ x. map (dealt_to 0) (range_with_len 0 n) ++ x ∷ []) empty
      ∙ sym (map-range_with_len_more (dealt_to 0) 0 n n (omega arith))

  -- there is a list for the next item
  pub next_list : {V : Type 0} (view : V → List X) (work : List V) (n next : ℕ)
      → map view work ≡ dealt n → next < lists → next < length work
  next_list view work n next is lt = omega (arith, sym (length-map work view) ∙ ap length is ∙ long n, lt)

  -- the next list, seen through a view, has the next item more
  pub deals_through : {V : Type 0} (view : V → List X) (work : List V) (n next : ℕ) (old new : V)
      → map view work ≡ dealt n → n % lists ≡ next → next < lists
      → old ≡ get_or work next old → view new ≡ view old ++ item next n ∷ []
      → map view (set work next new) ≡ dealt (n + 1)
  deals_through view work n next old new is at_next lt was more =
      let seen : get_or (dealt n) next [] ≡ view old =
      ap (λ l. get_or l next []) (sym is) ∙ get_or-map view work next old [] (next_list view work n next is lt) ∙ ap view (sym was) in
      map-set view work next new
      ∙ ap (λ l. set l next (view new)) is
      ∙ ap (λ l. set (dealt n) next l) (more ∙ ap (λ l. l ++ item next n ∷ []) (sym seen))
      ∙ sym (deals_next n next at_next lt)
