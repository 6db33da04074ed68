-- Lists: one more item at the end, and items left out. Tests: their parts.
use Rattle.std.proofs.Common.{◌≡◌, Bool, true, false, not, cond, ◌&&◌, ◌||◌, List, [], ◌∷◌, ◌++◌, Option, Some, None, refl, sym, ◌∙◌, ap, filter, filter_map, fold, find}
use Rattle.std.specs.List.{list_any, list_all}
use Rattle.std.proofs.lemmas.List.{append-nil, append_assoc}
use Rattle.std.proofs.lemmas.List.Elements.{filter-append}
use Rattle.sign_base.specs.EachAfter.{each_after}
use Rattle.sequential_signer.specs.Transcript.{last_of}
use Rattle.sign_base.proofs.Truth.{and_left, and_right}

-- a test beside one that fails, or that is passed
pub or_false : (a : Bool) → (a || false) ≡ a
or_false true = refl
or_false false = refl

pub or_true : (a : Bool) → (a || true) ≡ true
or_true true = refl
or_true false = refl

pub and_false : (a : Bool) → (a && false) ≡ false
and_false true = refl
and_false false = refl

pub and_true : (a : Bool) → (a && true) ≡ a
and_true true = refl
and_true false = refl

-- a test and its contrary are never both passed
pub and_not : (a : Bool) → (a && not a) ≡ false
and_not true = refl
and_not false = refl

-- a conjunction whose middle part fails
pub and_false_and : (a b : Bool) → ((a && false) && b) ≡ false
and_false_and true b = refl
and_false_and false b = refl

-- what cannot be true is false
pub false_by : (v : Bool) → (v ≡ true → ⊥) → v ≡ false
false_by true h = absurd (h refl)
false_by false h = refl

-- of a test and its contrary one is passed
pub not_true : (b : Bool) → not b ≡ true → b ≡ false
not_true false h = refl
not_true true h = cc

pub not_false : (b : Bool) → not b ≡ false → b ≡ true
not_false true h = refl
not_false false h = cc

module _ {X : Type 0} where
  -- items that all pass a test all pass one that follows from it
  pub list_all-by : (p q : X → Bool) → ((x : X) → p x ≡ true → q x ≡ true) → (xs : List X)
      → list_all p xs ≡ true → list_all q xs ≡ true
  list_all-by p q f [] h = refl
  list_all-by p q f (x ∷ xs) h =
      (elim (p x) as (λ v. p x ≡ v → (v && list_all p xs) ≡ true → (q x && list_all q xs) ≡ true)
      [ true ↦ λ e r. rw (f x e) (list_all-by p q f xs r) | false ↦ λ e r. (cc) ]) refl h

  -- tests that agree on every item keep, require and find the same
  pub filter-same : (p q : X → Bool) → ((x : X) → p x ≡ q x) → (xs : List X) → filter p xs ≡ filter q xs
  filter-same p q f [] = refl
  filter-same p q f (x ∷ xs) = rw (f x, filter-same p q f xs) refl

  pub list_all-same : (p q : X → Bool) → ((x : X) → p x ≡ q x) → (xs : List X) → list_all p xs ≡ list_all q xs
  list_all-same p q f [] = refl
  list_all-same p q f (x ∷ xs) = rw (f x, list_all-same p q f xs) refl

  pub find-same : (p q : X → Bool) → ((x : X) → p x ≡ q x) → (xs : List X) → find p xs ≡ find q xs
  find-same p q f [] = refl
  find-same p q f (x ∷ xs) = rw (f x, find-same p q f xs) refl

  -- where two tests agree on what the list holds, they find, keep and require the same
  pub list_all-same_on : (p q r : X → Bool) → ((x : X) → r x ≡ true → p x ≡ q x) → (xs : List X)
      → list_all r xs ≡ true → list_all p xs ≡ list_all q xs
  list_all-same_on p q r f [] h = refl
  list_all-same_on p q r f (x ∷ xs) h =
      let here : p x ≡ q x = f x (and_left _ _ h) in
      let later : list_all p xs ≡ list_all q xs = list_all-same_on p q r f xs (and_right _ _ h) in
      rw (here, later) refl

  pub filter-same_on : (p q r : X → Bool) → ((x : X) → r x ≡ true → p x ≡ q x) → (xs : List X)
      → list_all r xs ≡ true → filter p xs ≡ filter q xs
  filter-same_on p q r f [] h = refl
  filter-same_on p q r f (x ∷ xs) h =
      let here : p x ≡ q x = f x (and_left _ _ h) in
      let later : filter p xs ≡ filter q xs = filter-same_on p q r f xs (and_right _ _ h) in
      rw (here, later) refl

  pub find-same_on : (p q r : X → Bool) → ((x : X) → r x ≡ true → p x ≡ q x) → (xs : List X)
      → list_all r xs ≡ true → find p xs ≡ find q xs
  find-same_on p q r f [] h = refl
  find-same_on p q r f (x ∷ xs) h =
      let here : p x ≡ q x = f x (and_left _ _ h) in
      let later : find p xs ≡ find q xs = find-same_on p q r f xs (and_right _ _ h) in
      rw (here, later) refl

  -- what a test keeps passes it
  pub list_all-filter : (p : X → Bool) (xs : List X) → list_all p (filter p xs) ≡ true
  list_all-filter p [] = refl
  list_all-filter p (x ∷ xs) =
      (elim (p x) as (λ v. p x ≡ v → list_all p (cond v (x ∷ filter p xs) (filter p xs)) ≡ true)
      [ true ↦ λ e. rw e (list_all-filter p xs) | false ↦ λ e. list_all-filter p xs ]) refl

  -- two folds are one where their steps are, at each item that passes
  pub fold-same : {B : Type 0} (f g : B → X → B) (p : X → Bool)
      → ((x : X) → p x ≡ true → (b : B) → f b x ≡ g b x) → (xs : List X) → list_all p xs ≡ true → (b : B)
      → fold f b xs ≡ fold g b xs
  fold-same f g p h [] all b = refl
  fold-same f g p h (x ∷ xs) all b =
      (elim (p x) as (λ v. p x ≡ v → (v && list_all p xs) ≡ true → fold f (f b x) xs ≡ fold g (g b x) xs)
      [ true ↦ λ e r. rw (h x e b) (fold-same f g p h xs r (g b x)) | false ↦ λ e r. (cc) ]) refl all

  -- one more item at the end: a test keeps it where it passes
  pub filter-more : (p : X → Bool) (xs : List X) (x : X)
      → filter p (xs ++ x ∷ []) ≡ cond (p x) (filter p xs ++ x ∷ []) (filter p xs)
  filter-more p xs x =
      filter-append p xs (x ∷ [])
      ∙ elim (p x) as (λ v. filter p xs ++ cond v (x ∷ []) [] ≡ cond v (filter p xs ++ x ∷ []) (filter p xs)) [ true ↦ refl | false ↦ append-nil (filter p xs) ]

  pub filter-more_yes : (p : X → Bool) (xs : List X) (x : X) → p x ≡ true
      → filter p (xs ++ x ∷ []) ≡ filter p xs ++ x ∷ []
  filter-more_yes p xs x h = filter-more p xs x ∙ ap (λ v. cond v (filter p xs ++ x ∷ []) (filter p xs)) h

  pub filter-more_no : (p : X → Bool) (xs : List X) (x : X) → p x ≡ false
      → filter p (xs ++ x ∷ []) ≡ filter p xs
  filter-more_no p xs x h = filter-more p xs x ∙ ap (λ v. cond v (filter p xs ++ x ∷ []) (filter p xs)) h

  -- one more item passes, or one before it; and all pass where it and all before it do
  pub list_any-more : (p : X → Bool) (xs : List X) (x : X)
      → list_any p (xs ++ x ∷ []) ≡ (list_any p xs || p x)
  list_any-more p [] x = elim (p x) as (λ v. (v || false) ≡ v) [ true ↦ refl | false ↦ refl ]
  list_any-more p (y ∷ ys) x =
      elim (p y) as (λ v. (v || list_any p (ys ++ x ∷ [])) ≡ ((v || list_any p ys) || p x)) [ true ↦ refl | false ↦ list_any-more p ys x ]

  pub list_all-more : (p : X → Bool) (xs : List X) (x : X)
      → list_all p (xs ++ x ∷ []) ≡ (list_all p xs && p x)
  list_all-more p [] x = elim (p x) as (λ v. (v && true) ≡ v) [ true ↦ refl | false ↦ refl ]
  list_all-more p (y ∷ ys) x =
      elim (p y) as (λ v. (v && list_all p (ys ++ x ∷ [])) ≡ ((v && list_all p ys) && p x)) [ true ↦ list_all-more p ys x | false ↦ refl ]

  -- one more item is the last
  pub last_of-more : (xs : List X) (x : X) → last_of (xs ++ x ∷ []) ≡ Some x
  last_of-more [] x = refl
  last_of-more (y ∷ []) x = refl
  last_of-more (y ∷ (z ∷ rest)) x = last_of-more (z ∷ rest) x

  -- it comes after all the others
  pub each_after-more : (before xs : List X) (x : X)
      → each_after before (xs ++ x ∷ []) ≡ each_after before xs ++ (before ++ xs, x) ∷ []
  each_after-more before [] x = ap (λ v. (v, x) ∷ []) (sym (append-nil before))
  each_after-more before (y ∷ ys) x =
      ap (λ rest. (before, y) ∷ rest)
      (each_after-more (before ++ y ∷ []) ys x
      ∙ ap (λ v. each_after (before ++ y ∷ []) ys ++ (v, x) ∷ []) (append_assoc before (y ∷ []) ys))

  -- what is found first stays found
  pub find-more_found : (p : X → Bool) (xs : List X) (x y : X) → find p xs ≡ Some y
      → find p (xs ++ x ∷ []) ≡ Some y
  find-more_found p [] x y h = cc
  find-more_found p (z ∷ zs) x y h =
      (elim (p z) as (λ v. cond v (Some z) (find p zs) ≡ Some y → cond v (Some z) (find p (zs ++ x ∷ [])) ≡ Some y)
      [ true ↦ λ e. e | false ↦ λ e. find-more_found p zs x y e ]) h

  -- an item that fails is not found
  pub find-more_no : (p : X → Bool) (xs : List X) (x : X) → p x ≡ false → find p (xs ++ x ∷ []) ≡ find p xs
  find-more_no p [] x h = ap (λ v. cond v (Some x) None) h
  find-more_no p (z ∷ zs) x h =
      elim (p z) as (λ v. cond v (Some z) (find p (zs ++ x ∷ [])) ≡ cond v (Some z) (find p zs)) [ true ↦ refl | false ↦ find-more_no p zs x h ]

  -- where none was found before, one that passes is found
  pub find-more_yes : (p : X → Bool) (xs : List X) (x : X) → find p xs ≡ None → p x ≡ true
      → find p (xs ++ x ∷ []) ≡ Some x
  find-more_yes p [] x n h = ap (λ v. cond v (Some x) None) h
  find-more_yes p (z ∷ zs) x n h =
      (elim (p z) as (λ v. cond v (Some z) (find p zs) ≡ None → cond v (Some z) (find p (zs ++ x ∷ [])) ≡ Some x)
      [ true ↦ λ e. (cc) | false ↦ λ e. find-more_yes p zs x e h ]) n

  -- items that fail a test can be left out before it
  within_by : (p q : X → Bool) (x : X) (xs : List X) → (p x ≡ true → q x ≡ true)
      → filter p (filter q xs) ≡ filter p xs → (s : Bool) → q x ≡ s → (b : Bool) → p x ≡ b
      → filter p (filter q (x ∷ xs)) ≡ filter p (x ∷ xs)
  within_by p q x xs f rest true s b h = rw (s, h, rest) refl
  within_by p q x xs f rest false s true h = let bad : q x ≡ true = f h in cc
  within_by p q x xs f rest false s false h = rw (s, h) rest

  pub filter-within : (p q : X → Bool) → ((x : X) → p x ≡ true → q x ≡ true) → (xs : List X)
      → filter p (filter q xs) ≡ filter p xs
  filter-within p q f [] = refl
  filter-within p q f (x ∷ xs) = within_by p q x xs (f x) (filter-within p q f xs) (q x) refl (p x) refl

  -- two tests can be asked in either order
  swap_by : (p q : X → Bool) (x : X) (xs : List X) → filter p (filter q xs) ≡ filter q (filter p xs)
      → (s : Bool) → p x ≡ s → (t : Bool) → q x ≡ t
      → filter p (filter q (x ∷ xs)) ≡ filter q (filter p (x ∷ xs))
  swap_by p q x xs rest true s true t = rw (s, t, s, rest) refl
  swap_by p q x xs rest true s false t = rw (s, t) rest
  swap_by p q x xs rest false s true t = rw (s, t, s) rest
  swap_by p q x xs rest false s false t = rw (s, t) rest

  pub filter-swap : (p q : X → Bool) (xs : List X) → filter p (filter q xs) ≡ filter q (filter p xs)
  filter-swap p q [] = refl
  filter-swap p q (x ∷ xs) = swap_by p q x xs (filter-swap p q xs) (p x) refl (q x) refl

  -- items that fail a test do not matter for whether one passes, nor for which is the first
  any_by : (t q : X → Bool) (x : X) (xs : List X) → list_any t (filter q xs) ≡ list_any t xs → (s : Bool)
      → q x ≡ s → (s || not (t x)) ≡ true → list_any t (filter q (x ∷ xs)) ≡ list_any t (x ∷ xs)
  any_by t q x xs rest true s h = rw (s, rest) refl
  any_by t q x xs rest false s h =
      (elim (t x) as (λ v. not v ≡ true → list_any t (cond (q x) (x ∷ filter q xs) (filter q xs)) ≡ (v || list_any t xs))
      [ true ↦ λ k. (cc) | false ↦ λ k. rw s rest ]) h

  pub list_any-left_out : (t q : X → Bool) (xs : List X) → list_all (λ x. q x || not (t x)) xs ≡ true
      → list_any t (filter q xs) ≡ list_any t xs
  list_any-left_out t q [] h = refl
  list_any-left_out t q (x ∷ xs) h = any_by t q x xs (list_any-left_out t q xs (and_right _ _ h)) (q x) refl (and_left _ _ h)

  find_by : (t q : X → Bool) (x : X) (xs : List X) → find t (filter q xs) ≡ find t xs → (s : Bool) → q x ≡ s
      → (s || not (t x)) ≡ true → find t (filter q (x ∷ xs)) ≡ find t (x ∷ xs)
  find_by t q x xs rest true s h = rw (s, rest) refl
  find_by t q x xs rest false s h =
      (elim (t x) as (λ v. not v ≡ true → find t (cond (q x) (x ∷ filter q xs) (filter q xs)) ≡ cond v (Some x) (find t xs))
      [ true ↦ λ k. (cc) | false ↦ λ k. rw s rest ]) h

  pub find-left_out : (t q : X → Bool) (xs : List X) → list_all (λ x. q x || not (t x)) xs ≡ true
      → find t (filter q xs) ≡ find t xs
  find-left_out t q [] h = refl
  find-left_out t q (x ∷ xs) h = find_by t q x xs (find-left_out t q xs (and_right _ _ h)) (q x) refl (and_left _ _ h)

  -- items that pass a test do not matter for whether all pass
  all_by : (t q : X → Bool) (x : X) (xs : List X) → list_all t (filter q xs) ≡ list_all t xs → (s : Bool)
      → q x ≡ s → (s || t x) ≡ true → list_all t (filter q (x ∷ xs)) ≡ list_all t (x ∷ xs)
  all_by t q x xs rest true s h = rw (s, rest) refl
  all_by t q x xs rest false s h = rw (s, h) rest

  pub list_all-left_out : (t q : X → Bool) (xs : List X) → list_all (λ x. q x || t x) xs ≡ true
      → list_all t (filter q xs) ≡ list_all t xs
  list_all-left_out t q [] h = refl
  list_all-left_out t q (x ∷ xs) h = all_by t q x xs (list_all-left_out t q xs (and_right _ _ h)) (q x) refl (and_left _ _ h)

  -- nor do items that give nothing matter for what the others give
  pub filter_map-left_out : {Y : Type 0} (f : X → Option Y) (q : X → Bool)
      → ((x : X) → q x ≡ false → f x ≡ None) → (xs : List X) → filter_map f (filter q xs) ≡ filter_map f xs
  filter_map-left_out f q nothing [] = refl
  filter_map-left_out f q nothing (x ∷ xs) = by_test (q x) refl (filter_map-left_out f q nothing xs)
    where
      by_test : (t : Bool) → q x ≡ t → filter_map f (filter q xs) ≡ filter_map f xs
          → filter_map f (filter q (x ∷ xs)) ≡ filter_map f (x ∷ xs)
      by_test true t rest = rw (t, rest) refl
      by_test false t rest = rw (t, nothing x t) rest
