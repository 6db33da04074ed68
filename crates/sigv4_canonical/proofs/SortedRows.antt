-- What a stable sort by name leaves, and the headers of the first name.
use Rattle.std.proofs.Common.{◌≡◌, ◌≢◌, ◌⊎◌, ℕ, zero, suc, ◌<◌, ◌≤◌, Bool, true, false, not, ◌&&◌, inl, inr, List, [], ◌∷◌, length, map, filter, take, drop, get_or, Option, Some, None, MatchOption, unwrap_or, bytes_eq, refl, sym, ap, ◌∙◌, subst, arith}
use Rattle.std.specs.Cmp.{IsTotalOrder}
use Rattle.std.specs.Cmp.Lexicographic.{texts_ties}
use Rattle.std.specs.List.{AllByRecursion, AllWithin, HoldsAt, dedup}
use Rattle.std.specs.List.Sorted.{IsPermutation, IsSortedBy, IsStableBy, ties}
use Rattle.std.specs.Ordering.{is_eq, is_gt, is_lt, ordering_reverse}
use Rattle.std.specs.declared.cmp.Ordering.{Ordering}
use Rattle.std.specs.declared.cmp.Ordering.TheVariants.{Less, Equal, Greater}
use Rattle.std.proofs.lemmas.Bool.{cases_Bool}
use Rattle.std.proofs.lemmas.Cmp.{nat_list_cmp_total, on_total, tied_itself}
use Rattle.std.proofs.lemmas.List.Elements.{All-from_recursion}
use Rattle.std.proofs.lemmas.List.Sorted.{All-permutation, IsPermutation-map}
use Rattle.std.proofs.lemmas.Slice.Eq.{bytes_eq-Decides}
use Rattle.sign_request.specs.CanonicalText.{text_cmp}
use Rattle.sign_request.specs.KeyOrder.{Ascends, key_cmp, BeginsWithKey}
use Rattle.sign_request.specs.Query.{Pair}
use Rattle.sign_request.proofs.KeyOrder.{below_another, below_upto}
use Rattle.sign_request.proofs.Sorting.{sorted-from_sort, Ascends-from_sort}
use Rattle.sign_request.proofs.TextOrder.{IsSorted-map, same_text}
use Rattle.sigv4_canonical.specs.SortedHeaders.{first_name, named_value, named_values, AreSorted}
use Rattle.sigv4_canonical.specs.declared.headers.NamedValue.{NamedValue}

-- ---- a stable sort by name
abbrev pub name_lt : NamedValue → NamedValue → Bool
name_lt x y = is_lt (text_cmp x.name.now y.name.now)

key_total : IsTotalOrder key_cmp
key_total = on_total (λ p. p.0) nat_list_cmp_total

tied_both : (r : Ordering) → (not (is_lt (ordering_reverse r)) && not (is_lt r)) ≡ is_eq r
tied_both Less = refl
tied_both Equal = refl
tied_both Greater = refl

-- headers tie where their names are the same
ties_is : (a b : List ℕ) → (not (is_lt (text_cmp a b)) && not (is_lt (text_cmp b a))) ≡ bytes_eq b a
ties_is a b =
    ap (λ r. not (is_lt r) && not (is_lt (text_cmp b a))) (nat_list_cmp_total.antisymm a b)
    ∙ (tied_both (text_cmp b a) ∙ sym (texts_ties b a))

module _ {X : Type 0} where
  filter_same : (p q : X → Bool) → ((x : X) → p x ≡ q x) → (xs : List X) → filter p xs ≡ filter q xs
  filter_same p q same [] = refl
  filter_same p q same (x ∷ xs) =
      elim (cases_Bool (q x)) [
        | inl passes ↦ rw (same x, passes) (ap (λ ys. x ∷ ys) (filter_same p q same xs))
        | inr fails ↦ rw (same x, fails) (filter_same p q same xs)
      ]

  filter_none : (p : X → Bool) (xs : List X) → AllByRecursion (λ x. p x ≡ false) xs → filter p xs ≡ []
  filter_none p [] h = refl
  filter_none p (x ∷ xs) h = rw h.0 (filter_none p xs h.1)

  -- one that passes, or none
  some_or_none : (p : X → Bool) (xs : List X)
      → ((x : X) × (p x ≡ true)) ⊎ AllByRecursion (λ x. p x ≡ false) xs
  some_or_none p [] = inr tt
  some_or_none p (x ∷ xs) =
      elim (cases_Bool (p x)) [
        | inl passes ↦ inl (x, passes)
        | inr fails ↦ elim (some_or_none p xs) [ inl found ↦ inl found | inr none ↦ inr (fails, none) ]
      ]

filter-map : {X Y : Type 0} (f : X → Y) (p : Y → Bool) (xs : List X)
    → filter p (map f xs) ≡ map f (filter (λ x. p (f x)) xs)
filter-map f p [] = refl
filter-map f p (x ∷ xs) =
    elim (cases_Bool (p (f x))) [
      | inl passes ↦ rw passes (ap (λ ys. f x ∷ ys) (filter-map f p xs))
      | inr fails ↦ rw fails (filter-map f p xs)
    ]

all_places : {X : Type 0} (P : X → Type 0) (xs : List X)
    → ((k : ℕ) (d : X) → k < length xs → P (get_or xs k d)) → AllByRecursion P xs
all_places P [] h = tt
all_places P (x ∷ xs) h = (h 0 x (omega arith), all_places P xs (λ k d l. h (suc k) d (omega arith)))

module _ (xs ys : List NamedValue) (moved : IsPermutation xs ys) (stable : IsStableBy name_lt xs ys) where
  -- the headers of a name stand as they stood
  under_name : (name : List ℕ)
      → filter (λ h. bytes_eq h.name.now name) ys ≡ filter (λ h. bytes_eq h.name.now name) xs
  under_name name =
      let test : NamedValue → Bool = λ h. bytes_eq h.name.now name in
      elim (some_or_none test xs) [
        | inl found ↦
            let is : found.0.name.now ≡ name = (bytes_eq-Decides found.0.name.now name).0 found.1 in
            let same : (h : NamedValue) → test h ≡ ties name_lt found.0 h = λ h. ap (λ n. bytes_eq h.name.now n) (sym is) ∙ sym (ties_is found.0.name.now h.name.now) in
            filter_same test (ties name_lt found.0) same ys ∙ (stable found.0 ∙ sym (filter_same test (ties name_lt found.0) same xs))
        | inr none ↦
            let none_moved = all_places (λ h. test h ≡ false) ys (All-permutation (λ h. test h ≡ false) xs ys moved (All-from_recursion _ _ none)) in
            filter_none test ys none_moved ∙ sym (filter_none test xs none)
      ]

  pub AreSorted-from_sort : IsSortedBy name_lt ys → AreSorted (named_values xs) (named_values ys)
  AreSorted-from_sort up =
      let by_key = IsSorted-map named_value key_cmp ys up in
      let names : List Pair → List (List ℕ) = λ hs. map (λ h. h.0) hs in
      let moved_pairs = IsPermutation-map named_value xs ys moved in
      record {
        ascend = Ascends-from_sort key_cmp key_total (named_values ys) by_key;
        names = ap (dedup bytes_eq) (sym (sorted-from_sort text_cmp nat_list_cmp_total same_text (names (named_values xs)) (names (named_values ys))
            (IsPermutation-map (λ h. h.0) (named_values xs) (named_values ys) moved_pairs) (IsSorted-map (λ h. h.0) text_cmp (named_values ys) by_key)));
        under = λ name.
            filter-map named_value (λ h. bytes_eq h.0 name) ys
            ∙ (ap (map named_value) (under_name name) ∙ sym (filter-map named_value (λ h. bytes_eq h.0 name) xs));
      }

-- ---- the headers of the first name
all_mapped : {X : Type 0} (P Q : X → Type 0) → ((x : X) → P x → Q x) → (xs : List X) → AllByRecursion P xs
    → AllByRecursion Q xs
all_mapped P Q f [] h = tt
all_mapped P Q f (x ∷ xs) h = (f x h.0, all_mapped P Q f xs h.1)

abbrev pub HasName : List ℕ → NamedValue → Type 0
HasName key h = h.name.now ≡ key

abbrev pub HasOtherName : List ℕ → NamedValue → Type 0
HasOtherName key h = h.name.now ≢ key

begins_with_name : (key : List ℕ) (n : ℕ) (xs : List NamedValue)
    → AllByRecursion (λ q. is_gt (text_cmp key q.0) ≡ false) (named_values xs)
    → Ascends key_cmp (named_values xs) → AllWithin (HasName key) xs 0 n
    → (n < length xs → HoldsAt (HasOtherName key) xs n)
    → AllByRecursion (λ p. p.0 ≡ key) (take n (named_values xs))
    × AllByRecursion (λ p. text_cmp key p.0 ≡ Less) (drop n (named_values xs))
begins_with_name key zero [] low up same other = (tt, tt)
begins_with_name key (suc n) [] low up same other = (tt, tt)
begins_with_name key zero (x ∷ xs) low up same other =
    let first = below_another key x.name.now low.0 (other (omega arith) x) in
    (tt, (first, all_mapped _ _ (λ q h. below_upto key x.name.now q.0 first h) (named_values xs) up.0))
begins_with_name key (suc n) (x ∷ xs) low up same other =
    let rest = begins_with_name key n xs low.1 up.1 (λ k d l h. same (suc k) d (omega arith) (omega arith)) (λ l d. other (omega arith) d) in
    ((same 0 x (omega arith) (omega arith), rest.0), rest.1)

first_is_lowest : (xs : List NamedValue) (x : NamedValue) → x ≡ get_or xs 0 x
    → Ascends key_cmp (named_values xs)
    → AllByRecursion (λ q. is_gt (text_cmp x.name.now q.0) ≡ false) (named_values xs)
first_is_lowest [] x first up = tt
first_is_lowest (y ∷ xs) x first up =
    subst (λ (z : NamedValue). AllByRecursion (λ q. is_gt (text_cmp z.name.now q.0) ≡ false) (named_values (y ∷ xs))) (sym first)
    (rw (tied_itself nat_list_cmp_total y.name.now) refl, up.0)

-- where a header of another name than x was found, and where none was
pub BeginsWithKey-from_position : (xs : List NamedValue) (x : NamedValue) (r : Option ℕ) → x ≡ get_or xs 0 x
    → Ascends key_cmp (named_values xs)
    → MatchOption r (AllWithin (HasName x.name.now) xs 0 (length xs))
    (λ i. (i < length xs) × HoldsAt (HasOtherName x.name.now) xs i × AllWithin (HasName x.name.now) xs 0 i)
    → BeginsWithKey (unwrap_or r (length xs)) (named_values xs)
BeginsWithKey-from_position xs x None first up found =
    let key = x.name.now in
    let both = begins_with_name key (length xs) xs (first_is_lowest xs x first up) up found (λ l. absurd (omega (arith, l))) in
    (key, both.0, both.1)
BeginsWithKey-from_position xs x (Some i) first up found =
    let key = x.name.now in
    let both = begins_with_name key i xs (first_is_lowest xs x first up) up found.2 (λ l. found.1) in
    (key, both.0, both.1)

-- the same by the first name
pub BeginsWithKey-from_first : (xs : List NamedValue) (key : List ℕ) (r : Option ℕ) → 0 < length xs
    → key ≡ first_name (named_values xs) → Ascends key_cmp (named_values xs)
    → MatchOption r (AllWithin (HasName key) xs 0 (length xs))
    (λ i. (i < length xs) × HoldsAt (HasOtherName key) xs i × AllWithin (HasName key) xs 0 i)
    → BeginsWithKey (unwrap_or r (length xs)) (named_values xs)
BeginsWithKey-from_first [] key r some first up found = absurd (omega (arith, some))
BeginsWithKey-from_first (x ∷ xs) key r some first up found =
    BeginsWithKey-from_position (x ∷ xs) x r refl up
    (subst (λ (key : List ℕ). MatchOption r (AllWithin (HasName key) (x ∷ xs) 0 (length (x ∷ xs)))
    (λ i. (i < length (x ∷ xs)) × HoldsAt (HasOtherName key) (x ∷ xs) i × AllWithin (HasName key) (x ∷ xs) 0 i)) first found)

-- there is one such header at least
pub some_begin : (xs : List NamedValue) (key : List ℕ) (r : Option ℕ) → 0 < length xs
    → key ≡ first_name (named_values xs)
    → MatchOption r (AllWithin (HasName key) xs 0 (length xs))
    (λ i. (i < length xs) × HoldsAt (HasOtherName key) xs i × AllWithin (HasName key) xs 0 i)
    → (0 < unwrap_or r (length xs)) × (unwrap_or r (length xs) ≤ length xs)
some_begin [] key r some first found = absurd (omega (arith, some))
some_begin (x ∷ xs) key None some first found = (some, omega arith)
some_begin (x ∷ xs) key (Some zero) some first found = absurd (found.1 x (sym first))
some_begin (x ∷ xs) key (Some (suc i)) some first found = (omega arith, omega (arith, found.0))
