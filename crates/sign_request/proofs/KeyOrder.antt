-- Pairs that ascend by key are in order once those of each key are.
use Rattle.std.proofs.Common.{◌≡◌, ◌≢◌, ◌<◌, ◌≤◌, ◌+◌, ◌-◌, ℕ, zero, suc, inl, inr, ◌⊎◌, false, List, [], ◌∷◌, ◌++◌, length, take, drop, get_or, Option, Some, None, MatchOption, unwrap_or, string_bytes, refl, sym, ◌∙◌, ap, ap₂, subst, subst₂, arith}
use Rattle.std.specs.Cmp.{IsTotalOrder}
use Rattle.std.specs.List.{AllByRecursion, AllWithin, HoldsAt}
use Rattle.std.specs.List.Sorted.{IsPermutation, IsSorted}
use Rattle.std.specs.Ordering.{is_gt}
use Rattle.std.specs.String.{string_cmp}
use Rattle.std.specs.declared.cmp.Ordering.{Ordering}
use Rattle.std.specs.declared.cmp.Ordering.TheVariants.{Less, Equal, Greater}
use Rattle.std.specs.declared.string.String.{String}
use Rattle.std.proofs.lemmas.Cmp.{alike_right, nat_list_cmp_total, on_total, tied_itself}
use Rattle.std.proofs.lemmas.List.{append-nil, append_assoc, drop-map, drop_all, drop_at, length-append, length-drop, length-map, length-take, map-append, take-append-drop, take-map, take_all, take_at, take_rest}
use Rattle.std.proofs.lemmas.List.Elements.{All-from_recursion}
use Rattle.std.proofs.lemmas.List.Sorted.{All-permutation, IsPermutation-map}
use borrow.Rule.Slice.PartMut.{put_mid}
use Rattle.sign_request.specs.Query.{Pair, text_pair, text_pairs}
use Rattle.sign_request.specs.CanonicalText.{text_cmp, pair_cmp, sorted, sorted_pairs}
use Rattle.sign_request.specs.KeyOrder.{Ascends, key_cmp, BeginsWithKey}
use Rattle.sign_request.proofs.Sorting.{all_mapped, sorted-append, sorted-from_sort, Ascends-from_sort}
use Rattle.sign_request.proofs.TextOrder.{IsSorted-map, pair_total, same_pair, same_text}

key_total : IsTotalOrder key_cmp
key_total = on_total (λ p. p.0) nat_list_cmp_total

-- what a sort by key ensures
pub Ascends-from_key_sort : {Z : Type 0} (xs : List (String Z × String Z))
    → IsSorted (λ x y. string_cmp x.0 y.0) xs → Ascends key_cmp (text_pairs xs)
Ascends-from_key_sort xs up = Ascends-from_sort key_cmp key_total (text_pairs xs) (IsSorted-map text_pair key_cmp xs up)

not_above : (r : Ordering) → is_gt r ≡ false → (r ≡ Less) ⊎ (r ≡ Equal)
not_above Less h = inl refl
not_above Equal h = inr refl
not_above Greater h = cc

-- a text that is not above another one is below it
pub below_another : (x y : List ℕ) → is_gt (text_cmp x y) ≡ false → y ≢ x → text_cmp x y ≡ Less
below_another x y h other =
    elim (not_above (text_cmp x y) h) [
      | inl less ↦ less
      | inr tied ↦ absurd (other (sym (same_text x y tied)))
    ]

-- a text below one that is not above a third is below that
pub below_upto : (x y z : List ℕ) → text_cmp x y ≡ Less → is_gt (text_cmp y z) ≡ false → text_cmp x z ≡ Less
below_upto x y z below h =
    elim (not_above (text_cmp y z) h) [
      | inl less ↦ nat_list_cmp_total.trans x y z below less
      | inr tied ↦ sym (alike_right nat_list_cmp_total y z x tied) ∙ below
    ]

below_pair : (p q : Pair) → text_cmp p.0 q.0 ≡ Less → is_gt (pair_cmp p q) ≡ false
below_pair p q h = rw h refl

module _ {Z : Type 0} (key : List ℕ) where
  abbrev pub HasKey : String Z × String Z → Type 0
  HasKey p = string_bytes p.0 ≡ key

  abbrev pub HasOtherKey : String Z × String Z → Type 0
  HasOtherKey p = string_bytes p.0 ≢ key

  -- n pairs of the key, and then one of another key
  pub begins_with_key : (n : ℕ) (xs : List (String Z × String Z))
      → AllByRecursion (λ q. is_gt (text_cmp key q.0) ≡ false) (text_pairs xs)
      → Ascends key_cmp (text_pairs xs) → AllWithin HasKey xs 0 n → (n < length xs → HoldsAt HasOtherKey xs n)
      → AllByRecursion (λ p. p.0 ≡ key) (take n (text_pairs xs))
      × AllByRecursion (λ p. text_cmp key p.0 ≡ Less) (drop n (text_pairs xs))
  begins_with_key zero [] low up same other = (tt, tt)
  begins_with_key (suc n) [] low up same other = (tt, tt)
  begins_with_key zero (x ∷ xs) low up same other =
      let first = below_another key (string_bytes x.0) low.0 (other (omega arith) x) in
      (tt, (first, all_mapped _ _ (λ q h. below_upto key (string_bytes x.0) q.0 first h) (text_pairs xs) up.0))
  begins_with_key (suc n) (x ∷ xs) low up same other =
      let rest = begins_with_key n xs low.1 up.1 (λ k d l h. same (suc k) d (omega arith) (omega arith)) (λ l d. other (omega arith) d) in
      ((same 0 x (omega arith) (omega arith), rest.0), rest.1)

first_is_lowest : {Z : Type 0} (xs : List (String Z × String Z)) (x : String Z × String Z) → x ≡ get_or xs 0 x
    → Ascends key_cmp (text_pairs xs)
    → AllByRecursion (λ q. is_gt (text_cmp (string_bytes x.0) q.0) ≡ false) (text_pairs xs)
first_is_lowest [] x first up = tt
first_is_lowest (y ∷ xs) x first up =
    subst (λ z. AllByRecursion (λ q. is_gt (text_cmp (string_bytes z.0) q.0) ≡ false) (text_pairs (y ∷ xs))) (sym first)
    (rw (tied_itself nat_list_cmp_total (string_bytes y.0)) refl, up.0)

-- where a pair of another key than x was found, and where none was
pub BeginsWithKey-from_position : {Z : Type 0} (xs : List (String Z × String Z)) (x : String Z × String Z)
    (r : Option ℕ) → x ≡ get_or xs 0 x → Ascends key_cmp (text_pairs xs)
    → MatchOption r (AllWithin (HasKey (string_bytes x.0)) xs 0 (length xs))
    (λ i. (i < length xs) × HoldsAt (HasOtherKey (string_bytes x.0)) xs i
    × AllWithin (HasKey (string_bytes x.0)) xs 0 i)
    → BeginsWithKey (unwrap_or r (length xs)) (text_pairs xs)
BeginsWithKey-from_position xs x None first up found =
    let key = string_bytes x.0 in
    let both = begins_with_key key (length xs) xs (first_is_lowest xs x first up) up found (λ l. absurd (omega (arith, l))) in
    (key, both.0, both.1)
BeginsWithKey-from_position xs x (Some i) first up found =
    let key = string_bytes x.0 in
    let both = begins_with_key key i xs (first_is_lowest xs x first up) up found.2 (λ l. found.1) in
    (key, both.0, both.1)

-- the pairs of the first key, sorted, and the others, sorted
pub sorted_pairs-by_key : (n : ℕ) (ps : List Pair) → BeginsWithKey n ps
    → sorted_pairs ps ≡ sorted_pairs (take n ps) ++ sorted_pairs (drop n ps)
unfolding sorted_pairs
sorted_pairs-by_key n ps h =
    ap (sorted pair_cmp) (sym (take-append-drop n ps)) ∙ sorted-append pair_cmp pair_total (take n ps) (drop n ps)
    (all_mapped _ _ (λ p same. all_mapped _ _ (λ q less. below_pair p q (ap (λ k. text_cmp k q.0) same ∙ less)) (drop n ps) h.2) (take n ps) h.1)

-- pairs of one key, sorted by value
pub sorted_pairs-of_key : {Z : Type 0} (key : List ℕ) (xs ys : List (String Z × String Z))
    → AllByRecursion (λ p. p.0 ≡ key) (text_pairs xs) → IsPermutation xs ys
    → IsSorted (λ x y. string_cmp x.1 y.1) ys → text_pairs ys ≡ sorted_pairs (text_pairs xs)
unfolding sorted_pairs
sorted_pairs-of_key key xs ys one moved up =
    let moved_pairs = IsPermutation-map text_pair xs ys moved in
    let keys = All-permutation (λ p. p.0 ≡ key) (text_pairs xs) (text_pairs ys) moved_pairs (All-from_recursion _ _ one) in
    let values = IsSorted-map text_pair (λ p q. text_cmp p.1 q.1) ys up in
    sorted-from_sort pair_cmp pair_total same_pair (text_pairs xs) (text_pairs ys) moved_pairs
    (λ k d low high. rw (ap₂ text_cmp (keys (k + 1) d high) (keys k d (omega arith)), tied_itself nat_list_cmp_total key) (values k d low high))

Ascends-drop : (n : ℕ) (ps : List Pair) → Ascends key_cmp ps → Ascends key_cmp (drop n ps)
Ascends-drop zero ps up = up
Ascends-drop (suc n) [] up = tt
Ascends-drop (suc n) (p ∷ ps) up = Ascends-drop n ps up.1

-- after the pairs of the first key of what is left were sorted
one_key_more : (all done rest next : List Pair) (n : ℕ) → BeginsWithKey n rest → n ≤ length rest
    → length next ≡ length rest → next ≡ sorted_pairs (take n rest) ++ drop n rest → Ascends key_cmp rest
    → all ≡ done ++ sorted_pairs rest
    → (all ≡ take (length done + n) (done ++ next) ++ sorted_pairs (drop (length done + n) (done ++ next)))
    × Ascends key_cmp (drop (length done + n) (done ++ next))
one_key_more all done rest next n first fits as_long is up known =
    let now = sorted_pairs (take n rest) in
    let later = drop n rest in
    let whole : done ++ next ≡ (done ++ now) ++ later = ap (λ ps. done ++ ps) is ∙ sym (append_assoc done now later) in
    let long : length now ≡ n = let one = length-append now later in let two = length-drop n rest in let three = ap length is in omega (arith, one, two, three, fits, as_long) in
    let place : length (done ++ now) ≡ length done + n = length-append done now ∙ ap (λ k. length done + k) long in
    let low = ap (take (length done + n)) whole ∙ take_at (done ++ now) later (length done + n) place in
    let high = ap (drop (length done + n)) whole ∙ drop_at (done ++ now) later (length done + n) place in (
      known ∙ (ap (λ ps. done ++ ps) (sorted_pairs-by_key n rest first) ∙ (sym (append_assoc done now (sorted_pairs later))
          ∙ sym (ap₂ (λ ps qs. ps ++ sorted_pairs qs) low high))),
      subst (Ascends key_cmp) (sym high) (Ascends-drop n rest up),
    )

module _ {Z : Type 0} (start : ℕ) (xs : List (String Z × String Z)) where
  -- what is left to sort, and all texts once `ys` was put in its place
  abbrev pub left : List (String Z × String Z)
  left = take (length xs - start) (drop start xs)

  abbrev pub texts_after : List (String Z × String Z) → List Pair
  texts_after ys = text_pairs (put_mid start (length xs - start) xs ys)

  pub text_pairs-left : text_pairs left ≡ drop start (text_pairs xs)
  text_pairs-left = ap text_pairs (take_rest xs start) ∙ sym (drop-map text_pair start xs)

  texts_after-split : (ys : List (String Z × String Z))
      → texts_after ys ≡ take start (text_pairs xs) ++ text_pairs ys
  texts_after-split ys =
      map-append text_pair (take start xs) (ys ++ drop (length xs - start) (drop start xs))
      ∙ ap₂ (λ ps qs. ps ++ qs) (sym (take-map text_pair start xs))
      (ap (λ zs. text_pairs (ys ++ zs)) (drop_all (length xs - start) (drop start xs) (let one = length-drop start xs in omega (arith, one))) ∙ ap text_pairs (append-nil ys))

  -- a step of the loop that sorts the values of one key after another
  pub one_key_sorted : (all : List Pair) (ys : List (String Z × String Z)) (n : ℕ) → start ≤ length xs
      → BeginsWithKey n (text_pairs left) → n ≤ length left → length ys ≡ length left
      → text_pairs ys ≡ sorted_pairs (take n (text_pairs left)) ++ drop n (text_pairs left)
      → Ascends key_cmp (drop start (text_pairs xs))
      → all ≡ take start (text_pairs xs) ++ sorted_pairs (drop start (text_pairs xs))
      → (all ≡ take (start + n) (texts_after ys) ++ sorted_pairs (drop (start + n) (texts_after ys)))
      × Ascends key_cmp (drop (start + n) (texts_after ys))
  one_key_sorted all ys n low first fits as_long is up known =
      let done = take start (text_pairs xs) in
      let long : length (text_pairs left) ≡ length left = length-map left text_pair in
      let place : length done ≡ start = let one = length-take start (text_pairs xs) in let two = length-map xs text_pair in omega (arith, one, two, low) in
      let more = one_key_more all done (text_pairs left) (text_pairs ys) n first (omega (arith, long, fits)) (length-map ys text_pair ∙ (as_long ∙ sym long)) is
      (subst (Ascends key_cmp) (sym text_pairs-left) up) (known ∙ ap (λ ps. done ++ sorted_pairs ps) (sym text_pairs-left)) in
      subst₂ (λ m ps. (all ≡ take (m + n) ps ++ sorted_pairs (drop (m + n) ps)) × Ascends key_cmp (drop (m + n) ps)) place (sym (texts_after-split ys)) more

-- at the end of that loop
pub all_keys_sorted : (all ps : List Pair) (start : ℕ) → length ps ≤ start
    → all ≡ take start ps ++ sorted_pairs (drop start ps) → ps ≡ all
unfolding sorted_pairs
all_keys_sorted all ps start end known =
    sym (known ∙ (ap₂ (λ qs rs. qs ++ sorted_pairs rs) (take_all start ps end) (drop_all start ps end) ∙ append-nil ps))
