-- Texts that tie in their order are the same, so lists of texts and of pairs have one order.
use Rattle.std.proofs.Common.{◌≡◌, List, [], ◌∷◌, ℕ, ◌+◌, refl, ap, ◌∙◌, map, Bor, arith}
use Rattle.std.specs.Cmp.{IsTotalOrder}
use Rattle.std.specs.Cmp.Lexicographic.{nat_list_cmp_total, texts_ties, bytes_decides}
use Rattle.std.specs.List.Sorted.{IsPermutation, IsSorted}
use Rattle.std.specs.Ordering.{ordering_then, is_eq}
use Rattle.std.specs.declared.cmp.Ordering.{Ordering}
use Rattle.std.specs.declared.cmp.Ordering.TheVariants.{Less, Equal, Greater}
use Rattle.std.proofs.lemmas.Cmp.{then_total, on_total}
use Rattle.std.proofs.lemmas.List.{get_or-map, length-map}
use Rattle.std.proofs.lemmas.List.Sorted.{IsPermutation-map}
use Rattle.http_header.specs.FieldValue.{FieldValue}
use Rattle.http_header.specs.HeaderMap.{Entries, keys}
use Rattle.sign_request.specs.Query.{Pair}
use Rattle.sign_request.specs.CanonicalText.{text_cmp, pair_cmp, sorted, sorted_pairs, joined_texts, canonical_text}
use Rattle.sign_request.specs.Headers.{sorted_names}
use Rattle.sign_request.proofs.Sorting.{sorted-from_sort, sorted-IsPermutation}

pub same_text : (x y : List ℕ) → text_cmp x y ≡ Equal → x ≡ y
same_text x y h = (bytes_decides x y).0 (texts_ties x y ∙ ap is_eq h)

tied_first : (r s : Ordering) → ordering_then r s ≡ Equal → r ≡ Equal
tied_first Less s h = cc
tied_first Equal s h = refl
tied_first Greater s h = cc

tied_second : (r s : Ordering) → ordering_then r s ≡ Equal → s ≡ Equal
tied_second Less s h = cc
tied_second Equal s h = h
tied_second Greater s h = cc

pub same_pair : (p q : Pair) → pair_cmp p q ≡ Equal → p ≡ q
same_pair p q h =
    λ i. (same_text p.0 q.0 (tied_first (text_cmp p.0 q.0) (text_cmp p.1 q.1) h) i, same_text p.1 q.1 (tied_second (text_cmp p.0 q.0) (text_cmp p.1 q.1) h) i)

pub pair_total : IsTotalOrder pair_cmp
pair_total = then_total (on_total (λ p. p.0) nat_list_cmp_total) (on_total (λ p. p.1) nat_list_cmp_total)

-- what is sorted by what it shows, shows a sorted list
pub IsSorted-map : {X Y : Type 0} (shows : X → Y) (cmp : Y → Y → Ordering) (xs : List X)
    → IsSorted (λ x y. cmp (shows x) (shows y)) xs → IsSorted cmp (map shows xs)
IsSorted-map shows cmp [] up = λ k d low high. absurd (omega arith)
IsSorted-map shows cmp (x ∷ xs) up = λ k d low high.
    let as_long = length-map (x ∷ xs) shows in
    rw (get_or-map shows (x ∷ xs) (k + 1) x d (omega (arith, as_long)), get_or-map shows (x ∷ xs) k x d (omega (arith, as_long))) (up k x low (omega (arith, as_long)))

-- the order of the pairs does not count
pub sorted_pairs-IsPermutation : (ps qs : List Pair) → IsPermutation ps qs → sorted_pairs ps ≡ sorted_pairs qs
unfolding sorted_pairs
sorted_pairs-IsPermutation ps qs moved = sorted-IsPermutation pair_cmp pair_total same_pair ps qs moved

-- the names of a map after a sort
pub sorted_names-from_sort : (headers : Entries FieldValue) (xs ys : List (Bor (List ℕ)))
    → map (λ name. name.now) xs ≡ keys headers → IsPermutation xs ys
    → IsSorted (λ x y. text_cmp x.now y.now) ys → map (λ name. name.now) ys ≡ sorted_names headers
unfolding sorted_names
sorted_names-from_sort headers xs ys all moved up =
    sorted-from_sort text_cmp nat_list_cmp_total same_text (map (λ name. name.now) xs) (map (λ name. name.now) ys)
    (IsPermutation-map (λ name. name.now) xs ys moved) (IsSorted-map (λ name. name.now) text_cmp ys up) ∙ ap (sorted text_cmp) all

-- nor does it for a text of them
pub canonical_text-IsPermutation : (pair_text : Pair → List ℕ) (between : List ℕ) (ps qs : List Pair)
    → IsPermutation ps qs → canonical_text pair_text between ps ≡ canonical_text pair_text between qs
unfolding canonical_text
canonical_text-IsPermutation pair_text between ps qs moved = ap (λ rs. joined_texts between (map pair_text rs)) (sorted_pairs-IsPermutation ps qs moved)
