-- The names of a map of plain headers are theirs, each once.
use Rattle.std.proofs.Common.{◌≡◌, ℕ, ◌+◌, Bool, true, false, ◌||◌, inl, inr, List, [], ◌∷◌, ◌++◌, map, bytes_eq, refl, sym, ap, ◌∙◌, subst, arith, append-nil}
use Rattle.std.specs.List.{AllByRecursion, dedup, dedup_from, list_any, sum_by}
use Rattle.std.specs.Ordering.{is_gt, ordering_reverse}
use Rattle.std.specs.declared.cmp.Ordering.{Ordering}
use Rattle.std.specs.declared.cmp.Ordering.TheVariants.{Less, Equal, Greater}
use Rattle.std.proofs.lemmas.Bool.{cases_Bool}
use Rattle.std.proofs.lemmas.Cmp.{nat_list_cmp_total, tied_itself}
use Rattle.std.proofs.lemmas.List.Sums.{sum_by-append, sum_by-cons}
use Rattle.std.proofs.lemmas.Slice.Eq.{bytes_eq-Decides}
use Rattle.http_header.specs.FieldValue.{FieldValue, plain_value}
use Rattle.http_header.specs.HeaderMap.{Entries, append, append_all, keys}
use Rattle.http_header.specs.Token.{lowercase}
use Rattle.sign_base.specs.declared.head.Field.{Field}
use Rattle.sign_request.specs.CanonicalText.{text_cmp, insert_sorted, sorted}
use Rattle.sign_request.specs.Headers.{sorted_names}
use Rattle.sign_request.specs.KeyOrder.{Ascends}
use Rattle.sign_request.specs.PlainHead.{header_map, header_of}
use Rattle.sign_request.proofs.Sorting.{Ascends-sorted, one_order, sum_by-sorted}
use Rattle.sign_request.proofs.TextOrder.{same_text}
use Rattle.signctl_by_line.specs.HeadNames.{lowercase_each, distinct_names}

-- the name is one of these
abbrev has : List ℕ → List (List ℕ) → Bool
has name names = list_any (λ other. bytes_eq other name) names

abbrev Distinct : List (List ℕ) → Type 0
Distinct [] = Unit {0}
Distinct (x ∷ xs) = (has x xs ≡ false) × Distinct xs

same : (x y : List ℕ) → bytes_eq x y ≡ true → x ≡ y
same x y e = (bytes_eq-Decides x y).0 e

is_same : (x y : List ℕ) → x ≡ y → bytes_eq x y ≡ true
is_same x y e = (bytes_eq-Decides x y).1 e

turned : (x y : List ℕ) → bytes_eq x y ≡ false → bytes_eq y x ≡ false
turned x y differs =
    elim (cases_Bool (bytes_eq y x)) [
      | inl is ↦ let never = sym differs ∙ is_same x y (sym (same y x is)) in absurd (cc)
      | inr other ↦ other
    ]

-- ---- a name more in a map
module _ (name : List ℕ) (value : FieldValue) where
  keys-known : (m : Entries FieldValue) → has name (keys m) ≡ true → keys (append m name value) ≡ keys m
  keys-known [] e = absurd (cc)
  keys-known (entry ∷ m) e =
      elim (cases_Bool (bytes_eq entry.0 name)) [
        | inl is ↦ rw is refl
        | inr other ↦ let later : has name (keys m) ≡ true = rw other at e in rw other (ap (λ ks. entry.0 ∷ ks) (keys-known m later))
      ]

  keys-new : (m : Entries FieldValue) → has name (keys m) ≡ false
      → keys (append m name value) ≡ keys m ++ name ∷ []
  keys-new [] e = refl
  keys-new (entry ∷ m) e =
      elim (cases_Bool (bytes_eq entry.0 name)) [
        | inl is ↦ absurd (let never = rw is at e in cc)
        | inr other ↦ let later : has name (keys m) ≡ false = rw other at e in rw other (ap (λ ks. entry.0 ∷ ks) (keys-new m later))
      ]

-- ---- names in order
abbrev into : List ℕ → List (List ℕ) → List (List ℕ)
into x ys = insert_sorted text_cmp x ys

or-swap : (a b c : Bool) → (a || (b || c)) ≡ (b || (a || c))
or-swap true true c = refl
or-swap true false c = refl
or-swap false b c = refl

has-into : (z x : List ℕ) (ys : List (List ℕ)) → has z (into x ys) ≡ (bytes_eq x z || has z ys)
has-into z x [] = refl
has-into z x (y ∷ ys) =
    elim (cases_Bool (is_gt (text_cmp x y))) [
      | inl t ↦ rw t (ap (λ b. bytes_eq y z || b) (has-into z x ys) ∙ or-swap (bytes_eq y z) (bytes_eq x z) (has z ys))
      | inr n ↦ rw n refl
    ]

has-sorted : (z : List ℕ) (xs : List (List ℕ)) → has z (sorted text_cmp xs) ≡ has z xs
has-sorted z [] = refl
has-sorted z (x ∷ xs) = has-into z x (sorted text_cmp xs) ∙ ap (λ b. bytes_eq x z || b) (has-sorted z xs)

has-append : (z : List ℕ) (xs ys : List (List ℕ)) → has z ys ≡ true → has z (xs ++ ys) ≡ true
has-append z [] ys e = e
has-append z (x ∷ xs) ys e =
    elim (cases_Bool (bytes_eq x z)) [
      | inl is ↦ rw is refl
      | inr other ↦ rw other (has-append z xs ys e)
    ]

has-push : (z n : List ℕ) (xs : List (List ℕ)) → has z xs ≡ false → bytes_eq n z ≡ false
    → has z (xs ++ n ∷ []) ≡ false
has-push z n [] e differs = rw differs refl
has-push z n (x ∷ xs) e differs =
    elim (cases_Bool (bytes_eq x z)) [
      | inl is ↦ absurd (let never = rw is at e in cc)
      | inr other ↦ let later : has z xs ≡ false = rw other at e in rw other (has-push z n xs later differs)
    ]

Distinct-into : (x : List ℕ) (ys : List (List ℕ)) → has x ys ≡ false → Distinct ys → Distinct (into x ys)
Distinct-into x [] e d = (refl, tt)
Distinct-into x (y ∷ ys) e d =
    elim (cases_Bool (bytes_eq y x)) [
      | inl is ↦ absurd (let never = rw is at e in cc)
      | inr other ↦
          let later : has x ys ≡ false = rw other at e in
          elim (cases_Bool (is_gt (text_cmp x y))) [
            | inl t ↦ rw t (has-into y x ys ∙ rw (turned y x other) d.0, Distinct-into x ys later d.1)
            | inr n ↦ rw n (e, d)
          ]
    ]

Distinct-sorted : (xs : List (List ℕ)) → Distinct xs → Distinct (sorted text_cmp xs)
Distinct-sorted [] d = tt
Distinct-sorted (x ∷ xs) d = Distinct-into x (sorted text_cmp xs) (has-sorted x xs ∙ d.0) (Distinct-sorted xs d.1)

dedup_from-Distinct : (k : List ℕ) (xs : List (List ℕ)) → Distinct (k ∷ xs)
    → dedup_from bytes_eq k xs ≡ k ∷ xs
dedup_from-Distinct k [] d = refl
dedup_from-Distinct k (x ∷ xs) d =
    elim (cases_Bool (bytes_eq x k)) [
      | inl is ↦ absurd (let e = d.0 in let never = rw is at e in cc)
      | inr other ↦ rw other (ap (λ ys. k ∷ ys) (dedup_from-Distinct x xs d.1))
    ]

dedup-Distinct : (xs : List (List ℕ)) → Distinct xs → dedup bytes_eq xs ≡ xs
dedup-Distinct [] d = refl
dedup-Distinct (x ∷ xs) d = dedup_from-Distinct x xs d

-- ---- a name that ascending ones have already
at_name : (P : List ℕ → Type 0) (x : List ℕ) (ys : List (List ℕ)) → AllByRecursion P ys → has x ys ≡ true
    → P x
at_name P x [] h e = absurd (cc)
at_name P x (y ∷ ys) h e =
    elim (cases_Bool (bytes_eq y x)) [
      | inl is ↦ subst P (same y x is) h.0
      | inr other ↦ let later : has x ys ≡ true = rw other at e in at_name P x ys h.1 later
    ]

neither : (r : Ordering) → is_gt r ≡ false → is_gt (ordering_reverse r) ≡ false → r ≡ Equal
neither Less h k = cc
neither Equal h k = refl
neither Greater h k = cc

-- one that is not above the first is the first
first_is : (x y : List ℕ) (ys : List (List ℕ)) → is_gt (text_cmp x y) ≡ false → Ascends text_cmp (y ∷ ys)
    → has x (y ∷ ys) ≡ true → y ≡ x
first_is x y ys low up e =
    elim (cases_Bool (bytes_eq y x)) [
      | inl is ↦ same y x is
      | inr other ↦
          let later : has x ys ≡ true = rw other at e in
          let high = at_name (λ z. is_gt (text_cmp y z) ≡ false) x ys up.0 later in
          sym (same_text x y (neither (text_cmp x y) low (ap is_gt (sym (nat_list_cmp_total.antisymm y x)) ∙ high)))
    ]

-- one that is above the first stands behind it
behind : (x y : List ℕ) (ys : List (List ℕ)) → is_gt (text_cmp x y) ≡ true → has x (y ∷ ys) ≡ true
    → has x ys ≡ true
behind x y ys t e =
    elim (cases_Bool (bytes_eq y x)) [
      | inl is ↦
          let itself = ap (λ z. is_gt (text_cmp x z)) (same y x is) ∙ ap is_gt (tied_itself nat_list_cmp_total x) in
          let never = sym t ∙ itself in absurd (cc)
      | inr other ↦ rw other at e
    ]

twice : (x k : List ℕ) (ys : List (List ℕ))
    → dedup_from bytes_eq k (x ∷ x ∷ ys) ≡ dedup_from bytes_eq k (x ∷ ys)
twice x k ys =
    elim (cases_Bool (bytes_eq x k)) [
      | inl is ↦ rw is refl
      | inr other ↦ rw (other, is_same x x refl) refl
    ]

dedup_from-known : (x k : List ℕ) (ys : List (List ℕ)) → Ascends text_cmp ys → has x ys ≡ true
    → dedup_from bytes_eq k (into x ys) ≡ dedup_from bytes_eq k ys
dedup_from-known x k [] up e = absurd (cc)
dedup_from-known x k (y ∷ ys) up e =
    elim (cases_Bool (is_gt (text_cmp x y))) [
      | inl t ↦
          let later : has x ys ≡ true = behind x y ys t e in
          elim (cases_Bool (bytes_eq y k)) [
            | inl is ↦ rw (t, is) (dedup_from-known x k ys up.1 later)
            | inr other ↦ rw (t, other) (ap (λ zs. k ∷ zs) (dedup_from-known x y ys up.1 later))
          ]
      | inr n ↦
          let is : y ≡ x = first_is x y ys n up e in
          rw n (subst (λ (z : List ℕ). dedup_from bytes_eq k (x ∷ z ∷ ys) ≡ dedup_from bytes_eq k (z ∷ ys)) (sym is) (twice x k ys))
    ]

dedup-known : (x : List ℕ) (ys : List (List ℕ)) → Ascends text_cmp ys → has x ys ≡ true
    → dedup bytes_eq (into x ys) ≡ dedup bytes_eq ys
dedup-known x [] up e = absurd (cc)
dedup-known x (y ∷ ys) up e =
    elim (cases_Bool (is_gt (text_cmp x y))) [
      | inl t ↦ rw t (dedup_from-known x y ys up.1 (behind x y ys t e))
      | inr n ↦
          let is : y ≡ x = first_is x y ys n up e in
          rw (n, is_same y x is) (ap (λ k. dedup_from bytes_eq k ys) (sym is))
    ]

-- ---- one name after another
Distinct-push : (n : List ℕ) (ks : List (List ℕ)) → has n ks ≡ false → Distinct ks
    → Distinct (ks ++ n ∷ [])
Distinct-push n [] e d = (refl, tt)
Distinct-push n (k ∷ ks) e d =
    elim (cases_Bool (bytes_eq k n)) [
      | inl is ↦ absurd (let never = rw is at e in cc)
      | inr other ↦
          let later : has n ks ≡ false = rw other at e in
          (has-push k n ks d.0 (turned k n other), Distinct-push n ks later d.1)
    ]

-- the last name may come first
last_first : (n : List ℕ) (xs ks : List (List ℕ))
    → sorted text_cmp (xs ++ (ks ++ n ∷ [])) ≡ sorted text_cmp (n ∷ (xs ++ ks))
last_first n xs ks =
    one_order text_cmp nat_list_cmp_total same_text (sorted text_cmp (xs ++ (ks ++ n ∷ []))) (sorted text_cmp (n ∷ (xs ++ ks)))
    (Ascends-sorted text_cmp nat_list_cmp_total (xs ++ (ks ++ n ∷ []))) (Ascends-sorted text_cmp nat_list_cmp_total (n ∷ (xs ++ ks)))
    (λ f.
    let a = sum_by-append f xs (ks ++ n ∷ []) in
    let b = sum_by-append f ks (n ∷ []) in
    let c = sum_by-cons f n (xs ++ ks) in
    let d = sum_by-append f xs ks in
    let e = sum_by-cons f n [] in
    let all : sum_by f (xs ++ (ks ++ n ∷ [])) ≡ sum_by f (n ∷ (xs ++ ks)) = omega (arith, a, b, c, d, e) in
    sum_by-sorted text_cmp nat_list_cmp_total f (xs ++ (ks ++ n ∷ [])) ∙ (all ∙ sym (sum_by-sorted text_cmp nat_list_cmp_total f (n ∷ (xs ++ ks)))))

all_names : (m : Entries FieldValue) → Distinct (keys m) → (fields : List Field)
    → sorted text_cmp (keys (append_all m (map header_of fields)))
    ≡ dedup bytes_eq (sorted text_cmp (lowercase_each fields ++ keys m))
all_names m d [] = sym (dedup-Distinct (sorted text_cmp (keys m)) (Distinct-sorted (keys m) d))
all_names m d (f ∷ fields) =
    let n = lowercase f.name in
    let v = plain_value f.value in
    let rest = lowercase_each fields in
    elim (cases_Bool (has n (keys m))) [
      | inl known ↦
          let same_keys = keys-known n v m known in
          all_names (append m n v) (subst Distinct (sym same_keys) d) fields
          ∙ (ap (λ ks. dedup bytes_eq (sorted text_cmp (rest ++ ks))) same_keys
          ∙ sym (dedup-known n (sorted text_cmp (rest ++ keys m)) (Ascends-sorted text_cmp nat_list_cmp_total (rest ++ keys m))
          (has-sorted n (rest ++ keys m) ∙ has-append n rest (keys m) known)))
      | inr new ↦
          let more_keys = keys-new n v m new in
          all_names (append m n v) (subst Distinct (sym more_keys) (Distinct-push n (keys m) new d)) fields
          ∙ ap (dedup bytes_eq) (ap (λ ks. sorted text_cmp (rest ++ ks)) more_keys ∙ last_first n rest (keys m))
    ]

-- the names of a view
pub distinct_from_map : (fields : List Field) → sorted_names (header_map fields) ≡ distinct_names fields
unfolding sorted_names
distinct_from_map fields = all_names [] tt fields ∙ ap (λ ns. dedup bytes_eq (sorted text_cmp ns)) (append-nil (lowercase_each fields))

-- elements that are told apart as what they show
module _ {X : Type 0} (shows : X → List ℕ) (E : X → X → Bool)
    (as_shown : (x y : X) → E x y ≡ bytes_eq (shows x) (shows y)) where
  dedup_from-map : (k : X) (xs : List X)
      → map shows (dedup_from E k xs) ≡ dedup_from bytes_eq (shows k) (map shows xs)
  dedup_from-map k [] = refl
  dedup_from-map k (x ∷ xs) =
      elim (cases_Bool (bytes_eq (shows x) (shows k))) [
        | inl is ↦ rw (as_shown x k, is) (dedup_from-map k xs)
        | inr other ↦ rw (as_shown x k, other) (ap (λ ys. shows k ∷ ys) (dedup_from-map x xs))
      ]

  pub dedup-map : (xs : List X) → map shows (dedup E xs) ≡ dedup bytes_eq (map shows xs)
  dedup-map [] = refl
  dedup-map (x ∷ xs) = dedup_from-map x xs
