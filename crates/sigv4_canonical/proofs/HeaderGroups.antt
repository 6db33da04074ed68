-- Headers that ascend by name: the names, each once, and their lines, those of the first name and then the
-- others.
use Rattle.std.proofs.Common.{◌≡◌, ℕ, zero, suc, ◌<◌, ◌≤◌, Bool, true, false, inl, inr, List, [], ◌∷◌, ◌++◌, length, map, filter, take, drop, bytes_eq, codes, refl, sym, ap, ap₂, ◌∙◌, arith, append-nil, take-append-drop}
use Rattle.std.specs.List.{AllByRecursion, dedup_from, flat_map}
use Rattle.std.specs.declared.cmp.Ordering.TheVariants.{Less}
use Rattle.std.proofs.lemmas.Bool.{cases_Bool}
use Rattle.std.proofs.lemmas.Cmp.{nat_list_cmp_total, tied_itself}
use Rattle.std.proofs.lemmas.Slice.Eq.{bytes_eq-Decides}
use Rattle.sign_base.specs.Bytes.{newline}
use Rattle.sign_base.specs.declared.head.Field.{Field}
use Rattle.sign_request.specs.CanonicalText.{text_cmp, joined_texts}
use Rattle.sign_request.specs.KeyOrder.{Ascends, key_cmp, BeginsWithKey}
use Rattle.sign_request.specs.Query.{Pair}
use Rattle.sigv4_canonical.specs.CanonicalHeaders.{header_line, header_of, signed_names, canonical_headers, signed_headers}
use Rattle.sigv4_canonical.specs.SortedHeaders.{names_in, lines_in, names_text, values_text, group_line, first_name, AreSorted}

-- a name above another is another
other_name : (key name : List ℕ) → text_cmp key name ≡ Less → bytes_eq name key ≡ false
other_name key name above =
    elim (cases_Bool (bytes_eq name key)) [
      | inl same ↦ let tied = tied_itself nat_list_cmp_total key in let less = ap (text_cmp key) (sym ((bytes_eq-Decides name key).0 same)) ∙ above in absurd (cc)
      | inr other ↦ other
    ]

same_name : (name key : List ℕ) → name ≡ key → bytes_eq name key ≡ true
same_name name key same = (bytes_eq-Decides name key).1 same

-- ---- the names
names-group : (key : List ℕ) (group rest : List Pair) → AllByRecursion (λ p. p.0 ≡ key) group
    → AllByRecursion (λ p. text_cmp key p.0 ≡ Less) rest
    → dedup_from bytes_eq key (map (λ h. h.0) (group ++ rest)) ≡ key ∷ names_in rest
names-group key [] [] same above = refl
names-group key [] (r ∷ rest) same above = rw (other_name key r.0 above.0) refl
names-group key (p ∷ group) rest same above = rw (same_name p.0 key same.0) (names-group key group rest same.1 above)

-- ---- the values of one name
filter_all : (test : Pair → Bool) (xs : List Pair) → AllByRecursion (λ p. test p ≡ true) xs
    → filter test xs ≡ xs
filter_all test [] h = refl
filter_all test (x ∷ xs) h = rw h.0 (ap (λ ys. x ∷ ys) (filter_all test xs h.1))

filter_none : (test : Pair → Bool) (xs : List Pair) → AllByRecursion (λ p. test p ≡ false) xs
    → filter test xs ≡ []
filter_none test [] h = refl
filter_none test (x ∷ xs) h = rw h.0 (filter_none test xs h.1)

filter_append : (test : Pair → Bool) (xs ys : List Pair)
    → filter test (xs ++ ys) ≡ filter test xs ++ filter test ys
filter_append test [] ys = refl
filter_append test (x ∷ xs) ys =
    elim (cases_Bool (test x)) [
      | inl passes ↦ rw passes (ap (λ zs. x ∷ zs) (filter_append test xs ys))
      | inr fails ↦ rw fails (filter_append test xs ys)
    ]

module _ {X : Type 0} where
  all_mapped : (P Q : X → Type 0) → ((x : X) → P x → Q x) → (xs : List X) → AllByRecursion P xs
      → AllByRecursion Q xs
  all_mapped P Q f [] h = tt
  all_mapped P Q f (x ∷ xs) h = (f x h.0, all_mapped P Q f xs h.1)

group_of_name : (key : List ℕ) (group rest : List Pair) → AllByRecursion (λ p. p.0 ≡ key) group
    → AllByRecursion (λ p. text_cmp key p.0 ≡ Less) rest
    → filter (λ h. bytes_eq h.0 key) (group ++ rest) ≡ group
group_of_name key group rest same above =
    let test : Pair → Bool = λ h. bytes_eq h.0 key in
    filter_append test group rest
    ∙ (ap₂ (λ a b. a ++ b) (filter_all test group (all_mapped _ _ (λ p e. same_name p.0 key e) group same))
    (filter_none test rest (all_mapped _ _ (λ p e. other_name key p.0 e) rest above))
    ∙ append-nil group)

others_of_name : (key name : List ℕ) (group rest : List Pair) → AllByRecursion (λ p. p.0 ≡ key) group
    → text_cmp key name ≡ Less
    → filter (λ h. bytes_eq h.0 name) (group ++ rest) ≡ filter (λ h. bytes_eq h.0 name) rest
others_of_name key name group rest same above =
    let test : Pair → Bool = λ h. bytes_eq h.0 name in
    let differs : (p : Pair) → p.0 ≡ key → bytes_eq p.0 name ≡ false = λ p e.
    elim (cases_Bool (bytes_eq p.0 name)) [
      | inl passes ↦ let back = other_name key name above in let is = sym e ∙ (bytes_eq-Decides p.0 name).0 passes in let self = same_name name key (sym is) in absurd (cc)
      | inr fails ↦ fails
    ] in
    filter_append test group rest ∙ ap (λ a. a ++ filter test rest) (filter_none test group (all_mapped _ _ differs group same))

-- ---- the lines
all_first : (P : List ℕ → Type 0) (xs : List Pair) → AllByRecursion (λ p. P p.0) xs
    → AllByRecursion P (map (λ h. h.0) xs)
all_first P [] h = tt
all_first P (x ∷ xs) h = (h.0, all_first P xs h.1)

all_dedup_from : (P : List ℕ → Type 0) (k : List ℕ) (xs : List (List ℕ)) → P k → AllByRecursion P xs
    → AllByRecursion P (dedup_from bytes_eq k xs)
all_dedup_from P k [] one h = (one, tt)
all_dedup_from P k (x ∷ xs) one h =
    elim (cases_Bool (bytes_eq x k)) [
      | inl same ↦ rw same (all_dedup_from P k xs one h.1)
      | inr other ↦ rw other (one, all_dedup_from P x xs h.0 h.1)
    ]

all_names : (P : List ℕ → Type 0) (xs : List Pair) → AllByRecursion (λ p. P p.0) xs
    → AllByRecursion P (names_in xs)
all_names P [] h = tt
all_names P (x ∷ xs) h = all_dedup_from P x.0 (map (λ h. h.0) xs) h.0 (all_first P xs h.1)

flat_map_same : (f g : List ℕ → List ℕ) (xs : List (List ℕ)) → AllByRecursion (λ x. f x ≡ g x) xs
    → flat_map f xs ≡ flat_map g xs
flat_map_same f g [] h = refl
flat_map_same f g (x ∷ xs) h = ap₂ (λ a b. a ++ b) h.0 (flat_map_same f g xs h.1)

lines-group : (key : List ℕ) (group rest : List Pair) → AllByRecursion (λ p. p.0 ≡ key) group
    → AllByRecursion (λ p. text_cmp key p.0 ≡ Less) rest
    → flat_map (header_line (group ++ rest)) (key ∷ names_in rest) ≡ group_line key group ++ lines_in rest
lines-group key group rest same above =
    let line : List Pair → List ℕ → List ℕ = λ found name. name ++ (codes ":" ++ (values_text found ++ newline ∷ [])) in
    ap₂ (λ a b. a ++ b) (ap (λ found. line found key) (group_of_name key group rest same above))
    (flat_map_same (header_line (group ++ rest)) (header_line rest) (names_in rest)
    (all_mapped _ _ (λ name less. ap (λ found. line found name) (others_of_name key name group rest same less)) (names_in rest) (all_names (λ name. text_cmp key name ≡ Less) rest above)))

-- ---- a step of the loop over names
nonempty_group : (n : ℕ) (headers : List Pair) → 0 < n → n ≤ length headers
    → (first : BeginsWithKey n headers)
    → names_in headers ≡ dedup_from bytes_eq first.0 (map (λ h. h.0) (take n headers ++ drop n headers))
nonempty_group n [] some fits first = absurd (omega arith)
nonempty_group zero headers some fits first = absurd (omega arith)
nonempty_group (suc n) (x ∷ headers) some fits first =
    let names : List Pair → List (List ℕ) = λ hs. map (λ h. h.0) hs in
    let rest = take n headers ++ drop n headers in
    let skips : dedup_from bytes_eq first.0 (names (x ∷ rest)) ≡ dedup_from bytes_eq first.0 (names rest) = rw (same_name x.0 first.0 first.1.0) refl in
    ap (λ k. dedup_from bytes_eq k (names headers)) first.1.0
    ∙ (ap (λ hs. dedup_from bytes_eq first.0 (names hs)) (sym (take-append-drop n headers)) ∙ sym skips)

pub names-first : (n : ℕ) (headers : List Pair) → 0 < n → n ≤ length headers
    → (first : BeginsWithKey n headers) → names_in headers ≡ first.0 ∷ names_in (drop n headers)
names-first n headers some fits first = nonempty_group n headers some fits first ∙ names-group first.0 (take n headers) (drop n headers) first.1 first.2

pub lines-first : (n : ℕ) (headers : List Pair) → 0 < n → n ≤ length headers
    → (first : BeginsWithKey n headers)
    → lines_in headers ≡ group_line first.0 (take n headers) ++ lines_in (drop n headers)
lines-first n headers some fits first =
    ap (flat_map (header_line headers)) (names-first n headers some fits first)
    ∙ (ap (λ all. flat_map (header_line all) (first.0 ∷ names_in (drop n headers))) (sym (take-append-drop n headers))
    ∙ lines-group first.0 (take n headers) (drop n headers) first.1 first.2)

-- the first name
pub first_name-key : (n : ℕ) (headers : List Pair) → 0 < n → n ≤ length headers
    → (first : BeginsWithKey n headers) → first_name headers ≡ first.0
first_name-key zero headers some fits first = absurd (omega arith)
first_name-key (suc n) [] some fits first = absurd (omega arith)
first_name-key (suc n) (x ∷ headers) some fits first = first.1.0

pub Ascends-drop : (n : ℕ) (headers : List Pair) → Ascends key_cmp headers → Ascends key_cmp (drop n headers)
Ascends-drop zero headers up = up
Ascends-drop (suc n) [] up = tt
Ascends-drop (suc n) (x ∷ headers) up = Ascends-drop n headers up.1

-- ---- the texts of sorted headers are those of the headers
flat_map_everywhere : (f g : List ℕ → List ℕ) → ((x : List ℕ) → f x ≡ g x) → (xs : List (List ℕ))
    → flat_map f xs ≡ flat_map g xs
flat_map_everywhere f g same [] = refl
flat_map_everywhere f g same (x ∷ xs) = ap₂ (λ a b. a ++ b) (same x) (flat_map_everywhere f g same xs)

pub lines-sorted : (fields : List Field) (sorted : List Pair) → AreSorted (map header_of fields) sorted
    → lines_in sorted ≡ canonical_headers fields
unfolding canonical_headers signed_names
lines-sorted fields sorted are =
    let line : List Pair → List ℕ → List ℕ = λ found name. name ++ (codes ":" ++ (values_text found ++ newline ∷ [])) in
    flat_map_everywhere (header_line sorted) (header_line (map header_of fields)) (λ name. ap (λ found. line found name) (are.under name)) (names_in sorted)
    ∙ ap (flat_map (header_line (map header_of fields))) (sym are.names)

pub names-sorted : (fields : List Field) (sorted : List Pair) → AreSorted (map header_of fields) sorted
    → names_text sorted ≡ signed_headers fields
unfolding signed_names
names-sorted fields sorted are = ap (joined_texts (codes ";")) (sym are.names)
