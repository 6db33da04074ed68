-- A list of names, as a signature spells it, names the headers that it is of.
use Rattle.std.proofs.Common.{◌≡◌, ℕ, Bool, true, false, ◌||◌, not, inl, inr, List, [], ◌∷◌, ◌++◌, map, codes, All, refl, sym, ap, subst, ◌∙◌, append_assoc}
use Rattle.std.specs.Prelude.{filter, bytes_eq}
use Rattle.std.specs.List.{list_any, slice_split, dedup, dedup_from}
use Rattle.std.specs.Ordering.{is_gt}
use Rattle.std.proofs.lemmas.Bool.{cases_Bool}
use Rattle.std.proofs.lemmas.List.Elements.{All-nil, All-cons, All-head, All-tail, All-weaker}
use Rattle.std.proofs.lemmas.List.Splits.{slice_split_none, slice_split_at}
use Rattle.std.proofs.lemmas.Slice.Eq.{bytes_eq-Decides}
use Rattle.http_header.specs.Token.{lowercase}
use Rattle.http_header.proofs.TokenLemmas.{lowercase-lowercase_lem}
use Rattle.sign_base.specs.declared.head.Field.{Field}
use Rattle.sign_request.specs.CanonicalText.{text_cmp, insert_sorted, sorted, joined_texts}
use Rattle.sign_request.specs.Query.{Pair}
use Rattle.sigv4_canonical.specs.CanonicalHeaders.{header_of, signed_names, signed_headers}
use Rattle.sigv4_core.specs.SignedHead.{is_named}
use Rattle.sigv4_verify.specs.SignedForm.{authorization_name, is_semicolon, is_listed, listed}

or_true : (b : Bool) → (b || true) ≡ true
or_true true = refl
or_true false = refl

or_swap : (a b c : Bool) → (a || (b || c)) ≡ (b || (a || c))
or_swap true true c = refl
or_swap true false c = refl
or_swap false true c = refl
or_swap false false c = refl

or_twice : (a b : Bool) → (a || b) ≡ (a || (a || b))
or_twice true b = refl
or_twice false b = refl

-- what holds of some text holds of some text that is sorted, and where each stands once
module _ (test : List ℕ → Bool) where
  any-insert : (x : List ℕ) (xs : List (List ℕ))
      → list_any test (insert_sorted text_cmp x xs) ≡ (test x || list_any test xs)
  any-insert x [] = refl
  any-insert x (y ∷ ys) =
      elim (cases_Bool (is_gt (text_cmp x y))) [
        | inl behind ↦ rw behind (ap (λ b. test y || b) (any-insert x ys) ∙ or_swap (test y) (test x) (list_any test ys))
        | inr before ↦ rw before refl
      ]

  any-sorted : (xs : List (List ℕ)) → list_any test (sorted text_cmp xs) ≡ list_any test xs
  any-sorted [] = refl
  any-sorted (x ∷ xs) = any-insert x (sorted text_cmp xs) ∙ ap (λ b. test x || b) (any-sorted xs)

  any-dedup_from : (k : List ℕ) (xs : List (List ℕ))
      → list_any test (dedup_from bytes_eq k xs) ≡ (test k || list_any test xs)
  any-dedup_from k [] = refl
  any-dedup_from k (x ∷ xs) =
      elim (cases_Bool (bytes_eq x k)) [
        | inl same ↦
            let is : x ≡ k = (bytes_eq-Decides x k).0 same in
            rw same (any-dedup_from k xs ∙ (or_twice (test k) (list_any test xs) ∙ ap (λ y. test k || (test y || list_any test xs)) (sym is)))
        | inr other ↦ rw other (ap (λ b. test k || b) (any-dedup_from x xs))
      ]

  any-dedup : (xs : List (List ℕ)) → list_any test (dedup bytes_eq xs) ≡ list_any test xs
  any-dedup [] = refl
  any-dedup (x ∷ xs) = any-dedup_from x xs

  pub any-signed_names : (fields : List Field)
      → list_any test (signed_names fields) ≡ list_any test (map (λ (h : Pair). h.0) (map header_of fields))
  unfolding signed_names
  any-signed_names fields =
      let names = map (λ (h : Pair). h.0) (map header_of fields) in
      any-dedup (sorted text_cmp names) ∙ any-sorted names

-- a list of texts without a `;` is split into them again
abbrev pub NoSemicolon : List ℕ → Type 0
NoSemicolon text = All (λ b. is_semicolon b ≡ false) text

split_joined : (x : List ℕ) (xs : List (List ℕ)) → All NoSemicolon (x ∷ xs)
    → slice_split is_semicolon (joined_texts (codes ";") (x ∷ xs)) ≡ x ∷ xs
split_joined x [] h = slice_split_none is_semicolon x (All-head NoSemicolon x [] h)
split_joined x (y ∷ ys) h =
    ap (slice_split is_semicolon) (append_assoc x (codes ";") (joined_texts (codes ";") (y ∷ ys)))
    ∙ (slice_split_at is_semicolon x 59 (joined_texts (codes ";") (y ∷ ys)) (All-head NoSemicolon x (y ∷ ys) h) refl
    ∙ ap (λ rest. x ∷ rest) (split_joined y ys (All-tail NoSemicolon x (y ∷ ys) h)))

-- of no texts at all the split has one empty part, which is no name
any_split : (test : List ℕ → Bool) (xs : List (List ℕ)) → test [] ≡ false → All NoSemicolon xs
    → list_any test (slice_split is_semicolon (joined_texts (codes ";") xs)) ≡ list_any test xs
any_split test [] none h = rw none refl
any_split test (x ∷ xs) none h = ap (list_any test) (split_joined x xs h)

-- the test by which a header is looked for in a list
abbrev looks_for : List ℕ → List ℕ → Bool
looks_for name text = bytes_eq (lowercase text) (lowercase name)

module _ (fields : List Field) (plain : All NoSemicolon (signed_names fields)) where
  is_listed-names : (f : Field) → looks_for f.name [] ≡ false
      → is_listed (signed_headers fields) f
      ≡ list_any (looks_for f.name) (map (λ (h : Pair). h.0) (map header_of fields))
  is_listed-names f some = any_split (looks_for f.name) (signed_names fields) some plain ∙ any-signed_names (looks_for f.name) fields

-- a header is among those whose names are listed
here : (f : Field) (front rest : List Field)
    → list_any (looks_for f.name) (map (λ (h : Pair). h.0) (map header_of (front ++ f ∷ rest))) ≡ true
here f [] rest =
    let same : bytes_eq (lowercase (lowercase f.name)) (lowercase f.name) ≡ true = (bytes_eq-Decides _ _).1 (lowercase-lowercase_lem f.name) in
    rw same refl
here f (g ∷ front) rest = rw (here f front rest) (or_true (bytes_eq (lowercase (lowercase g.name)) (lowercase f.name)))

-- no header has an empty name
abbrev pub HasName : Field → Type 0
HasName f = looks_for f.name [] ≡ false

module _ (fields : List Field) (plain : All NoSemicolon (signed_names fields)) where
  each_listed : (front rest : List Field) → front ++ rest ≡ fields → All HasName rest
      → All (λ f. is_listed (signed_headers fields) f ≡ true) rest
  each_listed front [] e h = All-nil (λ f. is_listed (signed_headers fields) f ≡ true)
  each_listed front (f ∷ rest) e h =
      All-cons (λ f. is_listed (signed_headers fields) f ≡ true) f rest
      (is_listed-names fields plain f (All-head HasName f rest h) ∙ subst (λ fs. list_any (looks_for f.name) (map (λ (h : Pair). h.0) (map header_of fs)) ≡ true) e (here f front rest))
      (each_listed (front ++ f ∷ []) rest (append_assoc front (f ∷ []) rest ∙ e) (All-tail HasName f rest h))

filter_front : (test : Field → Bool) (xs : List Field) (y : Field) → All (λ x. test x ≡ true) xs → test y ≡ false
    → filter test (xs ++ y ∷ []) ≡ xs
filter_front test [] y h fails = rw fails refl
filter_front test (x ∷ xs) y h fails =
    let passes : test x ≡ true = All-head (λ x. test x ≡ true) x xs h in
    rw passes (ap (λ rest. x ∷ rest) (filter_front test xs y (All-tail (λ x. test x ≡ true) x xs h) fails))

abbrev pub IsOther : Field → Type 0
IsOther f = is_named authorization_name f ≡ false

-- and the authorization is not, where no other header has that name
none_authorizes : (fields : List Field) → All IsOther fields
    → list_any (looks_for authorization_name) (map (λ (h : Pair). h.0) (map header_of fields)) ≡ false
none_authorizes [] h = refl
none_authorizes (f ∷ fields) h =
    let other : bytes_eq (lowercase (lowercase f.name)) (lowercase authorization_name) ≡ false =
    ap (λ name. bytes_eq name authorization_name) (lowercase-lowercase_lem f.name) ∙ All-head IsOther f fields h in
    rw other (none_authorizes fields (All-tail IsOther f fields h))

-- so what a list of names selects of these headers and the authorization are these headers
module _ (fields : List Field) (plain : All NoSemicolon (signed_names fields)) (named : All HasName fields)
    (others : All IsOther fields) (authorization : Field) (is : authorization.name ≡ authorization_name) where
  pub listed-signed : listed (signed_headers fields) (fields ++ authorization ∷ []) ≡ fields
  listed-signed =
      let own : is_listed (signed_headers fields) authorization ≡ list_any (looks_for authorization.name) (map (λ (h : Pair). h.0) (map header_of fields)) =
      is_listed-names fields plain authorization (ap (λ name. looks_for name []) is) in
      filter_front (is_listed (signed_headers fields)) fields authorization
      (each_listed fields plain [] fields refl named)
      (own ∙ (ap (λ name. list_any (looks_for name) (map (λ (h : Pair). h.0) (map header_of fields))) is ∙ none_authorizes fields others))

  pub others-signed : filter (λ f. not (is_named authorization_name f)) (fields ++ authorization ∷ []) ≡ fields
  others-signed =
      filter_front (λ f. not (is_named authorization_name f)) fields authorization (All-weaker IsOther (λ f. not (is_named authorization_name f) ≡ true) (λ f other. ap not other) fields others)
      (ap (λ name. not (bytes_eq (lowercase name) authorization_name)) is)
