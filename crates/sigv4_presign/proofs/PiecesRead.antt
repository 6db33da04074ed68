-- What is read of a query is read of its pieces beside their keys.
use Rattle.std.proofs.Common.{◌≡◌, ℕ, Bool, not, inl, inr, List, [], ◌∷◌, ◌++◌, ◌+◌, ◌<◌, ◌==◌, true, false, map, filter, length, take, drop, get_or, codes, Option, Some, None, refl, sym, ap, ◌∙◌, append_assoc, append-nil, arith}
use Rattle.std.specs.Prelude.{bytes_eq, option_map, string_bytes, is_some, if◌then◌else◌}
use Rattle.std.specs.List.{list_any}
use Rattle.std.proofs.lemmas.Bool.{cases_Bool}
use Rattle.std.proofs.lemmas.Bool.Decides.{Decides-eqb, nat_tests}
use Rattle.std.proofs.lemmas.List.{take_more, take-append-drop}
use Rattle.sigv4_canonical.proofs.JoinedOn.{joined-first, joined-more}
use Rattle.sign_request.specs.Query.{Pair, query_pieces, query_pairs, read_pair}
use Rattle.sign_request.specs.CanonicalText.{joined_texts}
use Rattle.sigv4_presign.specs.LinkPairs.{signature_name, is_link_name, has_link_name}
use Rattle.sigv4_presign.specs.CheckedLink.{values_of, unsigned_query}
use Rattle.sigv4_presign.specs.LinkPieces.{keyed, keyed_pieces, ArePiecesOf, texts_where, only, value_in, unsigned_text, any_link_name}
use Rattle.sigv4_presign.specs.declared.link_query.Piece.{Piece}

-- the pair of a piece beside its key
abbrev pub valued : Pair → Pair
valued p = (p.0, (read_pair p.1).1)

-- a pair with a key that passes
abbrev pub by_key : (List ℕ → Bool) → Pair → Bool
by_key test p = test p.0

module _ (test : List ℕ → Bool) where
  pub filter-keyed : (texts : List (List ℕ))
      → filter (by_key test) (map read_pair texts) ≡ map valued (filter (by_key test) (map keyed texts))
  filter-keyed [] = refl
  filter-keyed (t ∷ texts) =
      elim (cases_Bool (test (read_pair t).0)) [
        | inl passes ↦ rw passes (ap (λ ps. read_pair t ∷ ps) (filter-keyed texts))
        | inr fails ↦ rw fails (filter-keyed texts)
      ]

  pub any-keyed : (texts : List (List ℕ))
      → list_any (by_key test) (map read_pair texts) ≡ list_any (by_key test) (map keyed texts)
  any-keyed [] = refl
  any-keyed (t ∷ texts) =
      elim (cases_Bool (test (read_pair t).0)) [
        | inl passes ↦ rw passes refl
        | inr fails ↦ rw fails (any-keyed texts)
      ]

  pub texts-keyed : (texts : List (List ℕ))
      → filter (λ t. test (read_pair t).0) texts ≡ map (λ p. p.1) (filter (by_key test) (map keyed texts))
  texts-keyed [] = refl
  texts-keyed (t ∷ texts) =
      elim (cases_Bool (test (read_pair t).0)) [
        | inl passes ↦ rw passes (ap (λ ts. t ∷ ts) (texts-keyed texts))
        | inr fails ↦ rw fails (texts-keyed texts)
      ]

-- the values of a name
pub values_of-keyed : (query name : List ℕ)
    → values_of query name
    ≡ map valued (filter (by_key (λ key. bytes_eq key name)) (map keyed (query_pieces query)))
unfolding query_pairs
values_of-keyed query name = filter-keyed (λ key. bytes_eq key name) (query_pieces query)

-- whether there is a name of a link
pub has_link_name-keyed : (query : List ℕ)
    → has_link_name query ≡ list_any (by_key is_link_name) (map keyed (query_pieces query))
unfolding query_pairs
has_link_name-keyed query = any-keyed is_link_name (query_pieces query)

-- as a test of the pieces themselves
any-pieces : (test : List ℕ → Bool) (pieces : List Piece)
    → list_any (by_key test) (keyed_pieces pieces) ≡ list_any (λ piece. test (string_bytes piece.key)) pieces
any-pieces test [] = refl
any-pieces test (p ∷ pieces) =
    elim (cases_Bool (test (string_bytes p.key))) [
      | inl passes ↦ rw passes refl
      | inr fails ↦ rw fails (any-pieces test pieces)
    ]

pub any_link_name-of : (query : List ℕ) (pieces : List Piece) → ArePiecesOf query pieces
    → any_link_name pieces ≡ has_link_name query
any_link_name-of query pieces are =
    sym (any-pieces is_link_name pieces) ∙ (ap (list_any (by_key is_link_name)) are ∙ sym (has_link_name-keyed query))

-- ---- the only one
-- the value of a name that stands once
abbrev pub only_value : List ℕ → List ℕ → Option (List ℕ)
only_value query name = option_map (λ p. p.1) (only (values_of query name))

only-valued : (pairs : List Pair)
    → option_map (λ p. p.1) (only (map valued pairs))
    ≡ option_map (λ text. (read_pair text).1) (only (map (λ p. p.1) pairs))
only-valued [] = refl
only-valued (p ∷ []) = refl
only-valued (p ∷ q ∷ pairs) = refl

-- is that of its piece
pub value_in-of : (query name : List ℕ) (pieces : List Piece) → ArePiecesOf query pieces
    → value_in name (keyed_pieces pieces) ≡ only_value query name
value_in-of query name pieces are =
    ap (value_in name) are
    ∙ sym (ap (λ pairs. option_map (λ p. p.1) (only pairs)) (values_of-keyed query name)
    ∙ only-valued (filter (by_key (λ key. bytes_eq key name)) (map keyed (query_pieces query))))

-- ---- piece by piece
-- what was found, as a list
abbrev pub found_list : Option (List ℕ) → List (List ℕ)
found_list None = []
found_list (Some text) = text ∷ []

module _ (test : List ℕ → Bool) where
  texts_where-append : (xs ys : List Piece)
      → texts_where test (keyed_pieces (xs ++ ys))
      ≡ texts_where test (keyed_pieces xs) ++ texts_where test (keyed_pieces ys)
  texts_where-append [] ys = refl
  texts_where-append (x ∷ xs) ys =
      elim (cases_Bool (test (string_bytes x.key))) [
        | inl passes ↦ rw passes (ap (λ ts. x.text.now ∷ ts) (texts_where-append xs ys))
        | inr fails ↦ rw fails (texts_where-append xs ys)
      ]

  module _ (pieces : List Piece) (i : ℕ) (p : Piece) (within : i < length pieces)
      (here : p ≡ get_or pieces i p) where
    next : take (i + 1) pieces ≡ take i pieces ++ p ∷ []
    next = take_more pieces i p within ∙ ap (λ x. take i pieces ++ x ∷ []) (sym here)

    -- a piece that passes comes to the end, and another is left out
    pub texts_where-more : test (string_bytes p.key) ≡ true
        → texts_where test (keyed_pieces (take (i + 1) pieces))
        ≡ texts_where test (keyed_pieces (take i pieces)) ++ p.text.now ∷ []
    texts_where-more passes = ap (λ ps. texts_where test (keyed_pieces ps)) next ∙ (texts_where-append (take i pieces) (p ∷ []) ∙ rw passes refl)

    pub texts_where-same : test (string_bytes p.key) ≡ false
        → texts_where test (keyed_pieces (take (i + 1) pieces))
        ≡ texts_where test (keyed_pieces (take i pieces))
    texts_where-same fails = ap (λ ps. texts_where test (keyed_pieces ps)) next ∙ (texts_where-append (take i pieces) (p ∷ []) ∙ rw fails (append-nil (texts_where test (keyed_pieces (take i pieces)))))

    -- a second one is one too many
    pub second_found : (found : Option (List ℕ)) → is_some found ≡ true
        → texts_where test (keyed_pieces (take i pieces)) ≡ found_list found
        → test (string_bytes p.key) ≡ true → None ≡ only (texts_where test (keyed_pieces pieces))
    second_found None some before passes = absurd cc
    second_found (Some text) some before passes =
        let first = texts_where-more passes ∙ ap (λ ts. ts ++ p.text.now ∷ []) before in
        let whole : texts_where test (keyed_pieces pieces) ≡ texts_where test (keyed_pieces (take (i + 1) pieces)) ++ texts_where test (keyed_pieces (drop (i + 1) pieces)) =
        ap (λ ps. texts_where test (keyed_pieces ps)) (sym (take-append-drop (i + 1) pieces)) ∙ texts_where-append (take (i + 1) pieces) (drop (i + 1) pieces) in
        sym (ap only (whole ∙ ap (λ ts. ts ++ texts_where test (keyed_pieces (drop (i + 1) pieces))) first))

-- texts joined by `&`, with one more
pub joined_step : (texts : List (List ℕ)) (text x : List ℕ) (first : Bool)
    → text ≡ joined_texts (codes "&") texts → first ≡ (length texts == 0)
    → text ++ (if first then x else 38 ∷ x) ≡ joined_texts (codes "&") (texts ++ x ∷ [])
joined_step texts text x true before none =
    ap (λ t. t ++ x) before ∙ sym (joined-first (codes "&") texts x ((Decides-eqb (length texts) 0).0 (sym none)))
joined_step texts text x false before some =
    let long : 0 < length texts = grind (arith, nat_tests, some) in
    ap (λ t. t ++ 38 ∷ x) before ∙ (sym (append_assoc (joined_texts (codes "&") texts) (38 ∷ []) x) ∙ sym (joined-more (codes "&") texts x long))

-- the query without its signature
pub unsigned_text-of : (query : List ℕ) (pieces : List Piece) → ArePiecesOf query pieces
    → unsigned_text (keyed_pieces pieces) ≡ unsigned_query query
unsigned_text-of query pieces are =
    ap unsigned_text are ∙ sym (ap (joined_texts (codes "&")) (texts-keyed (λ key. not (bytes_eq key signature_name)) (query_pieces query)))
