-- The query of a link: its pieces are those of the query before it and the six pairs, and each of the six
-- names stands once.
use Rattle.std.proofs.Common.{◌≡◌, ℕ, ℤ, Bool, true, false, not, inl, inr, List, [], ◌∷◌, ◌++◌, map, filter, codes, All, refl, sym, ap, ap₂, subst, ◌∙◌, append_assoc}
use Rattle.std.specs.Prelude.{bytes_eq, decimal}
use Rattle.std.specs.List.{list_any}
use Rattle.std.proofs.lemmas.Bool.{cases_Bool, or_parts}
use Rattle.std.proofs.lemmas.List.{map-append}
use Rattle.std.proofs.lemmas.List.Elements.{All-nil, All-cons, All-append, filter-append}
use Rattle.std.proofs.lemmas.Slice.Eq.{bytes_eq-Decides}
use Rattle.sign_base.specs.Bytes.{ampersand}
use Rattle.sign_time.specs.Calendar.{civil_of}
use Rattle.sign_time.specs.MomentText.{iso8601_text}
use Rattle.sign_request.specs.CanonicalText.{joined_texts, canonical_text, header_text}
use Rattle.sign_request.specs.Query.{Pair, query_pieces, query_pairs, read_pair}
use Rattle.sigv4_canonical.specs.CanonicalTarget.{canonical_query, encoded_pair}
use Rattle.sigv4_core.specs.Credential.{Credential as Keys}
use Rattle.sigv4_core.specs.Scope.{Scope}
use Rattle.sigv4_core.specs.Signature.{algorithm}
use Rattle.sigv4_presign.specs.LinkPairs.{algorithm_name, credential_name, date_name, expires_name, headers_name, signature_name, is_link_name, has_link_name, credential_text, signed_pairs, pair_piece, query_to_sign}
use Rattle.sigv4_presign.specs.CheckedLink.{values_of, value_of, is_shaped, unsigned_query}
use Rattle.sigv4_presign.proofs.PairPieces.{IsPlainPair, pair_piece-IsPiece, read-pieces, filter-pieces, All-pieces}
use Rattle.sigv4_presign.proofs.QueryPieces.{query_pieces-append, query_pieces-one, query_pieces-joined, query_pieces-after, query_pieces-IsPiece}

-- pairs of which none has a name of a link have no value of such a name
name_differs : (key name : List ℕ) → is_link_name name ≡ true → is_link_name key ≡ false
    → bytes_eq key name ≡ false
name_differs key name is other =
    elim (cases_Bool (bytes_eq key name)) [
      | inl same ↦ let e = (bytes_eq-Decides key name).0 same in let bad : is_link_name name ≡ false = subst (λ n. is_link_name n ≡ false) e other in cc
      | inr differs ↦ differs
    ]

pub no_values : (name : List ℕ) (pairs : List Pair) → is_link_name name ≡ true
    → list_any (λ p. is_link_name p.0) pairs ≡ false → filter (λ p. bytes_eq p.0 name) pairs ≡ []
no_values name [] is none = refl
no_values name (p ∷ ps) is none =
    let parts = or_parts (is_link_name p.0) (list_any (λ p. is_link_name p.0) ps) none in
    let differs = name_differs p.0 name is parts.0 in
    rw differs (no_values name ps is parts.1)

pub none_left_out : (name : List ℕ) (pieces : List (List ℕ)) → is_link_name name ≡ true
    → list_any (λ p. is_link_name p.0) (map read_pair pieces) ≡ false
    → filter (λ piece. not (bytes_eq (read_pair piece).0 name)) pieces ≡ pieces
none_left_out name [] is none = refl
none_left_out name (piece ∷ pieces) is none =
    let parts = or_parts (is_link_name (read_pair piece).0) (list_any (λ p. is_link_name p.0) (map read_pair pieces)) none in
    let differs : bytes_eq (read_pair piece).0 name ≡ false = name_differs (read_pair piece).0 name is parts.0 in
    rw differs (ap (λ kept. piece ∷ kept) (none_left_out name pieces is parts.1))

module _ (keys : Keys) (scope : Scope) (now : ℤ) (expires : ℕ) (old signature : List ℕ) where
  -- the five pairs, and the sixth
  abbrev pub five : List Pair
  five = signed_pairs keys scope now expires

  abbrev pub sixth : Pair
  sixth = (signature_name, signature)

  -- the query that is signed, and the query of the link
  abbrev pub signed_query : List ℕ
  signed_query = query_to_sign keys scope now expires old

  abbrev pub link_query : List ℕ
  link_query = signed_query ++ ampersand ∷ pair_piece sixth

  module _ (fresh : has_link_name old ≡ false) (plain : All IsPlainPair five) (last : IsPlainPair sixth) where
    plain_six : All IsPlainPair (five ++ sixth ∷ [])
    plain_six = All-append IsPlainPair five (sixth ∷ []) plain (All-cons IsPlainPair sixth [] last (All-nil IsPlainPair))

    pieces_signed : query_pieces signed_query ≡ query_pieces old ++ map pair_piece five
    unfolding query_to_sign
    pieces_signed = query_pieces-after old (map pair_piece five) (All-pieces five plain)

    pieces_link : query_pieces link_query ≡ query_pieces old ++ map pair_piece (five ++ sixth ∷ [])
    pieces_link =
        query_pieces-append signed_query (pair_piece sixth)
        ∙ (ap₂ (λ (front back : List (List ℕ)). front ++ back) pieces_signed (query_pieces-one (pair_piece sixth) (pair_piece-IsPiece sixth last))
        ∙ append_assoc (query_pieces old) (map pair_piece five) (pair_piece sixth ∷ []))

    pairs_link : query_pairs link_query ≡ query_pairs old ++ (five ++ sixth ∷ [])
    unfolding query_pairs
    pairs_link =
        ap (map read_pair) pieces_link
        ∙ (map-append read_pair (query_pieces old) (map pair_piece (five ++ sixth ∷ []))
        ∙ ap (λ pairs. map read_pair (query_pieces old) ++ pairs) (read-pieces (five ++ sixth ∷ []) plain_six))

    values_link : (name : List ℕ) → is_link_name name ≡ true
        → values_of link_query name ≡ filter (λ p. bytes_eq p.0 name) (five ++ sixth ∷ [])
    values_link name is =
        ap (filter (λ p. bytes_eq p.0 name)) pairs_link
        ∙ (filter-append (λ p. bytes_eq p.0 name) (query_pairs old) (five ++ sixth ∷ [])
        ∙ ap (λ pairs. pairs ++ filter (λ p. bytes_eq p.0 name) (five ++ sixth ∷ [])) (no_values name (query_pairs old) is fresh))

    algorithm_found : values_of link_query algorithm_name ≡ (algorithm_name, algorithm) ∷ []
    algorithm_found = values_link algorithm_name refl

    credential_found : values_of link_query credential_name
        ≡ (credential_name, credential_text keys scope now) ∷ []
    credential_found = values_link credential_name refl

    date_found : values_of link_query date_name ≡ (date_name, iso8601_text (civil_of now)) ∷ []
    date_found = values_link date_name refl

    expires_found : values_of link_query expires_name ≡ (expires_name, decimal expires) ∷ []
    expires_found = values_link expires_name refl

    headers_found : values_of link_query headers_name ≡ (headers_name, codes "host") ∷ []
    headers_found = values_link headers_name refl

    signature_found : values_of link_query signature_name ≡ (signature_name, signature) ∷ []
    signature_found = values_link signature_name refl

    pub shaped : is_shaped link_query ≡ true
    shaped = rw (algorithm_found, credential_found, date_found, expires_found, headers_found, signature_found) refl

    pub credential_value : value_of link_query credential_name ≡ credential_text keys scope now
    credential_value = rw credential_found refl

    pub date_value : value_of link_query date_name ≡ iso8601_text (civil_of now)
    date_value = rw date_found refl

    pub expires_value : value_of link_query expires_name ≡ decimal expires
    expires_value = rw expires_found refl

    pub signature_value : value_of link_query signature_name ≡ signature
    signature_value = rw signature_found refl

    -- without its signature pair the query has the pieces that are signed
    unsigned_pieces : filter (λ piece. not (bytes_eq (read_pair piece).0 signature_name))
        (query_pieces link_query)
        ≡ query_pieces signed_query
    unfolding query_pairs
    unsigned_pieces =
        let keeps : List ℕ → Bool = λ piece. not (bytes_eq (read_pair piece).0 signature_name) in
        ap (filter keeps) pieces_link
        ∙ (filter-append keeps (query_pieces old) (map pair_piece (five ++ sixth ∷ []))
        ∙ (ap₂ (λ (front back : List (List ℕ)). front ++ back)
        (none_left_out signature_name (query_pieces old) refl fresh)
        (filter-pieces (λ p. not (bytes_eq p.0 signature_name)) (five ++ sixth ∷ []) plain_six)
        ∙ sym pieces_signed))

    pub unsigned_query-pieces : query_pieces (unsigned_query link_query) ≡ query_pieces signed_query
    unsigned_query-pieces =
        ap (λ pieces. query_pieces (joined_texts (codes "&") pieces)) unsigned_pieces
        ∙ query_pieces-joined (query_pieces signed_query) (query_pieces-IsPiece signed_query)

    -- so it is signed alike
    pub canonical_query-unsigned : canonical_query (unsigned_query link_query) ≡ canonical_query signed_query
    unfolding canonical_query
    canonical_query-unsigned = ap (λ pieces. canonical_text (header_text (codes "=")) (codes "&") (map encoded_pair pieces)) unsigned_query-pieces
