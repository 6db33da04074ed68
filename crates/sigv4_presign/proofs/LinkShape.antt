-- The form of a link's query, by its values.
use Rattle.std.proofs.Common.{◌≡◌, ℕ, Bool, true, false, ◌&&◌, ◌==◌, List, [], ◌∷◌, length, codes, Option, Some, refl, sym, ◌∙◌, arith}
use Rattle.std.specs.Prelude.{bytes_eq, is_some, option_map}
use Rattle.std.proofs.lemmas.Bool.{and_parts}
use Rattle.std.proofs.lemmas.Bool.Decides.{Decides-eqb}
use Rattle.sign_request.proofs.Deciding.{false_from_Decides}
use Rattle.sign_request.specs.Query.{Pair}
use Rattle.sigv4_core.specs.Signature.{algorithm}
use Rattle.sigv4_presign.specs.LinkPairs.{algorithm_name, credential_name, date_name, expires_name, headers_name, signature_name}
use Rattle.sigv4_presign.specs.CheckedLink.{values_of, first_value, value_of, is_shaped}
use Rattle.sigv4_presign.specs.LinkPieces.{only, is_value, are_shaped, keyed_pieces, ArePiecesOf}
use Rattle.sigv4_presign.specs.declared.link_query.Piece.{Piece}
use Rattle.sigv4_presign.proofs.PiecesRead.{only_value, value_in-of}

-- the value of the only pair
abbrev sole : List Pair → Option (List ℕ)
sole pairs = option_map (λ p. p.1) (only pairs)

many : (p q : Pair) (pairs : List Pair) → (length (p ∷ q ∷ pairs) == 1) ≡ false
many p q pairs = false_from_Decides _ (Decides-eqb (length (p ∷ q ∷ pairs)) 1) (λ e. absurd (omega (arith, e)))

once : (pairs : List Pair) → (length pairs == 1) ≡ is_some (sole pairs)
once [] = refl
once (p ∷ []) = refl
once (p ∷ q ∷ pairs) = many p q pairs

once_this : (wanted : List ℕ) (pairs : List Pair)
    → ((length pairs == 1) && bytes_eq (first_value pairs) wanted) ≡ is_value wanted (sole pairs)
once_this wanted [] = refl
once_this wanted (p ∷ []) = refl
once_this wanted (p ∷ q ∷ pairs) = rw (many p q pairs) refl

-- a name that stands once has this value
pub value_of-only : (query name value : List ℕ) → only_value query name ≡ Some value
    → value_of query name ≡ value
value_of-only query name value found = at (values_of query name) found
  where
    at : (pairs : List Pair) → sole pairs ≡ Some value → first_value pairs ≡ value
    at [] e = absurd cc
    at (p ∷ []) e = cc
    at (p ∷ q ∷ pairs) e = absurd cc

-- two tests that pass together are the same
same_tests : (b c : Bool) → (b ≡ true → c ≡ true) → (c ≡ true → b ≡ true) → b ≡ c
same_tests true c to from = sym (to refl)
same_tests false true to from = from refl
same_tests false false to from = refl

on : (a c d e h s x y : Bool) → ((a && (c && (d && (e && (h && (s && true)))))) && (x && y)) ≡ true
    → ((a && x) && ((h && y) && (c && (d && (e && s))))) ≡ true
on a c d e h s x y all =
    let both = and_parts (a && (c && (d && (e && (h && (s && true)))))) (x && y) all in
    let values = and_parts x y both.1 in
    let a_on = and_parts a (c && (d && (e && (h && (s && true))))) both.0 in
    let c_on = and_parts c (d && (e && (h && (s && true)))) a_on.1 in
    let d_on = and_parts d (e && (h && (s && true))) c_on.1 in
    let e_on = and_parts e (h && (s && true)) d_on.1 in
    let h_on = and_parts h (s && true) e_on.1 in
    let s_on = and_parts s true h_on.1 in
    rw (a_on.0, c_on.0, d_on.0, e_on.0, h_on.0, s_on.0, values.0, values.1) refl

back : (a c d e h s x y : Bool) → ((a && x) && ((h && y) && (c && (d && (e && s))))) ≡ true
    → ((a && (c && (d && (e && (h && (s && true)))))) && (x && y)) ≡ true
back a c d e h s x y all =
    let first = and_parts (a && x) ((h && y) && (c && (d && (e && s)))) all in
    let a_x = and_parts a x first.0 in
    let rest = and_parts (h && y) (c && (d && (e && s))) first.1 in
    let h_y = and_parts h y rest.0 in
    let c_on = and_parts c (d && (e && s)) rest.1 in
    let d_on = and_parts d (e && s) c_on.1 in
    let e_s = and_parts e s d_on.1 in
    rw (a_x.0, a_x.1, h_y.0, h_y.1, c_on.0, d_on.0, e_s.0, e_s.1) refl

reorder : (a c d e h s x y : Bool)
    → ((a && (c && (d && (e && (h && (s && true)))))) && (x && y))
    ≡ ((a && x) && ((h && y) && (c && (d && (e && s)))))
reorder a c d e h s x y =
    same_tests ((a && (c && (d && (e && (h && (s && true)))))) && (x && y)) ((a && x) && ((h && y) && (c && (d && (e && s)))))
    (on a c d e h s x y) (back a c d e h s x y)

-- each of the six names stands once, and algorithm and headers have their value
pub is_shaped-values : (query : List ℕ) → is_shaped query
    ≡ (is_value algorithm (only_value query algorithm_name)
    && (is_value (codes "host") (only_value query headers_name)
    && (is_some (only_value query credential_name) && (is_some (only_value query date_name)
    && (is_some (only_value query expires_name) && is_some (only_value query signature_name))))))
is_shaped-values query =
    reorder (length (values_of query algorithm_name) == 1) (length (values_of query credential_name) == 1) (length (values_of query date_name) == 1)
    (length (values_of query expires_name) == 1) (length (values_of query headers_name) == 1) (length (values_of query signature_name) == 1)
    (bytes_eq (value_of query algorithm_name) algorithm) (bytes_eq (value_of query headers_name) (codes "host"))
    ∙ rw (once_this algorithm (values_of query algorithm_name), once_this (codes "host") (values_of query headers_name), once (values_of query credential_name), once (values_of query date_name), once (values_of query expires_name), once (values_of query signature_name)) refl

pub are_shaped-of : (query : List ℕ) (pieces : List Piece) → ArePiecesOf query pieces
    → are_shaped (keyed_pieces pieces) ≡ is_shaped query
are_shaped-of query pieces are =
    rw (value_in-of query algorithm_name pieces are, value_in-of query headers_name pieces are, value_in-of query credential_name pieces are, value_in-of query date_name pieces are, value_in-of query expires_name pieces are, value_in-of query signature_name pieces are)
    (sym (is_shaped-values query))
