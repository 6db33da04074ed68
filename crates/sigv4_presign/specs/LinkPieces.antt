-- The pieces of a query beside their decoded keys, and what is read of them.
use Rattle.std.specs.Prelude.{◌≡◌, ℕ, Bool, false, not, ◌&&◌, List, [], ◌∷◌, map, filter, codes, bytes_eq}
use Rattle.std.specs.Prelude.{Option, Some, None, is_some, option_map, string_bytes}
use Rattle.std.specs.List.{list_any}
use Rattle.sign_request.specs.CanonicalText.{joined_texts}
use Rattle.sign_request.specs.Query.{Pair, query_pieces, read_pair}
use Rattle.sigv4_core.specs.Signature.{algorithm}
use Rattle.sigv4_presign.specs.LinkPairs.{algorithm_name, credential_name, date_name, expires_name}
use Rattle.sigv4_presign.specs.LinkPairs.{headers_name, signature_name, is_link_name}
use Rattle.sigv4_presign.specs.declared.link_query.Piece.{Piece}

-- a piece beside its decoded key
abbrev pub keyed : List ℕ → Pair
keyed text = ((read_pair text).0, text)

abbrev pub keyed_piece : Piece → Pair
keyed_piece piece = (string_bytes piece.key, piece.text.now)

abbrev pub keyed_pieces : List Piece → List Pair
keyed_pieces pieces = map keyed_piece pieces

-- these are the pieces of the query, in order
abbrev pub ArePiecesOf : List ℕ → List Piece → Type 0
ArePiecesOf query pieces = keyed_pieces pieces ≡ map keyed (query_pieces query)

-- the texts of the pieces with a key that passes
abbrev pub texts_where : (List ℕ → Bool) → List Pair → List (List ℕ)
texts_where test pieces = map (λ p. p.1) (filter (λ p. test p.0) pieces)

abbrev pub texts_named : List ℕ → List Pair → List (List ℕ)
texts_named name pieces = texts_where (λ key. bytes_eq key name) pieces

-- the element of a list that has one alone
abbrev pub only : {X : Type 0} → List X → Option X
only [] = None
only (x ∷ []) = Some x
only (x ∷ y ∷ xs) = None

-- the value of the one piece with this key
abbrev pub value_in : List ℕ → List Pair → Option (List ℕ)
value_in name pieces = option_map (λ text. (read_pair text).1) (only (texts_named name pieces))

-- the value is there, and is this one
abbrev pub is_value : List ℕ → Option (List ℕ) → Bool
is_value wanted None = false
is_value wanted (Some value) = bytes_eq value wanted

-- each of the six names stands once, and algorithm and headers are those of a link
abbrev pub are_shaped : List Pair → Bool
are_shaped pieces =
    is_value algorithm (value_in algorithm_name pieces)
    && (is_value (codes "host") (value_in headers_name pieces)
    && (is_some (value_in credential_name pieces) && (is_some (value_in date_name pieces)
    && (is_some (value_in expires_name pieces) && is_some (value_in signature_name pieces)))))

-- the pieces without those of a signature, as they stand
abbrev pub unsigned_text : List Pair → List ℕ
unsigned_text pieces =
    joined_texts (codes "&") (texts_where (λ key. not (bytes_eq key signature_name)) pieces)

-- a key is the name of a link's pair
abbrev pub any_link_name : List Piece → Bool
any_link_name pieces = list_any (λ piece. is_link_name (string_bytes piece.key)) pieces
