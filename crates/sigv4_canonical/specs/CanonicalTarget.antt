-- The path and the query of a canonical request.
use Rattle.std.specs.Prelude.{ℕ, Bool, List, codes, map, ◌==◌}
use Rattle.std.specs.List.{slice_split, before_first, after_first}
use Rattle.http_uri.specs.ByteClasses.{slash}
use Rattle.sign_request.specs.CanonicalText.{joined_texts, canonical_text, header_text}
use Rattle.sign_request.specs.Query.{Pair, query_pieces, is_equals_sign}
use Rattle.sigv4_canonical.specs.Encoding.{encoded_anew}

-- the byte is `/`
abbrev pub is_slash : ℕ → Bool
is_slash b = b == slash

-- the segments of a path, each decoded once and encoded
unfoldable pub canonical_path : List ℕ → List ℕ
canonical_path path = joined_texts (codes "/") (map encoded_anew (slice_split is_slash path))

-- a piece of a query cut at its first `=`, each side decoded once and encoded
abbrev pub encoded_pair : List ℕ → Pair
encoded_pair piece =
    (encoded_anew (before_first is_equals_sign piece), encoded_anew (after_first is_equals_sign piece))

-- the pairs of a query, ascending, each with its `=`
unfoldable pub canonical_query : List ℕ → List ℕ
canonical_query query =
    canonical_text (header_text (codes "=")) (codes "&") (map encoded_pair (query_pieces query))
