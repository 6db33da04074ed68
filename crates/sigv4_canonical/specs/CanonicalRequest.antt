-- The canonical request of AWS Signature Version 4.
use Rattle.std.specs.Prelude.{ℕ, List, [], ◌∷◌}
use Rattle.sign_base.specs.Bytes.{newline}
use Rattle.sign_base.specs.declared.head.Field.{Field}
use Rattle.sign_request.specs.CanonicalText.{joined_texts}
use Rattle.sigv4_canonical.specs.CanonicalTarget.{canonical_path, canonical_query}
use Rattle.sigv4_canonical.specs.CanonicalHeaders.{canonical_headers, signed_headers}

-- texts, each on a line of its own
abbrev pub joined_lines : List (List ℕ) → List ℕ
joined_lines texts = joined_texts (newline ∷ []) texts

-- method, path, query, headers, the names of the headers and the word for the payload, a line each
unfoldable pub canonical_request : List ℕ → List ℕ → List ℕ → List Field → List ℕ → List ℕ
canonical_request method path query fields word =
    joined_lines (method ∷ canonical_path path ∷ canonical_query query ∷ canonical_headers fields
    ∷ signed_headers fields ∷ word ∷ [])
