-- The names of plain headers, without a map.
use Rattle.std.specs.Prelude.{ℕ, List, map, bytes_eq}
use Rattle.std.specs.List.{dedup}
use Rattle.http_header.specs.Token.{lowercase}
use Rattle.sign_base.specs.declared.head.Field.{Field}
use Rattle.sign_request.specs.CanonicalText.{text_cmp, sorted}

-- the names in lower case, as they stand
abbrev pub lowercase_each : List Field → List (List ℕ)
lowercase_each fields = map (λ f. lowercase f.name) fields

-- the names in lower case, each once, ascending
abbrev pub distinct_names : List Field → List (List ℕ)
distinct_names fields = dedup bytes_eq (sorted text_cmp (lowercase_each fields))
