-- Headers that are sorted by name, while they are written.
use Rattle.std.specs.Prelude.{◌≡◌, ℕ, List, [], ◌∷◌, ◌++◌, map, filter, bytes_eq, codes}
use Rattle.std.specs.List.{dedup, flat_map}
use Rattle.http_header.specs.Token.{lowercase}
use Rattle.sign_base.specs.Bytes.{newline}
use Rattle.sign_base.specs.declared.head.Field.{Field}
use Rattle.sign_request.specs.CanonicalText.{joined_texts}
use Rattle.sign_request.specs.KeyOrder.{Ascends, key_cmp}
use Rattle.sign_request.specs.Query.{Pair}
use Rattle.sigv4_canonical.specs.CanonicalHeaders.{single_spaced, header_line, distinct_names}
use Rattle.sigv4_canonical.specs.declared.headers.NamedValue.{NamedValue}

-- a header as a pair
abbrev pub named_value : NamedValue → Pair
named_value h = (h.name.now, h.value.now)

abbrev pub named_values : List NamedValue → List Pair
named_values headers = map named_value headers

-- the names of headers in lower case, one after another
abbrev pub lowercase_names : List Field → List ℕ
lowercase_names fields = flat_map (λ f. lowercase f.name) fields

-- the name of the first header
abbrev pub first_name : List Pair → List ℕ
first_name [] = []
first_name (h ∷ headers) = h.0

-- the values of some headers, joined by `,`
abbrev pub values_text : List Pair → List ℕ
values_text headers = joined_texts (codes ",") (map (λ h. single_spaced h.1) headers)

-- the line of a name, by its headers alone
abbrev pub group_line : List ℕ → List Pair → List ℕ
group_line name group = name ++ (codes ":" ++ (values_text group ++ newline ∷ []))

-- the names of headers that ascend, each once
abbrev pub names_in : List Pair → List (List ℕ)
names_in headers = dedup bytes_eq (map (λ h. h.0) headers)

-- and as one text
abbrev pub names_text : List Pair → List ℕ
names_text headers = joined_texts (codes ";") (names_in headers)

-- the lines of headers that ascend
abbrev pub lines_in : List Pair → List ℕ
lines_in headers = flat_map (header_line headers) (names_in headers)

-- these are the headers in the order of their names, those of one name as they stood
pub record AreSorted (headers sorted : List Pair) : Type 0 where
  pub ascend : Ascends key_cmp sorted
  pub names : distinct_names headers ≡ names_in sorted
  pub under : (name : List ℕ)
      → filter (λ h. bytes_eq h.0 name) sorted ≡ filter (λ h. bytes_eq h.0 name) headers
