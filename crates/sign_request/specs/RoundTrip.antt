-- A head of `http` that crosses to a plain head and back.
use Rattle.std.specs.Prelude.{◌≡◌, ℕ, true, List, map, All}
use Rattle.http.specs.declared.request.Parts.{Parts}
use Rattle.http_header.specs.FieldName.{IsHeaderName}
use Rattle.http_header.specs.FieldValue.{FieldValue, plain_value}
use Rattle.http_header.specs.HeaderMap.{Entry, IsHeaderMap}
use Rattle.http_uri.specs.Uri.{Spells, uri_eq, uri_scheme, uri_authority, uri_path, uri_query}

-- the values of a name, none of which is kept out of logs
abbrev pub plain_entry : Entry FieldValue → Entry FieldValue
plain_entry e = (e.0, map (λ value. plain_value value.bytes) e.1)

-- what holds of every head of `http` that was parsed: its URI has a text, and each name
-- of its headers is a header name
pub record IsParsed (parts : Parts) : Type 0 where
  pub text : List ℕ
  pub spelled : Spells text parts.uri
  pub headers : IsHeaderMap parts.headers
  pub names : All (λ e. IsHeaderName e.0) parts.headers

-- the head is the same as `http` compares heads: its URI may be spelled otherwise, and no
-- value is kept out of logs any more
pub record ComesBack (parts again : Parts) : Type 0 where
  pub method : again.method ≡ parts.method
  pub version : again.version ≡ parts.version
  pub uri : uri_eq again.uri parts.uri ≡ true
  pub scheme : uri_scheme again.uri ≡ uri_scheme parts.uri
  pub authority : uri_authority again.uri ≡ uri_authority parts.uri
  pub path : uri_path again.uri ≡ uri_path parts.uri
  pub query : uri_query again.uri ≡ uri_query parts.uri
  pub headers : again.headers ≡ map plain_entry parts.headers
