-- The heads of `http`, and plain ones.
use Rattle.std.specs.Prelude.{◌≡◌, ◌⊎◌, ℕ, List, [], ◌∷◌, ◌++◌, map}
use Rattle.http.specs.declared.request.Parts.{Parts}
use Rattle.http.specs.declared.version.Version.{Version as HttpVersion}
use Rattle.http.specs.declared.version.TheConstants.Version.{HTTP_09, HTTP_10, HTTP_11, HTTP_2, HTTP_3}
use Rattle.http_header.specs.FieldName.{IsFieldName}
use Rattle.http_header.specs.FieldValue.{FieldValue, IsFieldValue, plain_value}
use Rattle.http_header.specs.HeaderMap.{Entries, append_all, pairs, RefusesAppend}
use Rattle.http_header.specs.Token.{IsToken, lowercase}
use Rattle.http_uri.specs.Uri.{Spells, SpellsNone, uri_text}
use Rattle.sign_base.specs.declared.head.Field.{Field}
use Rattle.sign_base.specs.declared.head.Head.{Head}
use Rattle.sign_base.specs.declared.head.Version.{Version}
use Rattle.sign_base.specs.declared.head.Version.TheVariants.{V09, V10, V11, V2, V3}
use Rattle.sign_request.specs.Query.{Pair}
use Rattle.sign_request.specs.Headers.{header_pair}

-- the version of `http` that a plain one represents
abbrev pub http_version : Version → HttpVersion
http_version V09 = HTTP_09
http_version V10 = HTTP_10
http_version V11 = HTTP_11
http_version V2 = HTTP_2
http_version V3 = HTTP_3

-- no plain version stands for it
abbrev pub IsUnknownVersion : HttpVersion → Type 0
IsUnknownVersion version = (plain : Version) → ¬ (http_version plain ≡ version)

-- a plain field as a pair
abbrev pub field_pair : Field → Pair
field_pair f = (f.name, f.value)

-- the plain head has the four values of the head of `http`
pub record IsHeadOf (parts : Parts) (head : Head) : Type 0 where
  pub method : head.method ≡ parts.method
  pub uri : head.uri ≡ uri_text parts.uri
  pub version : http_version head.version ≡ parts.version
  pub headers : map field_pair head.headers ≡ map header_pair (pairs parts.headers)

-- a plain field as a header map takes it, with its name in lower case
abbrev pub header_of : Field → List ℕ × FieldValue
header_of f = (lowercase f.name, plain_value f.value)

-- the header map of plain fields, each appended after those before it
abbrev pub header_map : List Field → Entries FieldValue
header_map fields = append_all [] (map header_of fields)

-- a map refuses a field: its name is none, its value is none, or the map is full
abbrev pub RefusesField : Entries FieldValue → Field → Type 0
RefusesField headers f =
    ¬ (IsFieldName f.name) ⊎ (¬ (IsFieldValue f.value) ⊎ RefusesAppend headers (lowercase f.name))

-- some field is refused by the map of those before it
pub record RefusesFields (fields : List Field) : Type 0 where
  pub before : List Field
  pub refused : Field
  pub after : List Field
  pub is : fields ≡ before ++ refused ∷ after
  pub cause : RefusesField (header_map before) refused

-- `http` does not accept the URI or the headers
abbrev pub RefusesTarget : Head → Type 0
RefusesTarget head = SpellsNone head.uri ⊎ RefusesFields head.headers

-- `http` does not accept the method, the URI or the headers
abbrev pub RefusesHead : Head → Type 0
RefusesHead head = ¬ (IsToken head.method) ⊎ RefusesTarget head

-- the head of `http` has the four values of the plain head
pub record ArePartsOf (head : Head) (parts : Parts) : Type 0 where
  pub method : parts.method ≡ head.method
  pub uri : Spells head.uri parts.uri
  pub version : parts.version ≡ http_version head.version
  pub headers : parts.headers ≡ header_map head.headers

-- URI and headers are those of the plain head, and the rest stays
pub record Commits (head : Head) (old new : Parts) : Type 0 where
  pub uri : Spells head.uri new.uri
  pub headers : new.headers ≡ header_map head.headers
  pub others : new ≡ record old { uri = new.uri; headers = new.headers }
