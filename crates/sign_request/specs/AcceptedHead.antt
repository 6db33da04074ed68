-- Which plain heads `http` accepts, as tests.
use Rattle.std.specs.Prelude.{ℕ, ◌-◌, ◌^◌, Bool, true, ◌&&◌, ◌||◌, List, []}
use Rattle.std.specs.Prelude.{◌∷◌, length, bytes_eq, is_some, nat_lt}
use Rattle.std.specs.List.{list_all, list_any}
use Rattle.http_header.specs.FieldName.{is_field_name}
use Rattle.http_header.specs.FieldValue.{FieldValue, plain_value}
use Rattle.http_header.specs.HeaderMap.{Entries, append, keys, value_count}
use Rattle.http_header.specs.Token.{token_test, is_value_byte, lowercase}
use Rattle.sign_base.specs.declared.head.Field.{Field}
use Rattle.sign_base.specs.declared.head.Head.{Head}
use Rattle.sign_request.specs.PlainTarget.{target_of}

-- a token: one or more bytes that a token may have
unfoldable pub is_token : List ℕ → Bool
is_token bytes = nat_lt 0 (length bytes) && list_all token_test bytes

-- each byte may stand in a field's value
unfoldable pub is_field_value : List ℕ → Bool
is_field_value bytes = list_all is_value_byte bytes

-- the most names, and the most values, that a map may have
abbrev pub most_names : ℕ
most_names = 24576

abbrev pub most_values : ℕ
most_values = 2 ^ 64 - 1

-- the map has room for one more value, and for its name if that is new
unfoldable pub has_room : Entries FieldValue → List ℕ → Bool
has_room headers name =
    nat_lt (value_count headers) most_values
    && (list_any (λ key. bytes_eq key name) (keys headers) || nat_lt (length headers) most_names)

-- the map takes the field
unfoldable pub takes_field : Entries FieldValue → Field → Bool
takes_field headers f =
    is_field_name f.name && (is_field_value f.value && has_room headers (lowercase f.name))

-- each field is taken by the map with those before it
abbrev pub takes_fields : Entries FieldValue → List Field → Bool
takes_fields headers [] = true
takes_fields headers (f ∷ fields) =
    takes_field headers f && takes_fields (append headers (lowercase f.name) (plain_value f.value)) fields

-- the method is a token, the URI is read, and the headers are taken
unfoldable pub is_accepted_head : Head → Bool
is_accepted_head head = is_token head.method && (is_some (target_of head.uri) && takes_fields [] head.headers)
