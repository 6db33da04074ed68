-- Heads with so few headers that a map has room for each.
use Rattle.std.specs.Prelude.{Bool, ◌&&◌}
use Rattle.std.specs.List.{list_all}
use Rattle.http_header.specs.FieldName.{is_field_name}
use Rattle.http_header.specs.Token.{is_value_byte}
use Rattle.sign_base.specs.declared.head.Field.{Field}
use Rattle.sign_base.specs.declared.head.Head.{Head}
use Rattle.sign_request.specs.AcceptedHead.{is_token}

-- the header has a name and a value that `http` takes
abbrev pub is_well_formed : Field → Bool
is_well_formed f = is_field_name f.name && list_all is_value_byte f.value

-- the method is a token, and each header is well formed
abbrev pub is_well_formed_head : Head → Bool
is_well_formed_head head = is_token head.method && list_all is_well_formed head.headers
