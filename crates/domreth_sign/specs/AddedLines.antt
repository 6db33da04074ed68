-- The headers that a signature adds to a head, a line each.
use Rattle.std.specs.Prelude.{ℕ, List, [], ◌∷◌, ◌++◌, codes, drop, flat_map, length}
use Rattle.sign_base.specs.declared.head.Field.{Field}
use Rattle.sigv4_core.specs.SignedHead.{kept_headers}

-- a header as a line of HTTP/1.1: its name, a colon and a space, its value, a carriage return and a line feed
abbrev pub field_line : Field → List ℕ
field_line f = f.name ++ (codes ": " ++ (f.value ++ 13 ∷ 10 ∷ []))

-- the signed headers that are behind those that the signature kept of the old ones
abbrev pub added_headers : List Field → List Field → List Field
added_headers old signed = drop (length (kept_headers old)) signed

-- these, a line each
abbrev pub added_lines : List Field → List Field → List ℕ
added_lines old signed = flat_map field_line (added_headers old signed)
