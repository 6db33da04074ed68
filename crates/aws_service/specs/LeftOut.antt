-- Headers that are left out of what is signed.
use Rattle.std.specs.Prelude.{ℕ, Bool, not, List, [], ◌∷◌, ◌++◌, filter, codes, bytes_eq}
use Rattle.std.specs.List.{list_any}
use Rattle.http_header.specs.Token.{lowercase}
use Rattle.sign_base.specs.declared.head.Field.{Field}
use Rattle.sign_base.specs.declared.head.Head.{Head}

-- what clients and proxies on the way add or change
abbrev pub agent_headers : List (List ℕ)
agent_headers =
    codes "accept-encoding" ∷ codes "connection" ∷ codes "expect" ∷ codes "transfer-encoding"
    ∷ codes "user-agent" ∷ codes "x-amzn-trace-id" ∷ []

-- the header has one of these names, in any case of letters
abbrev pub is_left_out : List (List ℕ) → Field → Bool
is_left_out names f = list_any (λ name. bytes_eq (lowercase f.name) (lowercase name)) names

-- the headers that are left out
abbrev pub left_out : List (List ℕ) → List Field → List Field
left_out names headers = filter (λ f. is_left_out names f) headers

-- the headers that are not
abbrev pub kept : List (List ℕ) → List Field → List Field
kept names headers = filter (λ f. not (is_left_out names f)) headers

-- the head with these headers behind its own
abbrev pub with_behind : List Field → Head → Head
with_behind headers head = record head { headers = head.headers ++ headers }
