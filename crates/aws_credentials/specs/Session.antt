-- A key of AWS with the token of its session.
use Rattle.std.specs.Prelude.{ℕ, Bool, ◌&&◌, List, codes, length, nat_lt, Option}
use Rattle.std.specs.Char.{is_ascii_graphic}
use Rattle.std.specs.List.{list_all}
use Rattle.sigv4_core.specs.Credential.{Credential}

-- an access key with its secret, and the token of the session that gave them, where one did
pub record Session : Type 0 where
  pub key : Credential
  pub token : Option (List ℕ)

-- the token is not empty and has visible bytes alone, `!` to `~`
abbrev pub is_session_token : List ℕ → Bool
is_session_token token = nat_lt 0 (length token) && list_all is_ascii_graphic token

-- what is printed in place of a session's credential
abbrev pub session_stars : List ℕ
session_stars = codes "SessionCredential(***)"
