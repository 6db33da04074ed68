-- An access key and its secret.
use Rattle.std.specs.Prelude.{ℕ, ℤ, Bool, true, ◌&&◌, List, codes, length, nat_lt, int_lt, Option, Some, None}
use Rattle.std.specs.Char.{is_ascii_graphic}
use Rattle.std.specs.List.{list_all}

-- an access key, its secret, and the moment at which they expire, where they do
pub record Credential : Type 0 where
  pub access : List ℕ
  pub secret : List ℕ
  pub expires : Option ℤ

-- the access key is not empty and has visible bytes alone, `!` to `~`, and the secret is not empty
abbrev pub is_credential : List ℕ → List ℕ → Bool
is_credential access secret =
    nat_lt 0 (length access) && (list_all is_ascii_graphic access && nat_lt 0 (length secret))

-- whether a moment comes before a credential expires, where it does
abbrev pub is_before : Option ℤ → ℤ → Bool
is_before None moment = true
is_before (Some expires) moment = int_lt moment expires

-- what is printed in place of a credential
abbrev pub credential_stars : List ℕ
credential_stars = codes "SigCredential(***)"
