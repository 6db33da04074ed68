-- A region and a service.
use Rattle.std.specs.Prelude.{ℕ, Bool, ◌&&◌, ◌||◌, ◌==◌, List, length, nat_lt}
use Rattle.std.specs.Char.{is_ascii_lowercase, is_ascii_digit}
use Rattle.std.specs.List.{list_all}

-- what a signature is for: a region and a service
pub record Scope : Type 0 where
  pub region : List ℕ
  pub service : List ℕ

-- a lower-case letter, a digit or `-`
abbrev pub is_scope_byte : ℕ → Bool
is_scope_byte b = is_ascii_lowercase b || (is_ascii_digit b || (b == 45))

-- one or more of them
abbrev pub is_scope_name : List ℕ → Bool
is_scope_name name = nat_lt 0 (length name) && list_all is_scope_byte name

-- a region and a service that a scope may have
abbrev pub is_scope : List ℕ → List ℕ → Bool
is_scope region service = is_scope_name region && is_scope_name service
