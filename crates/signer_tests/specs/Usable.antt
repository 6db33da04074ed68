-- What contracts see of an access key, and until when it can be used.
use Rattle.std.specs.Prelude.{ℕ, ℤ, int_lt, Bool, true, List, Option, Some, None}

-- the bytes of its id and of its secret, and the moment at which it expires, where it does
pub record KeyView : Type 0 where
  pub id : List ℕ
  pub secret : List ℕ
  pub expires : Option ℤ

-- whether a moment comes before a key expires, where it does
abbrev pub is_before : Option ℤ → ℤ → Bool
is_before None moment = true
is_before (Some expires) moment = int_lt moment expires
