-- When a credential that may be absent can be used.
use Rattle.std.specs.Prelude.{ℤ, Bool, false, Option, Some, None}

module _ {K : Type 0} where
  -- whether it can be used now: as the credential says, and never where there is none
  abbrev pub option_valid : (K → ℤ → Bool) → Option K → ℤ → Bool
  option_valid valid None now = false
  option_valid valid (Some c) now = valid c now

  -- whether it lasts to a moment, seen from now: likewise
  abbrev pub option_valid_at : (K → ℤ → ℤ → Bool) → Option K → ℤ → ℤ → Bool
  option_valid_at valid_at None moment now = false
  option_valid_at valid_at (Some c) moment now = valid_at c moment now
