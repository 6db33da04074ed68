-- What a signing key keeps of its day, so that no date is written again for a request of that day.
use Rattle.std.specs.Prelude.{◌≡◌, ℕ, ℤ, List}
use Rattle.sign_time.specs.Calendar.{day_of}
use Rattle.sigv4_core.specs.Scope.{Scope}
use Rattle.sigv4_core.specs.Signature.{date_of, scope_text}

-- the moments of this day have this date, and the moments of this date have this text for their credential
-- scope
pub record IsSigningDay (day : ℕ) (date : List ℕ) (scope : Scope) (text : List ℕ) : Type 0 where
  pub same_date : (t : ℤ) → day_of t ≡ day → date_of t ≡ date
  pub same_scope : (t : ℤ) → date_of t ≡ date → scope_text scope t ≡ text
