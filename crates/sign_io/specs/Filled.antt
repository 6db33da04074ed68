-- What a sink in memory is seen as.
use Rattle.std.specs.Prelude.{ℕ, List}

-- all that was written, the number of bytes that still fit, and the number of writes that failed
pub record Filled : Type 0 where
  pub holds : List ℕ
  pub room : ℕ
  pub faults : ℕ
