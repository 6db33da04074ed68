-- A sink before and after a run.
use Rattle.std.specs.Prelude.{ℕ, List, Option}

-- all that it holds, and how often it failed
pub record Written (D : Type 0) : Type 0 where
  pub holds : D → Option (List ℕ)
  pub faults : D → ℕ
  pub old : D
  pub new : D
