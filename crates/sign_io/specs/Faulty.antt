-- Sources and sinks of tests, which fail where the test says.
use Rattle.std.specs.Prelude.{ℕ, List, ◌==◌, Bool, if◌then◌else◌}
use Rattle.std.specs.List.{list_any}
use Rattle.sign_io.specs.Faults.{one_more}

-- the numbers of the calls that fail, the number of the next call, and how many have failed
pub record Plan : Type 0 where
  pub fails : List ℕ
  pub calls : ℕ
  pub faults : ℕ

-- whether the next call is one that fails
abbrev pub fails_next : Plan → Bool
fails_next plan = list_any (λ call. call == plan.calls) plan.fails

-- the plan after one call more, which failed or not
abbrev pub one_call : Bool → Plan → Plan
one_call failed plan =
    record plan { calls = one_more plan.calls; faults = if failed then one_more plan.faults else plan.faults }

-- a source: what is still to come, the most that a read gives, and its plan
pub record FaultyInput : Type 0 where
  pub left : List ℕ
  pub piece : ℕ
  pub plan : Plan

-- a sink: what was written, how much more fits, the most that a write takes, and its plan
pub record FaultyOutput : Type 0 where
  pub holds : List ℕ
  pub room : ℕ
  pub piece : ℕ
  pub plan : Plan
