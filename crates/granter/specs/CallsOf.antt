-- The states of all calls of a granter, kept by the numbers of the calls.
use Rattle.std.specs.Prelude.{List, Option}
use Rattle.desk_driver.specs.NumberedCalls.{AreNumbered}
pub use Rattle.granter.specs.PollEvents.{state_back}
use Rattle.granter.specs.GranterInvariant.{GranterState}
use Rattle.granter.specs.GranterObjects.{Meanings}
use Rattle.granter.specs.IssuedBy.{IsGrantIssuedBy}
use Rattle.granter.specs.declared.grant.Grant.{Grant}

module _ {P G K C L W : Type 0} where
  -- there are as many as were begun, and a state stands at the number of its call
  -- and was issued by this granter
  abbrev pub AreCallsOf : Meanings P G K C L W → GranterState P G K C
      → List (Option (Grant P G K C L C W K)) → Type 0
  AreCallsOf m granter calls =
      AreNumbered (λ (grant : Grant P G K C L C W K). grant.begun.id) (IsGrantIssuedBy m granter)
      granter.begun calls
