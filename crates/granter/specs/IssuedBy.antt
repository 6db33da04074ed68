-- The states of calls that a granter issued.
use Rattle.std.specs.Prelude.{IsSomeAnd}
use Rattle.desk_driver.specs.CallAt.{IsAsking, IsSigning}
use Rattle.desk_driver.specs.Meanings.{call_meaning, IsLoadMade}
use Rattle.grant_desk.specs.GrantDeskState.{GrantState}
use Rattle.granter.specs.DeskReplies.{IsUnpolled}
use Rattle.granter.specs.GranterInvariant.{GranterState}
use Rattle.granter.specs.GranterObjects.{Meanings, CallMeaning, objects_of}
use Rattle.granter.specs.ObjectAnswer.{IsWorkKept}
use Rattle.granter.specs.ObjectPoll.{BegunCall}
use Rattle.granter.specs.declared.grant.CallState.{CallState}
use Rattle.granter.specs.declared.grant.CallState.TheVariants.{Waiting, Loading, Granting}
use Rattle.granter.specs.declared.grant.Grant.{Grant}
use Rattle.granter.specs.declared.grant.WorkState.{WorkState}

module _ {K L W : Type 0} (m : CallMeaning K L W) where
  -- the work was started with the source, and an answer that is kept is one that the service gives
  abbrev pub IsWorkMade : K → WorkState K W → Type 0
  IsWorkMade source w = IsWorkKept (m.work_started source) (m.work_gives source) w

  -- the desk has the call's record with the same state, and load or work were started for the call
  abbrev pub IsStateIssued : {D : Type 0} → BegunCall → GrantState K D → CallState K L W → Type 0
  IsStateIssued begun desk Waiting = IsUnpolled begun desk
  IsStateIssued begun desk (Loading provider l) = IsAsking begun provider desk × IsLoadMade m provider l
  IsStateIssued begun desk (Granting source w) = IsSigning begun desk × IsWorkMade source w

-- this granter issued this state
abbrev pub IsGrantIssuedBy : {P G K C L W : Type 0} → Meanings P G K C L W → GranterState P G K C
    → Grant P G K C L C W K → Type 0
IsGrantIssuedBy m granter grant =
    IsSomeAnd (objects_of granter grant.begun.id.handle)
    (λ o. IsStateIssued (call_meaning m grant.begun o) grant.begun granter.desk grant.state)
