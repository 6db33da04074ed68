-- What one step of a poll does.
use Rattle.std.specs.Prelude.{◌≡◌, ◌+◌, Some}
use Rattle.sequential_signer.specs.declared.grant_event.GrantEvent.{GrantEvent}
use Rattle.sequential_signer.specs.declared.grant_event.GrantReply.{GrantReply}
use Rattle.desk_driver.specs.CallAt.{LeavesOthers}
use Rattle.grant_desk.specs.GrantDeskState.{GrantState}
use Rattle.grant_desk.specs.GrantSteps.{IsGrantStep}
use Rattle.granter.specs.PollEvents.{PollEnd, Pends, Gives, Refuses, RunsOut, PollRun, PolledCall, IsGiven}
use Rattle.granter.specs.PollEvents.{IsEventSequence, state_after}
use Rattle.granter.specs.IssuedBy.{IsStateIssued}
use Rattle.granter.specs.ObjectPoll.{BegunCall}
use Rattle.granter.specs.declared.grant.CallState.{CallState}
use Rattle.granter.specs.declared.grant.CallState.TheVariants.{Waiting, Loading, Granting}
use Rattle.granter.specs.declared.grant_poll.GrantPoll.{GrantPoll}
use Rattle.granter.specs.declared.grant_poll.GrantPoll.TheVariants as answer
use Rattle.granter.specs.declared.step_outcome.StepEnd.{StepEnd}
use Rattle.granter.specs.declared.step_outcome.StepEnd.TheVariants.{Pending, Given, Refused, OutOfMemory}
use Rattle.granter.specs.declared.step_outcome.StepFlow.{StepFlow}
use Rattle.granter.specs.declared.step_outcome.StepFlow.TheVariants.{Continue, Stop}

-- the desk before and after a step
pub record StepChange (K D : Type 0) : Type 0 where
  pub old : GrantState K D
  pub new : GrantState K D

module _ {K L W : Type 0} where
  -- the state comes later in a poll than the other
  abbrev pub ComesLater : CallState K L W → CallState K L W → Type 0
  ComesLater Waiting (Loading provider l) = Unit {0}
  ComesLater Waiting (Granting source w) = Unit {0}
  ComesLater (Loading provider l) (Loading next m) = next ≡ provider + 1
  ComesLater (Loading provider l) (Granting source w) = Unit {0}
  ComesLater state next = ⊥

  -- the answer of a poll that ends so
  abbrev pub answer_by : {P G C : Type 0} → BegunCall → StepEnd K L W → GrantPoll P G K C L C W K
  answer_by begun (Pending state) = answer.Pending (record { begun = begun; state = state })
  answer_by begun (Given credential) = answer.Given credential
  answer_by begun (Refused cause) = answer.Refused cause
  answer_by begun (OutOfMemory state) = answer.OutOfMemory (record { begun = begun; state = state })

  -- the step ends the poll so
  abbrev pub IsStepEnd : StepEnd K L W → PollEnd K L W → Type 0
  IsStepEnd (Pending state) (Pends left) = state ≡ left
  IsStepEnd (Given credential) (Gives given) = credential ≡ given
  IsStepEnd (Refused refused) (Refuses cause) = refused ≡ cause
  IsStepEnd (OutOfMemory state) (RunsOut left) = state ≡ left
  IsStepEnd end other = ⊥

module _ {K D L W : Type 0} (v : PolledCall K D L W) where
  -- a state that is kept at the end was issued for the call
  abbrev pub IsEndIssued : GrantState K D → StepEnd K L W → Type 0
  IsEndIssued desk (Pending state) = IsStateIssued v.meaning v.begun desk state
  IsEndIssued desk (OutOfMemory state) = IsStateIssued v.meaning v.begun desk state
  IsEndIssued desk (Given credential) = Unit {0}
  IsEndIssued desk (Refused refused) = Unit {0}

  -- the step makes an event of the desk, by whose reply the call goes on from the next state
  pub record GoesOn (state : CallState K L W) (change : StepChange K D)
      (next : CallState K L W) : Type 0 where
    pub event : GrantEvent K
    pub answered : GrantReply K
    pub given : IsGiven v state event
    pub step : IsGrantStep v.policy event change.old answered change.new
    pub after : state_after answered ≡ Some next
    pub later : ComesLater state next
    pub issued : IsStateIssued v.meaning v.begun change.new next
    pub others : LeavesOthers v.begun.id change.old change.new

  -- the step is the last of the poll
  pub record Ends (state : CallState K L W) (change : StepChange K D) (end : StepEnd K L W) : Type 0 where
    pub run : PollRun K L W
    pub course : IsEventSequence v state change.old run change.new
    pub ended : IsStepEnd end run.end
    pub issued : IsEndIssued change.new end
    pub others : LeavesOthers v.begun.id change.old change.new

  -- what the step of a call in this state came to
  abbrev pub IsStepOutcome : CallState K L W → StepChange K D → StepFlow K L W → Type 0
  IsStepOutcome state change (Continue next) = GoesOn state change next
  IsStepOutcome state change (Stop end) = Ends state change end
