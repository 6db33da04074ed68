-- What one step of a poll does.
use Rattle.std.specs.Prelude.{◌≡◌, ◌+◌, Option, Some, None, option_to_list}
use Rattle.http.specs.declared.request.Parts.{Parts}
use Rattle.sign_base.specs.declared.call_id.CallId.{CallId}
use Rattle.sequential_signer.specs.declared.event.Event.{Event}
use Rattle.sequential_signer.specs.declared.event.Reply.{Reply}
use Rattle.sign_request.specs.PlainHead.{Commits, RefusesTarget}
use Rattle.sign_desk.specs.DeskState.{DeskState}
use Rattle.sign_desk.specs.Steps.{IsStep}
use Rattle.desk_driver.specs.CallAt.{LeavesOthers}
use Rattle.signer.specs.IssuedBy.{IsStateIssued}
use Rattle.signer.specs.PollEvents.{PollEnd, Pends, Finishes, Refuses, RunsOut, PollRun, PolledCall, IsGiven}
use Rattle.signer.specs.PollEvents.{IsEventSequence, candidate_of, state_after, wake_in, wakes_in}
use Rattle.signer.specs.BegunCall.{BegunCall}
use Rattle.signer.specs.declared.sign.SignState.{SignState}
use Rattle.signer.specs.declared.sign.SignState.TheVariants.{Waiting, Loading, Signing}
use Rattle.signer.specs.declared.sign_poll.SignAnswer.{SignAnswer}
use Rattle.signer.specs.declared.sign_poll.SignAnswer.TheVariants as answer
use Rattle.signer.specs.declared.step_outcome.StepEnd.{StepEnd}
use Rattle.signer.specs.declared.step_outcome.StepEnd.TheVariants.{Pending, Done, Refused, OutOfMemory}
use Rattle.signer.specs.declared.step_outcome.StepFlow.{StepFlow}
use Rattle.signer.specs.declared.step_outcome.StepFlow.TheVariants.{Continue, Stop}
use Rattle.signer.specs.declared.step_outcome.StepOutcome.{StepOutcome}

-- the desk and the request, before and after a step
pub record StepChange (K D : Type 0) : Type 0 where
  pub old : DeskState K D
  pub new : DeskState K D
  pub before : Parts
  pub after : Parts

module _ {K L W : Type 0} where
  -- the state comes later in a poll than the other
  abbrev pub ComesLater : SignState K L W → SignState K L W → Type 0
  ComesLater (Waiting candidate) (Loading copy provider l) = Unit {0}
  ComesLater (Waiting candidate) (Signing credential w) = Unit {0}
  ComesLater (Loading candidate provider l) (Loading copy next m) = next ≡ provider + 1
  ComesLater (Loading candidate provider l) (Signing credential w) = Unit {0}
  ComesLater state next = ⊥

  -- the answer of a poll that ends so
  abbrev pub answer_by : {P S C : Type 0} → BegunCall → StepEnd K L W → SignAnswer P S K C L C W K
  answer_by begun (Pending state) = answer.Pending (record { begun = begun; state = state })
  answer_by begun Done = answer.Done
  answer_by begun (Refused cause) = answer.Refused cause
  answer_by begun (OutOfMemory state) = answer.OutOfMemory (record { begun = begun; state = state })

  -- a call that signs names nobody any more
  abbrev pub NamesNobody : SignState K L W → Option CallId → Type 0
  NamesNobody (Signing credential w) wake = wake ≡ None
  NamesNobody state wake = Unit {0}

  -- the step ends the poll so, and the request has the URI and the headers that were signed and that
  -- `http` accepts, or is as before
  abbrev pub IsStepEnd : StepEnd K L W → Parts → Parts → PollEnd K L W → Type 0
  IsStepEnd (Pending state) before after (Pends left) = (state ≡ left) × (after ≡ before)
  IsStepEnd Done before after (Finishes signed) = Commits signed before after × ¬ (RefusesTarget signed)
  IsStepEnd (Refused refused) before after (Refuses cause) = (refused ≡ cause) × (after ≡ before)
  IsStepEnd (OutOfMemory state) before after (RunsOut left) = (state ≡ left) × (after ≡ before)
  IsStepEnd end before after other = ⊥

module _ {K D L W : Type 0} (v : PolledCall K D L W) where
  -- a state that is kept at the end was issued for the call
  abbrev pub IsEndIssued : DeskState K D → StepEnd K L W → Type 0
  IsEndIssued desk (Pending state) = IsStateIssued v.meaning v.begun desk state
  IsEndIssued desk (OutOfMemory state) = IsStateIssued v.meaning v.begun desk state
  IsEndIssued desk Done = Unit {0}
  IsEndIssued desk (Refused refused) = Unit {0}

  -- the step makes an event of the desk, by whose reply the call goes on from the next state
  pub record GoesOn (state : SignState K L W) (change : StepChange K D) (wake : Option CallId)
      (next : SignState K L W) : Type 0 where
    pub event : Event K
    pub answered : Reply K
    pub given : IsGiven v state event
    pub step : IsStep v.policy event change.old answered change.new
    pub after : state_after (candidate_of state) answered ≡ Some next
    pub named : wake ≡ wake_in answered
    pub same : change.after ≡ change.before
    pub later : ComesLater state next
    pub issued : IsStateIssued v.meaning v.begun change.new next
    pub others : LeavesOthers v.begun.id change.old change.new

  -- the step is the last of the poll
  pub record Ends (state : SignState K L W) (change : StepChange K D) (wake : Option CallId)
      (end : StepEnd K L W) : Type 0 where
    pub run : PollRun K L W
    pub course : IsEventSequence v state change.old run change.new
    pub ended : IsStepEnd end change.before change.after run.end
    pub named : wakes_in run.entries ≡ option_to_list wake
    pub quiet : NamesNobody state wake
    pub issued : IsEndIssued change.new end
    pub others : LeavesOthers v.begun.id change.old change.new

  -- what the step came to
  abbrev pub Goes : SignState K L W → StepChange K D → Option CallId → StepFlow K L W → Type 0
  Goes state change wake (Continue next) = GoesOn state change wake next
  Goes state change wake (Stop end) = Ends state change wake end

  -- the step of a call in this state
  abbrev pub IsStepOutcome : SignState K L W → StepChange K D → StepOutcome K L W → Type 0
  IsStepOutcome state change taken = Goes state change taken.wake taken.flow
