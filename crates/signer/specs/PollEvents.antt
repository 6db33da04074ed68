-- What a poll of a signer does: events of its desk, one after another, by what the objects answer.
use Rattle.std.specs.Prelude.{◌≡◌, ◌⊎◌, List, [], ◌∷◌, ◌++◌, Option, Some, None, IfSome, option_to_list}
use Rattle.http.specs.declared.request.Parts.{Parts}
use Rattle.sign_base.specs.Error.{ErrorParts}
use Rattle.sign_base.specs.declared.head.Head.{Head}
use Rattle.sign_base.specs.declared.call_id.CallId.{CallId}
use Rattle.credentials.specs.declared.polled.Polled.TheVariants as polled
use Rattle.credentials.specs.Operation.{SignOutcome}
use Rattle.sequential_signer.specs.declared.event.Answer.TheVariants.{Found}
use Rattle.sequential_signer.specs.declared.event.Entry.{Entry}
use Rattle.sequential_signer.specs.declared.event.Event.{Event}
use Rattle.sequential_signer.specs.declared.event.Event.TheVariants.{Poll, Provided, Signed}
use Rattle.sequential_signer.specs.declared.event.Reply.{Reply}
use Rattle.sequential_signer.specs.declared.event.Reply.TheVariants as reply
use Rattle.sequential_signer.specs.declared.event.Verdict.{Verdict}
use Rattle.sequential_signer.specs.declared.event.Verdict.TheVariants as verdict
use Rattle.sequential_signer.specs.declared.event.Why.{Why}
use Rattle.sequential_signer.specs.declared.event.Why.TheVariants as why
use Rattle.sign_request.specs.PlainHead.{RefusesTarget, Commits}
use Rattle.sign_request.specs.Refusal.{RefusedAs}
use Rattle.sign_desk.specs.DeskState.{DeskState, Represents}
use Rattle.desk_parts.specs.Memory.{ClonesAreFree}
use Rattle.sign_desk.specs.Memory.{RunsOutAtHeads}
use Rattle.sign_desk.specs.Steps.{IsStep}
use Rattle.desk_driver.specs.LoadAnswer.{IsLoadPending, LoadRunsOut, IsAnswerGiven}
use Rattle.signer.specs.ObjectAnswer.{IsWorkPending, WorkRunsOut}
use Rattle.desk_driver.specs.CallAt.{LeavesOthers}
use Rattle.signer.specs.IssuedBy.{IsStateIssued}
pub use Rattle.desk_driver.specs.PolledCall.{polled_call}
use Rattle.desk_driver.specs.PolledCall.{PolledCallOf}
use Rattle.signer.specs.SignerObjects.{CallMeaning}
use Rattle.signer.specs.declared.refusal.Refusal.{Refusal}
use Rattle.signer.specs.declared.refusal.Refusal.TheVariants as refusal
use Rattle.signer.specs.BegunCall.{BegunCall}
use Rattle.desk_driver.specs.declared.load_state.LoadState.TheVariants as load
use Rattle.signer.specs.declared.sign.WorkState.{WorkState}
use Rattle.signer.specs.declared.sign.WorkState.TheVariants as work
use Rattle.signer.specs.declared.sign.Sign.{Sign}
use Rattle.signer.specs.declared.sign.SignState.{SignState}
use Rattle.signer.specs.declared.sign.SignState.TheVariants.{Waiting, Loading, Signing}
use Rattle.signer.specs.declared.sign_poll.SignAnswer.{SignAnswer}
use Rattle.signer.specs.declared.sign_poll.SignAnswer.TheVariants as answer
use Rattle.signer.specs.declared.sign_poll.SignPoll.{SignPoll}

-- how a poll ends
pub data PollEnd (K L W : Type 0) : Type 0 where
  -- the call waits for its turn, or for an object, and is here
  Pends : SignState K L W → PollEnd K L W
  -- the call is done, with this signed head
  Finishes : Head → PollEnd K L W
  -- the call is refused
  Refuses : Refusal → PollEnd K L W
  -- an allocation failed, and the call is here
  RunsOut : SignState K L W → PollEnd K L W

-- the events of a poll with their replies, and its end
pub record PollRun (K L W : Type 0) : Type 0 where
  pub entries : List (Entry K)
  pub end : PollEnd K L W

-- a call that is polled
abbrev pub PolledCall : Type 0 → Type 0 → Type 0 → Type 0 → Type 1
PolledCall K D L W = PolledCallOf K D L W Head SignOutcome

-- `http` does not accept the URI or the headers of the head that is kept, or the service gives this error, or
-- a head that `http` does not accept
abbrev pub FailsWith : {W : Type 0} → (SignOutcome → Type 0) → WorkState W → ErrorParts → Type 0
FailsWith gives (work.Signed kept) e = RefusedAs (RefusesTarget kept) e
FailsWith gives w e =
    ((candidate : Head) × gives (record { answer = polled.Failed e; candidate = candidate }))
    ⊎ ((candidate : Head) × gives (record { answer = polled.Ready tt; candidate = candidate })
    × RefusedAs (RefusesTarget candidate) e)

-- the verdict is the head that is kept, or one that the service gives
abbrev pub IsVerdictGiven : {W : Type 0} → (SignOutcome → Type 0) → WorkState W → Verdict → Type 0
IsVerdictGiven gives w (verdict.Failed n) = (e : ErrorParts) × FailsWith gives w e
IsVerdictGiven gives (work.Signed kept) (verdict.Accepted candidate) = candidate ≡ kept
IsVerdictGiven gives w (verdict.Accepted candidate) =
    gives (record { answer = polled.Ready tt; candidate = candidate })

-- the signed head that is kept, or that the service gives, is left where there was
-- no memory to bring it to `http`
abbrev pub CrossingRunsOut : {W : Type 0} → (SignOutcome → Type 0) → WorkState W → WorkState W → Type 0
CrossingRunsOut gives w (work.Signed candidate) = IsVerdictGiven gives w (verdict.Accepted candidate)
CrossingRunsOut gives w left = ⊥

module _ {K L W : Type 0} where
  -- the head on which the service works, or will
  abbrev pub candidate_of : SignState K L W → Head
  candidate_of (Waiting candidate) = candidate
  candidate_of (Loading candidate provider l) = candidate
  candidate_of (Signing credential (work.Unstarted candidate)) = candidate
  candidate_of (Signing credential (work.Started w candidate)) = candidate
  candidate_of (Signing credential (work.Signed candidate)) = candidate

  -- where a call is by a reply after which it goes on
  abbrev pub state_after : Head → Reply K → Option (SignState K L W)
  state_after candidate (reply.Ask provider) = Some (Loading candidate provider load.Unstarted)
  state_after candidate (reply.Sign credential wake) = Some (Signing credential (work.Unstarted candidate))
  state_after candidate _ = None

  -- the refusal of a signer is that of its desk, with the error of the object
  abbrev pub IsRefusal : CallMeaning K L W → SignState K L W → Why → Refusal → Type 0
  IsRefusal m state why.Missing refusal.Missing = Unit {0}
  IsRefusal m state (why.Short deadline) (refusal.Short moment) = moment ≡ deadline
  IsRefusal m state why.Range refusal.Range = Unit {0}
  IsRefusal m (Loading candidate provider l) (why.Loader n) (refusal.Loader e) =
      m.load_gives provider (polled.Failed e)
  IsRefusal m (Signing credential w) (why.Service n) (refusal.Service e) =
      FailsWith (m.work_gives credential) w e
  IsRefusal m state cause refused = ⊥

  -- the poll ends by this reply; where the desk had no memory, the call has the very
  -- answer that the desk was given
  abbrev pub EndsBy : CallMeaning K L W → SignState K L W → Event K → Reply K → PollEnd K L W → Type 0
  EndsBy m (Waiting candidate) event reply.Pending (Pends (Waiting same)) = Unit {0}
  EndsBy m (Waiting candidate) event reply.OutOfMemory (RunsOut (Waiting same)) = Unit {0}
  EndsBy m (Loading candidate provider l) (Provided call now (Found credential)) reply.OutOfMemory
      (RunsOut left) =
      left ≡ Loading candidate provider (load.Found credential)
  EndsBy m (Signing credential w) (Signed call (verdict.Accepted candidate)) reply.OutOfMemory
      (RunsOut left) =
      left ≡ Signing credential (work.Signed candidate)
  EndsBy m state (Signed call (verdict.Accepted candidate)) (reply.Done head) (Finishes signed) =
      signed ≡ candidate
  EndsBy m state event (reply.Refused cause wake) (Refuses refused) = IsRefusal m state cause refused
  EndsBy m state event answered end = ⊥

  -- the poll ends without an event: the object that is asked is not ready or has no memory, or the
  -- signed head does not get to `http`
  abbrev pub StopsAt : CallMeaning K L W → SignState K L W → PollEnd K L W → Type 0
  StopsAt m (Loading candidate provider l) (Pends (Loading copy same (load.Started left))) =
      (same ≡ provider) × IsLoadPending (m.load_started provider) (m.load_ready provider) l
  StopsAt m (Loading candidate provider l) (RunsOut (Loading copy same left)) =
      (same ≡ provider) × LoadRunsOut (m.load_gives provider) l left
  StopsAt m (Signing credential w) (Pends (Signing same (work.Started left candidate))) =
      (same ≡ credential) × IsWorkPending (m.work_started credential) m.work_ready w
      × m.work_gives credential (record { answer = polled.Pending; candidate = candidate })
  StopsAt m (Signing credential w) (RunsOut (Signing same left)) =
      (same ≡ credential)
      × (WorkRunsOut (m.work_gives credential) w left ⊎ CrossingRunsOut (m.work_gives credential) w left)
  StopsAt m state end = ⊥

module _ {K D L W : Type 0} (v : PolledCall K D L W) where
  -- the event is of the call, at the moment of the poll, and the object that is asked gives its answer
  abbrev pub IsGiven : SignState K L W → Event K → Type 0
  IsGiven (Waiting candidate) (Poll call now) = (call ≡ v.begun.id) × (now ≡ v.now)
  IsGiven (Loading candidate provider l) (Provided call now given) =
      (call ≡ v.begun.id) × (now ≡ v.now) × IsAnswerGiven (v.meaning.load_gives provider) l given
  IsGiven (Signing credential w) (Signed call given) =
      (call ≡ v.begun.id) × IsVerdictGiven (v.meaning.work_gives credential) w given
  IsGiven state event = ⊥

  -- from a call in this state and this desk, the poll has this run, and leaves this desk
  pub data IsEventSequence : SignState K L W → DeskState K D → PollRun K L W → DeskState K D → Type 0 where
    stops : (state : SignState K L W) (desk : DeskState K D) (end : PollEnd K L W)
        → StopsAt v.meaning state end
        → IsEventSequence state desk (record { entries = []; end = end }) desk
    ends : (state : SignState K L W) (old new : DeskState K D) (event : Event K) (answered : Reply K)
        (end : PollEnd K L W)
        → IsGiven state event → IsStep v.policy event old answered new
        → (ClonesAreFree v.clones_freely → RunsOutAtHeads event answered)
        → EndsBy v.meaning state event answered end
        → IsEventSequence state old
        (record { entries = record { event = event; reply = answered } ∷ []; end = end }) new
    goes_on : (state next : SignState K L W) (old between new : DeskState K D) (event : Event K)
        (answered : Reply K) (run : PollRun K L W)
        → IsGiven state event → IsStep v.policy event old answered between
        → state_after (candidate_of state) answered ≡ Some next → IsEventSequence next between run new
        → IsEventSequence state old
        (record { entries = record { event = event; reply = answered } ∷ run.entries; end = run.end }) new

-- the call that a reply names
abbrev pub wake_in : {K : Type 0} → Reply K → Option CallId
wake_in (reply.Sign credential wake) = wake
wake_in (reply.Refused cause wake) = wake
wake_in (reply.Cancelled wake) = wake
wake_in _ = None

-- the calls that the replies name
abbrev pub wakes_in : {K : Type 0} → List (Entry K) → List CallId
wakes_in [] = []
wakes_in (e ∷ rest) = option_to_list (wake_in e.reply) ++ wakes_in rest

-- what a caller sees of a poll: its answer, and the request before and after it
pub record PollOutcome (P S K C L W : Type 0) : Type 0 where
  pub poll : SignPoll P S K C L C W K
  pub before : Parts
  pub after : Parts

-- the answer is that of the end, and the request has the URI and the headers that were signed and that
-- `http` accepts, or is as before
abbrev pub IsEnd : {P S K C L W : Type 0} → SignAnswer P S K C L C W K → Parts → Parts
    → PollEnd K L W → Type 0
IsEnd (answer.Pending sign) before after (Pends left) = (sign.state ≡ left) × (after ≡ before)
IsEnd answer.Done before after (Finishes signed) = Commits signed before after × ¬ (RefusesTarget signed)
IsEnd (answer.Refused refused) before after (Refuses cause) = (refused ≡ cause) × (after ≡ before)
IsEnd (answer.OutOfMemory sign) before after (RunsOut left) = (sign.state ≡ left) × (after ≡ before)
IsEnd given before after end = ⊥

-- the state that an answer hands back, where the call goes on
abbrev pub state_back : {P S K C L W : Type 0} → SignAnswer P S K C L C W K → Option (Sign P S K C L C W K)
state_back (answer.Pending sign) = Some sign
state_back (answer.OutOfMemory sign) = Some sign
state_back _ = None

-- a state that is handed back is one that was issued for the call
abbrev pub IsAnswerIssued : {P S K C D L W : Type 0} → CallMeaning K L W → BegunCall → DeskState K D
    → SignAnswer P S K C L C W K → Type 0
IsAnswerIssued m begun desk given =
    IfSome (state_back given) (λ sign. (sign.begun ≡ begun) × IsStateIssued m begun desk sign.state)

-- a call in this state is driven by these events of the desk, and ends by them
pub record IsDriven {P S K C D L W : Type 0} (v : PolledCall K D L W) (state : SignState K L W)
    (old new : DeskState K D) (outcome : PollOutcome P S K C L W) : Type 0 where
  pub run : PollRun K L W
  pub course : IsEventSequence v state old run new
  pub end : IsEnd outcome.poll.answer outcome.before outcome.after run.end
  pub wake : wakes_in run.entries ≡ option_to_list outcome.poll.wake
  pub issued : IsAnswerIssued v.meaning v.begun new outcome.poll.answer
  pub others : LeavesOthers v.begun.id old new

-- the poll of a call in this state: whatever transcript the desk represents, it then represents
-- that with the events of the poll
pub record IsPoll {P S K C D L W : Type 0} (v : PolledCall K D L W) (state : SignState K L W)
    (old new : DeskState K D) (outcome : PollOutcome P S K C L W) : Type 0 where
  pub driven : IsDriven v state old new outcome
  pub represents : (entries : List (Entry K)) → Represents v.policy old entries
      → Represents v.policy new (entries ++ driven.run.entries)
