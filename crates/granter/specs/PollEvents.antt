-- What a poll of a granter does: events of its desk, one after another, by what the objects answer.
use Rattle.std.specs.Prelude.{◌≡◌, List, [], ◌∷◌, ◌++◌, Option, Some, None, IfSome}
use Rattle.sign_base.specs.Error.{ErrorParts}
use Rattle.credentials.specs.declared.polled.Polled.{Polled}
use Rattle.credentials.specs.declared.polled.Polled.TheVariants as polled
use Rattle.sequential_signer.specs.declared.event.Answer.TheVariants.{Found}
use Rattle.sequential_signer.specs.declared.grant_event.GrantEntry.{GrantEntry}
use Rattle.sequential_signer.specs.declared.grant_event.GrantEvent.{GrantEvent}
use Rattle.sequential_signer.specs.declared.grant_event.GrantEvent.TheVariants.{Poll, Provided, Granted}
use Rattle.sequential_signer.specs.declared.grant_event.GrantReply.{GrantReply}
use Rattle.sequential_signer.specs.declared.grant_event.GrantReply.TheVariants as reply
use Rattle.sequential_signer.specs.declared.grant_event.GrantWhy.{GrantWhy}
use Rattle.sequential_signer.specs.declared.grant_event.GrantWhy.TheVariants as why
use Rattle.sequential_signer.specs.declared.grant_event.Made.{Made}
use Rattle.sequential_signer.specs.declared.grant_event.Made.TheVariants as made
use Rattle.desk_driver.specs.CallAt.{LeavesOthers}
use Rattle.desk_driver.specs.LoadAnswer.{IsLoadPending, LoadRunsOut, IsAnswerGiven}
use Rattle.desk_driver.specs.declared.load_state.LoadState.TheVariants as load
use Rattle.grant_desk.specs.GrantDeskState.{GrantState, GrantRepresents}
use Rattle.desk_parts.specs.Memory.{ClonesAreFree}
use Rattle.grant_desk.specs.GrantSteps.{IsGrantStep, RunsOutAtBegins}
pub use Rattle.desk_driver.specs.PolledCall.{polled_call}
use Rattle.desk_driver.specs.PolledCall.{PolledCallOf}
use Rattle.granter.specs.GranterObjects.{CallMeaning}
use Rattle.granter.specs.IssuedBy.{IsStateIssued}
use Rattle.granter.specs.ObjectAnswer.{IsWorkPending, IsWorkOpen, WorkRunsOut}
use Rattle.granter.specs.ObjectPoll.{BegunCall}
use Rattle.granter.specs.declared.grant.CallState.{CallState}
use Rattle.granter.specs.declared.grant.Grant.{Grant}
use Rattle.granter.specs.declared.grant.CallState.TheVariants.{Waiting, Loading, Granting}
use Rattle.granter.specs.declared.grant.WorkState.{WorkState}
use Rattle.granter.specs.declared.grant.WorkState.TheVariants as work
use Rattle.granter.specs.declared.grant_poll.GrantPoll.{GrantPoll}
use Rattle.granter.specs.declared.grant_poll.GrantPoll.TheVariants as answer
use Rattle.granter.specs.declared.refusal.GrantRefusal.{GrantRefusal}
use Rattle.granter.specs.declared.refusal.GrantRefusal.TheVariants as refusal

-- how a poll ends
pub data PollEnd (K L W : Type 0) : Type 0 where
  -- an object that was asked is not ready, and the call is here
  Pends : CallState K L W → PollEnd K L W
  -- this credential was granted
  Gives : K → PollEnd K L W
  -- the call is refused
  Refuses : GrantRefusal → PollEnd K L W
  -- an allocation failed, and the call is here
  RunsOut : CallState K L W → PollEnd K L W

-- the events of a poll with their replies, and its end
pub record PollRun (K L W : Type 0) : Type 0 where
  pub entries : List (GrantEntry K)
  pub end : PollEnd K L W

-- a call that is polled
abbrev pub PolledCall : Type 0 → Type 0 → Type 0 → Type 0 → Type 1
PolledCall K D L W = PolledCallOf K D L W (Unit {0}) (Polled K)

-- the answer is the credential that is kept, or one that the service gives
abbrev pub IsMadeGiven : {K W : Type 0} → (Polled K → Type 0) → WorkState K W → Made K → Type 0
IsMadeGiven gives (work.Made kept) given = given ≡ made.Made kept
IsMadeGiven gives w (made.Made credential) = gives (polled.Ready credential)
IsMadeGiven gives w (made.Failed n) = (e : ErrorParts) × gives (polled.Failed e)

module _ {K L W : Type 0} where
  -- where a call is by a reply after which it goes on
  abbrev pub state_after : GrantReply K → Option (CallState K L W)
  state_after (reply.Ask provider) = Some (Loading provider load.Unstarted)
  state_after (reply.Grant source) = Some (Granting source work.Unstarted)
  state_after _ = None

  -- the refusal of a granter is that of its desk, with the error of the object
  abbrev pub IsRefusal : CallMeaning K L W → CallState K L W → GrantWhy → GrantRefusal → Type 0
  IsRefusal m state why.Missing refusal.Missing = Unit {0}
  IsRefusal m state (why.Short deadline) (refusal.Short moment) = moment ≡ deadline
  IsRefusal m state why.Range refusal.Range = Unit {0}
  IsRefusal m (Loading provider l) (why.Loader n) (refusal.Loader e) = m.load_gives provider (polled.Failed e)
  IsRefusal m (Granting source w) (why.Service n) (refusal.Service e) =
      m.work_gives source (polled.Failed e) × IsWorkOpen w
  IsRefusal m state (why.Stale checked) (refusal.Stale moment) = moment ≡ checked
  IsRefusal m state cause refused = ⊥

  -- the poll ends by this reply; where the desk had no memory, the call has the very
  -- answer that the desk was given
  abbrev pub EndsBy : CallMeaning K L W → CallState K L W → GrantEvent K → GrantReply K
      → PollEnd K L W → Type 0
  EndsBy m Waiting event reply.OutOfMemory (RunsOut Waiting) = Unit {0}
  EndsBy m (Loading provider l) (Provided call now (Found source)) reply.OutOfMemory (RunsOut left) =
      left ≡ Loading provider (load.Found source)
  EndsBy m (Granting source w) (Granted call now (made.Made credential)) reply.OutOfMemory (RunsOut left) =
      left ≡ Granting source (work.Made credential)
  EndsBy m state (Granted call now (made.Made credential)) (reply.Given handed) (Gives given) =
      (handed ≡ credential) × (given ≡ credential)
  EndsBy m state event (reply.Refused cause) (Refuses refused) = IsRefusal m state cause refused
  EndsBy m state event answered end = ⊥

  -- the poll ends without an event: the object that is asked is not ready, or has no memory
  abbrev pub StopsAt : CallMeaning K L W → CallState K L W → PollEnd K L W → Type 0
  StopsAt m (Loading provider l) (Pends (Loading same (load.Started left))) =
      (same ≡ provider) × IsLoadPending (m.load_started provider) (m.load_ready provider) l
  StopsAt m (Loading provider l) (RunsOut (Loading same left)) =
      (same ≡ provider) × LoadRunsOut (m.load_gives provider) l left
  StopsAt m (Granting source w) (Pends (Granting same (work.Started left))) =
      (same ≡ source) × IsWorkPending (m.work_started source) m.work_ready w
  StopsAt m (Granting source w) (RunsOut (Granting same left)) =
      (same ≡ source) × WorkRunsOut (m.work_gives source) w left
  StopsAt m state end = ⊥

module _ {K D L W : Type 0} (v : PolledCall K D L W) where
  -- the event is of the call, at the moment of the poll, and the object that is asked gives its answer
  abbrev pub IsGiven : CallState K L W → GrantEvent K → Type 0
  IsGiven Waiting (Poll call now) = (call ≡ v.begun.id) × (now ≡ v.now)
  IsGiven (Loading provider l) (Provided call now given) =
      (call ≡ v.begun.id) × (now ≡ v.now) × IsAnswerGiven (v.meaning.load_gives provider) l given
  IsGiven (Granting source w) (Granted call now given) =
      (call ≡ v.begun.id) × (now ≡ v.now) × IsMadeGiven (v.meaning.work_gives source) w given
  IsGiven state event = ⊥

  -- from a call in this state and this desk, the poll has this run, and leaves this desk
  pub data IsEventSequence : CallState K L W → GrantState K D → PollRun K L W → GrantState K D → Type 0 where
    stops : (state : CallState K L W) (desk : GrantState K D) (end : PollEnd K L W)
        → StopsAt v.meaning state end
        → IsEventSequence state desk (record { entries = []; end = end }) desk
    ends : (state : CallState K L W) (old new : GrantState K D) (event : GrantEvent K)
        (answered : GrantReply K) (end : PollEnd K L W)
        → IsGiven state event → IsGrantStep v.policy event old answered new
        → (ClonesAreFree v.clones_freely → RunsOutAtBegins event answered)
        → EndsBy v.meaning state event answered end
        → IsEventSequence state old
        (record { entries = record { event = event; reply = answered } ∷ []; end = end }) new
    goes_on : (state next : CallState K L W) (old between new : GrantState K D) (event : GrantEvent K)
        (answered : GrantReply K) (run : PollRun K L W)
        → IsGiven state event → IsGrantStep v.policy event old answered between
        → state_after answered ≡ Some next → IsEventSequence next between run new
        → IsEventSequence state old
        (record { entries = record { event = event; reply = answered } ∷ run.entries; end = run.end }) new

module _ {P G K C L W : Type 0} where
  -- the answer is that of the end
  abbrev pub IsEnd : GrantPoll P G K C L C W K → PollEnd K L W → Type 0
  IsEnd (answer.Pending grant) (Pends left) = grant.state ≡ left
  IsEnd (answer.Given credential) (Gives given) = credential ≡ given
  IsEnd (answer.Refused refused) (Refuses cause) = refused ≡ cause
  IsEnd (answer.OutOfMemory grant) (RunsOut left) = grant.state ≡ left
  IsEnd given end = ⊥

  -- the state that an answer hands back, where the call goes on
  abbrev pub state_back : GrantPoll P G K C L C W K → Option (Grant P G K C L C W K)
  state_back (answer.Pending grant) = Some grant
  state_back (answer.OutOfMemory grant) = Some grant
  state_back _ = None

  -- a state that is handed back is one that was issued for the call
  abbrev pub IsAnswerIssued : {D : Type 0} → CallMeaning K L W → BegunCall → GrantState K D
      → GrantPoll P G K C L C W K → Type 0
  IsAnswerIssued m begun desk given =
      IfSome (state_back given) (λ grant. (grant.begun ≡ begun) × IsStateIssued m begun desk grant.state)

-- a call in this state is driven by these events of the desk, and ends by them
pub record IsDriven {P G K C D L W : Type 0} (v : PolledCall K D L W) (state : CallState K L W)
    (old new : GrantState K D) (poll : GrantPoll P G K C L C W K) : Type 0 where
  pub run : PollRun K L W
  pub course : IsEventSequence v state old run new
  pub end : IsEnd poll run.end
  pub issued : IsAnswerIssued v.meaning v.begun new poll
  pub others : LeavesOthers v.begun.id old new

-- the poll of a call in this state: whatever transcript the desk represents, it then represents
-- that with the events of the poll
pub record IsGrantPoll {P G K C D L W : Type 0} (v : PolledCall K D L W) (state : CallState K L W)
    (old new : GrantState K D) (poll : GrantPoll P G K C L C W K) : Type 0 where
  pub driven : IsDriven v state old new poll
  pub represents : (entries : List (GrantEntry K)) → GrantRepresents v.policy old entries
      → GrantRepresents v.policy new (entries ++ driven.run.entries)
