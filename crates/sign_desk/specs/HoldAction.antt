-- What is done at a live call by how far its hold gets.
use Rattle.std.specs.Prelude.{Option, Some, None}
use Rattle.sign_base.specs.declared.call_id.CallId.{CallId}
use Rattle.sequential_signer.specs.Lookup.{HandOut, Refuse}
use Rattle.sequential_signer.specs.SequentialCall.{Progress, Asking, Over}
use Rattle.sequential_signer.specs.declared.event.Reply.TheVariants.{NotNow, Ask, Sign, Refused}
use Rattle.desk_parts.specs.Queue.{next_holder, with_last, without_room, without_call, queue_at}
use Rattle.sign_desk.specs.DeskState.{DeskState}
use Rattle.desk_parts.specs.Change.{with_queue, with_cached}
use Rattle.sign_desk.specs.Action.{Action}
use Rattle.desk_parts.specs.Action.{Leaves, Does, Allocates, live_effect, end_effect}
use Rattle.desk_parts.specs.declared.call_record.Stage.TheVariants as stage
use Rattle.desk_parts.specs.declared.tables.LiveCallView.{LiveCallView}

-- what becomes of the desk but for the call: where it asks a provider, where it is handed a credential, and
-- where its hold ends without one; and the call that is woken where the hold is over
pub record Hold (K D : Type 0) : Type 0 where
  pub asking_desk : DeskState K D
  pub signing_desk : K → DeskState K D
  pub ended_desk : DeskState K D
  pub wake : Option CallId

-- the hold of a call that is first polled: it takes a place in the queue only where it asks
abbrev pub first_hold : {K D : Type 0} → DeskState K D → LiveCallView → Hold K D
first_hold desk view = record {
  asking_desk = with_queue (with_last view.call) view.cache desk;
  signing_desk = λ credential. with_queue without_room view.cache desk;
  ended_desk = with_queue without_room view.cache desk;
  wake = None;
}

-- the hold of a call that waited: it gives its place to the next where it is over
abbrev pub waited_hold : {K D : Type 0} → DeskState K D → LiveCallView → Hold K D
waited_hold desk view = record {
  asking_desk = desk;
  signing_desk = λ credential. with_queue (without_call view.call) view.cache desk;
  ended_desk = with_queue (without_call view.call) view.cache desk;
  wake = next_holder view.call (queue_at view.cache desk.queues);
}

-- the hold of a call that loads: as of one that waited, but a credential that is handed out is cached
abbrev pub loading_hold : {K D : Type 0} → DeskState K D → LiveCallView → Hold K D
loading_hold desk view =
    record (waited_hold desk view)
    { signing_desk = λ credential. with_cached credential view (waited_hold desk view).ended_desk }

-- what is done by how far the hold gets; only a credential that is handed out takes memory
abbrev pub hold_action : {K D : Type 0} → Hold K D → LiveCallView → Option (Progress K) → Action K D
hold_action hold view None = Leaves NotNow
hold_action hold view (Some (Asking provider)) =
    Does (live_effect hold.asking_desk (record view { stage = stage.Loading }) (Ask provider))
hold_action hold view (Some (Over (HandOut credential) cached)) =
    Allocates (live_effect (hold.signing_desk credential) (record view { stage = stage.Signing })
    (Sign credential hold.wake))
hold_action hold view (Some (Over (Refuse why) cached)) =
    Does (end_effect hold.ended_desk (Refused why hold.wake))
