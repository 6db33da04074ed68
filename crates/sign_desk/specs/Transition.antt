-- What a desk does at an event, on what it keeps.
use Rattle.std.specs.Prelude.{ℤ, Bool, true, false, Option, Some, None}
use Rattle.sign_base.specs.declared.head.Head.{Head}
use Rattle.sign_base.specs.Calls.{is_first}
use Rattle.sequential_signer.specs.Policy.{Policy}
use Rattle.sequential_signer.specs.Transcript.{call_of}
use Rattle.sequential_signer.specs.SequentialCall.{Progress}
use Rattle.sequential_signer.specs.ExpectedReply.{done_head}
use Rattle.sequential_signer.specs.declared.event.Answer.{Answer}
use Rattle.sequential_signer.specs.declared.event.Event.{Event}
use Rattle.sequential_signer.specs.declared.event.Event.TheVariants.{Begin, Poll, Provided, Signed, Cancel}
use Rattle.sequential_signer.specs.declared.event.Reply.{Reply}
use Rattle.sequential_signer.specs.declared.event.Reply.TheVariants.{Pending, NotNow, Refused}
use Rattle.sequential_signer.specs.declared.event.Reply.TheVariants.{Done, Cancelled}
use Rattle.sequential_signer.specs.declared.event.Verdict.{Verdict}
use Rattle.sequential_signer.specs.declared.event.Verdict.TheVariants.{Accepted, Failed}
use Rattle.sequential_signer.specs.declared.event.Why.TheVariants.{Service}
use Rattle.desk_parts.specs.Queue.{with_last, without_room, queue_at, is_held_queue}
use Rattle.sign_desk.specs.DeskState.{DeskState, live_view}
use Rattle.desk_parts.specs.Tables.{find_call}
use Rattle.desk_parts.specs.LiveCallView.{find_view}
use Rattle.desk_parts.specs.Change.{with_queue}
use Rattle.sign_desk.specs.Action.{Action, Performs}
use Rattle.desk_parts.specs.Action.{Leaves, Does, Allocates, live_effect, end_effect}
use Rattle.desk_parts.specs.Begin.{new_record}
use Rattle.sign_desk.specs.BeginAction.{begin_action}
use Rattle.desk_parts.specs.HoldProgress.{desk_lookup, desk_load, with_answer}
use Rattle.sign_desk.specs.HoldAction.{first_hold, waited_hold, loading_hold, hold_action}
use Rattle.sign_desk.specs.Records.{CallRecord}
use Rattle.desk_parts.specs.declared.call_record.Stage.{Stage}
use Rattle.desk_parts.specs.declared.call_record.Stage.TheVariants as stage
use Rattle.desk_parts.specs.declared.tables.LiveCallView.{LiveCallView}

-- a first poll, by whether the lock of its cache is held: the call waits behind all others, or holds at once
abbrev pub first_poll_action : {K D : Type 0} → DeskState K D → LiveCallView → Bool
    → Option (Progress K) → Action K D
first_poll_action desk view true look =
    Does (live_effect (with_queue (with_last view.call) view.cache desk)
    (record view { stage = stage.Queued }) Pending)
first_poll_action desk view false look = hold_action (first_hold desk view) view look

-- a later poll of a call that waits, by whether it holds the lock
abbrev pub later_poll_action : {K D : Type 0} → DeskState K D → LiveCallView → Bool
    → Option (Progress K) → Action K D
later_poll_action desk view true look = hold_action (waited_hold desk view) view look
later_poll_action desk view false look = Leaves Pending

-- a poll, by the stage of its call
abbrev pub poll_action : {K D : Type 0} → Policy K D → DeskState K D → ℤ → LiveCallView → Stage → Action K D
poll_action policy desk now view stage.Unpolled =
    first_poll_action desk view (is_held_queue (queue_at view.cache desk.queues))
    (desk_lookup policy desk now view)
poll_action policy desk now view stage.Queued =
    later_poll_action desk view (is_first view.call (queue_at view.cache desk.queues))
    (desk_lookup policy desk now view)
poll_action policy desk now view _ = Leaves Pending

-- a provider's answer to a call that loads
abbrev pub load_action : {K D : Type 0} → Policy K D → DeskState K D → ℤ → Answer K
    → LiveCallView → Action K D
load_action policy desk now answer view =
    hold_action (loading_hold desk view) (with_answer view) (desk_load policy desk now view answer)

-- a provider's answer, by the stage of its call
abbrev pub provided_action : {K D : Type 0} → Action K D → Stage → Action K D
provided_action load stage.Loading = load
provided_action load _ = Leaves NotNow

-- an accepted head: the begun head has the candidate's URI and headers, and the call is done
abbrev pub accept_action : {K D : Type 0} → DeskState K D → Head → Option CallRecord → Action K D
accept_action desk candidate None = Leaves NotNow
accept_action desk candidate (Some live) =
    Allocates (end_effect desk (Done (done_head (Some (live_view live).begin) candidate)))

-- a service's answer, by the stage of its call
abbrev pub signed_action : {K D : Type 0} → DeskState K D → Verdict → LiveCallView → Stage → Action K D
signed_action desk (Accepted candidate) view stage.Signing =
    accept_action desk candidate (find_call view.call desk.calls)
signed_action desk (Failed e) view stage.Signing = Does (end_effect desk (Refused (Service e) None))
signed_action desk answer view _ = Leaves NotNow

-- a cancel, by the stage of its call: a place in the queue, or the room for one, is given back
abbrev pub cancel_action : {K D : Type 0} → DeskState K D → LiveCallView → Stage → Action K D
cancel_action desk view stage.Unpolled =
    Does (end_effect (with_queue without_room view.cache desk) (Cancelled None))
cancel_action desk view stage.Queued =
    Does (end_effect (waited_hold desk view).ended_desk (Cancelled (waited_hold desk view).wake))
cancel_action desk view stage.Loading =
    Does (end_effect (waited_hold desk view).ended_desk (Cancelled (waited_hold desk view).wake))
cancel_action desk view stage.Signing = Does (end_effect desk (Cancelled None))

-- what is done at a live call; an event of no live call does not fit
abbrev pub live_action : {K D : Type 0} → (LiveCallView → Action K D) → Option LiveCallView → Action K D
live_action action None = Leaves NotNow
live_action action (Some view) = action view

-- what is done at an event
abbrev pub action_of : {K D : Type 0} → Policy K D → DeskState K D → Event K → Action K D
action_of policy desk (Begin call head expires_in) = begin_action desk call (new_record head expires_in)
action_of policy desk (Poll call now) =
    live_action (λ view. poll_action policy desk now view view.stage) (find_view desk call)
action_of policy desk (Provided call now answer) =
    live_action (λ view. provided_action (load_action policy desk now answer view) view.stage)
    (find_view desk call)
action_of policy desk (Signed call answer) =
    live_action (λ view. signed_action desk answer view view.stage) (find_view desk call)
action_of policy desk (Cancel call) =
    live_action (λ view. cancel_action desk view view.stage) (find_view desk call)

-- what is done at the event: the desk before it, its reply, and the desk after it
abbrev pub Transition : {K D : Type 0} → Policy K D → Event K → DeskState K D → Reply K
    → DeskState K D → Type 0
Transition policy event old reply new = Performs (action_of policy old event) (call_of event) old reply new
