-- What a granter's desk does at an event, on what it keeps.
use Rattle.std.specs.Prelude.{ℤ, Option, Some, None, if◌then◌else◌}
use Rattle.sign_base.specs.declared.call_id.CallId.{CallId}
use Rattle.sequential_signer.specs.Policy.{Policy}
use Rattle.sequential_signer.specs.Lookup.{HandOut, Refuse}
use Rattle.sequential_signer.specs.SequentialCall.{Progress, Asking, Over}
use Rattle.sequential_signer.specs.ExpectedGrantReply.{grant_why}
use Rattle.sequential_signer.specs.GrantTranscript.{grant_call_of}
use Rattle.sequential_signer.specs.declared.event.Answer.{Answer}
use Rattle.sequential_signer.specs.declared.grant_event.GrantEvent.{GrantEvent}
use Rattle.sequential_signer.specs.declared.grant_event.GrantEvent.TheVariants.{Begin, Poll, Provided}
use Rattle.sequential_signer.specs.declared.grant_event.GrantEvent.TheVariants.{Granted, Cancel}
use Rattle.sequential_signer.specs.declared.grant_event.GrantReply.{GrantReply}
use Rattle.sequential_signer.specs.declared.grant_event.GrantReply.TheVariants.{Begun, Pending, NotNow}
use Rattle.sequential_signer.specs.declared.grant_event.GrantReply.TheVariants.{OutOfMemory, Ask, Grant}
use Rattle.sequential_signer.specs.declared.grant_event.GrantReply.TheVariants.{Refused, Given, Cancelled}
use Rattle.sequential_signer.specs.declared.grant_event.GrantWhy.TheVariants.{Service, Stale}
use Rattle.sequential_signer.specs.declared.grant_event.Made.{Made as MadeOrFailed}
use Rattle.sequential_signer.specs.declared.grant_event.Made.TheVariants.{Made, Failed}
use Rattle.desk_parts.specs.Action.{ActionOn, Leaves, Does, Allocates, live_effect, end_effect, PerformsOr}
use Rattle.desk_parts.specs.Begin.{can_begin, with_number, new_record}
use Rattle.desk_parts.specs.Change.{with_cached}
use Rattle.desk_parts.specs.HoldProgress.{desk_lookup, desk_load, with_answer}
use Rattle.desk_parts.specs.LiveCallView.{find_view}
use Rattle.desk_parts.specs.declared.call_record.Stage.{Stage}
use Rattle.desk_parts.specs.declared.call_record.Stage.TheVariants as stage
use Rattle.desk_parts.specs.declared.tables.LiveCallView.{LiveCallView}
use Rattle.grant_desk.specs.GrantDeskState.{GrantState, GrantRecord}

-- what is done at an event
abbrev pub GrantAction : Type 0 → Type 0 → Type 0
GrantAction K D = ActionOn (GrantReply K) K D (Unit {0}) (Unit {0})

-- a begin, which takes memory
abbrev pub grant_begin_action : {K D : Type 0} → GrantState K D → CallId → GrantRecord → GrantAction K D
grant_begin_action desk call live =
    if can_begin desk call
    then Allocates (record { reply = Begun; desk = with_number call desk; live = Some live })
    else Leaves NotNow

-- what is done by how far a look or a load gets; `handed` is the desk where a source is handed to the
-- granter, which alone takes memory
abbrev pub progress_action : {K D : Type 0} → (K → GrantState K D) → GrantState K D → LiveCallView
    → Option (Progress K) → GrantAction K D
progress_action handed desk view None = Leaves NotNow
progress_action handed desk view (Some (Asking provider)) =
    Does (live_effect desk (record view { stage = stage.Loading }) (Ask provider))
progress_action handed desk view (Some (Over (HandOut c) left)) =
    Allocates (live_effect (handed c) (record view { stage = stage.Signing }) (Grant c))
progress_action handed desk view (Some (Over (Refuse why) left)) =
    Does (end_effect desk (Refused (grant_why why)))

-- a look, which leaves the caches
abbrev pub look_action : {K D : Type 0} → Policy K D → GrantState K D → ℤ → LiveCallView → GrantAction K D
look_action policy desk now view = progress_action (λ c. desk) desk view (desk_lookup policy desk now view)

-- a poll, by the stage of its call: one that has not looked yet looks
abbrev pub grant_poll_action : {K D : Type 0} → GrantAction K D → Stage → GrantAction K D
grant_poll_action look stage.Unpolled = look
grant_poll_action look stage.Queued = look
grant_poll_action look _ = Leaves Pending

-- a provider's answer to a call that loads: a source that is handed to the granter is cached
abbrev pub grant_load_action : {K D : Type 0} → Policy K D → GrantState K D → ℤ → Answer K → LiveCallView
    → GrantAction K D
grant_load_action policy desk now answer view =
    progress_action (λ c. with_cached c view desk) desk (with_answer view)
    (desk_load policy desk now view answer)

-- a provider's answer, by the stage of its call
abbrev pub grant_provided_action : {K D : Type 0} → GrantAction K D → Stage → GrantAction K D
grant_provided_action load stage.Loading = load
grant_provided_action load _ = Leaves NotNow

-- what the granter made now: it is given where it is valid now, which takes memory
abbrev pub made_action : {K D : Type 0} → Policy K D → GrantState K D → ℤ → K → GrantAction K D
made_action policy desk now c =
    if policy.valid_at c now now
    then Allocates (end_effect desk (Given c))
    else Does (end_effect desk (Refused (Stale now)))

-- the granter's answer, by the stage of its call
abbrev pub granted_action : {K D : Type 0} → Policy K D → GrantState K D → ℤ → MadeOrFailed K → Stage
    → GrantAction K D
granted_action policy desk now (Made c) stage.Signing = made_action policy desk now c
granted_action policy desk now (Failed e) stage.Signing = Does (end_effect desk (Refused (Service e)))
granted_action policy desk now answer _ = Leaves NotNow

-- what is done at a live call; an event of no live call does not fit
abbrev pub live_grant_action : {K D : Type 0} → (LiveCallView → GrantAction K D) → Option LiveCallView
    → GrantAction K D
live_grant_action action None = Leaves NotNow
live_grant_action action (Some view) = action view

-- what is done at an event
abbrev pub grant_action_of : {K D : Type 0} → Policy K D → GrantState K D → GrantEvent K → GrantAction K D
grant_action_of policy desk (Begin call expires_in) = grant_begin_action desk call (new_record tt expires_in)
grant_action_of policy desk (Poll call now) =
    live_grant_action (λ view. grant_poll_action (look_action policy desk now view) view.stage)
    (find_view desk call)
grant_action_of policy desk (Provided call now answer) =
    live_grant_action
    (λ view. grant_provided_action (grant_load_action policy desk now answer view) view.stage)
    (find_view desk call)
grant_action_of policy desk (Granted call now answer) =
    live_grant_action (λ view. granted_action policy desk now answer view.stage) (find_view desk call)
grant_action_of policy desk (Cancel call) =
    live_grant_action (λ view. Does (end_effect desk Cancelled)) (find_view desk call)

-- what is done to the call: the desk before it, its reply, and the desk after it
abbrev pub GrantPerforms : {K D : Type 0} → GrantAction K D → CallId → GrantState K D → GrantReply K
    → GrantState K D → Type 0
GrantPerforms action call old reply new = PerformsOr OutOfMemory action call old reply new

-- what is done at the event
abbrev pub GrantTransition : {K D : Type 0} → Policy K D → GrantEvent K → GrantState K D → GrantReply K
    → GrantState K D → Type 0
GrantTransition policy event old reply new =
    GrantPerforms (grant_action_of policy old event) (grant_call_of event) old reply new
