-- What a step of a granter's desk does is one more entry of the transcript.
use Rattle.std.proofs.Common.{◌≡◌, ℤ, false, List, None, refl}
use Rattle.sign_base.specs.declared.call_id.CallId.{CallId}
use Rattle.sequential_signer.specs.Policy.{Policy}
use Rattle.sequential_signer.specs.Setup.{Handle}
use Rattle.sequential_signer.specs.Phase.{is_live}
use Rattle.sequential_signer.specs.ExpectedGrantReply.{expected_grant_reply}
use Rattle.sequential_signer.specs.GrantTranscript.{committed_grants, grant_call_of, grant_phase_of, grant_event_fits}
use Rattle.sequential_signer.specs.declared.event.Answer.{Answer}
use Rattle.sequential_signer.specs.declared.grant_event.GrantEntry.{GrantEntry}
use Rattle.sequential_signer.specs.declared.grant_event.GrantEvent.{GrantEvent}
use Rattle.sequential_signer.specs.declared.grant_event.GrantEvent.TheVariants.{Begin, Poll, Provided, Granted, Cancel}
use Rattle.sequential_signer.specs.declared.grant_event.GrantReply.{GrantReply}
use Rattle.sequential_signer.specs.declared.grant_event.GrantReply.TheVariants.{NotNow, Cancelled}
use Rattle.sequential_signer.specs.declared.grant_event.Made.{Made as MadeOrFailed}
use Rattle.sequential_signer.proofs.GrantRows.{grant_misfit}
use Rattle.desk_parts.specs.Action.{Does, end_effect}
use Rattle.desk_parts.specs.LiveCallView.{stored_view, find_view}
use Rattle.desk_parts.specs.WellFormedSetup.{IsWellFormedSetup}
use Rattle.desk_parts.specs.Tables.{setup_of}
use Rattle.desk_parts.specs.declared.tables.LiveCallView.{LiveCallView}
use Rattle.desk_parts.proofs.LiveCases.{lives-cases}
use Rattle.desk_parts.proofs.LiveRecord.{Lives, not_loading, not_signing}
use Rattle.grant_desk.specs.GrantAction.{GrantAction, look_action, grant_poll_action, grant_load_action, grant_provided_action, granted_action, live_grant_action, GrantPerforms, GrantTransition}
use Rattle.grant_desk.specs.GrantDeskState.{GrantState, GrantRecord, GrantRepresents}
use Rattle.grant_desk.proofs.GrantRefine.{GrantRefines, grant_refines-not_now}
use Rattle.grant_desk.proofs.GrantLive.{grant_not_live, grant_unset}
use Rattle.grant_desk.proofs.GrantRefineBegin.{grant_refines-begin}
use Rattle.grant_desk.proofs.GrantRefineLook.{grant_refines-poll}
use Rattle.grant_desk.proofs.GrantRefineLoad.{grant_refines-provided}
use Rattle.grant_desk.proofs.GrantRefineEnd.{grant_refines-granted, grant_refines-cancel}

module _ {K D : Type 0} (policy : Policy K D) (old : GrantState K D) (entries : List (GrantEntry K))
    (stood : GrantRepresents policy old entries) (set_up : IsWellFormedSetup (setup_of old)) where
  -- events of a call, but for a begin, with what is done at them where the call is live
  data IsOfCall : GrantEvent K → (LiveCallView → GrantAction K D) → Type 0 where
    poll : (call : CallId) (now : ℤ)
        → IsOfCall (Poll call now) (λ view. grant_poll_action (look_action policy old now view) view.stage)
    provided : (call : CallId) (now : ℤ) (answer : Answer K)
        → IsOfCall (Provided call now answer)
        (λ view. grant_provided_action (grant_load_action policy old now answer view) view.stage)
    granted : (call : CallId) (now : ℤ) (answer : MadeOrFailed K)
        → IsOfCall (Granted call now answer) (λ view. granted_action policy old now answer view.stage)
    cancel : (call : CallId) → IsOfCall (Cancel call) (λ view. Does (end_effect old Cancelled))

  unfit_of : (event : GrantEvent K) (action : LiveCallView → GrantAction K D) → IsOfCall event action
      → is_live (grant_phase_of (committed_grants entries) (grant_call_of event)) ≡ false
      → grant_event_fits (setup_of old) (committed_grants entries) event ≡ false
  unfit_of event action (poll call now) l = l
  unfit_of event action (provided call now answer) l = not_loading (grant_phase_of (committed_grants entries) call) l
  unfit_of event action (granted call now answer) l = not_signing (grant_phase_of (committed_grants entries) call) l
  unfit_of event action (cancel call) l = l

  module _ (reply : GrantReply K) (new : GrantState K D) where
    -- the change is what is done at the event, and it is one more entry
    abbrev IsDone : GrantEvent K → GrantAction K D → Type 0
    IsDone event action = GrantPerforms action (grant_call_of event) old reply new

    abbrev IsEntry : GrantEvent K → Type 0
    IsEntry event = GrantRefines policy old entries (record { event = event; reply = reply }) new

    at_live : (event : GrantEvent K) (action : LiveCallView → GrantAction K D) → IsOfCall event action
        → (h : Handle) (r : GrantRecord) → Lives old (grant_call_of event) h r
        → IsDone event (action (stored_view (grant_call_of event) h r)) → IsEntry event
    at_live event action (poll call now) h r lives m = grant_refines-poll policy old entries stood call h r lives now r.stage refl reply new m
    at_live event action (provided call now answer) h r lives m = grant_refines-provided policy old entries stood call h r lives now answer r.stage refl reply new m
    at_live event action (granted call now answer) h r lives m = grant_refines-granted policy old entries stood call h r lives now answer r.stage refl reply new m
    at_live event action (cancel call) h r lives m = grant_refines-cancel policy old entries stood call h r lives reply new m

    by_call : (event : GrantEvent K) (action : LiveCallView → GrantAction K D) → IsOfCall event action
        → IsDone event (live_grant_action action (find_view old (grant_call_of event))) → IsEntry event
    by_call event action of m =
        lives-cases old set_up (grant_call_of event) (λ v. IsDone event (live_grant_action action v) → IsEntry event)
        (λ under k. unfit (grant_unset policy old entries stood event under) k)
        (λ h under found k. unfit (grant_misfit policy (setup_of old) (committed_grants entries) event (unfit_of event action of (grant_not_live policy old entries stood (grant_call_of event) found))) k)
        (λ h r lives k. at_live event action of h r lives k) m
      where
        unfit : expected_grant_reply policy (setup_of old) (committed_grants entries) event ≡ NotNow
            → IsDone event (live_grant_action action None) → IsEntry event
        unfit expected k = rw (k.0, k.1) (grant_refines-not_now policy old entries stood event expected)

    refines-event : (event : GrantEvent K) → GrantTransition policy event old reply new → IsEntry event
    refines-event (Begin call expires_in) m = grant_refines-begin policy old entries stood call expires_in reply new m
    refines-event (Poll call now) m = by_call (Poll call now) _ (poll call now) m
    refines-event (Provided call now answer) m = by_call (Provided call now answer) _ (provided call now answer) m
    refines-event (Granted call now answer) m = by_call (Granted call now answer) _ (granted call now answer) m
    refines-event (Cancel call) m = by_call (Cancel call) _ (cancel call) m

  -- what a step does is one more entry
  pub grant_refines-step : (event : GrantEvent K) (reply : GrantReply K) (new : GrantState K D)
      → GrantTransition policy event old reply new
      → GrantRefines policy old entries (record { event = event; reply = reply }) new
  grant_refines-step event reply new m = refines-event reply new event m
