-- What a granter's desk replies, by its cause.
use Rattle.std.proofs.Common.{ℤ, Bool, true, false, cond, Option, Some, None, refl, inl, inr}
use Rattle.sign_base.specs.declared.call_id.CallId.{CallId}
use Rattle.sequential_signer.specs.Lookup.{HandOut, Refuse}
use Rattle.sequential_signer.specs.Policy.{Policy}
use Rattle.sequential_signer.specs.SequentialCall.{Progress, Asking, Over}
use Rattle.sequential_signer.specs.GrantTranscript.{grant_call_of}
use Rattle.sequential_signer.specs.declared.grant_event.GrantEvent.{GrantEvent}
use Rattle.sequential_signer.specs.declared.grant_event.GrantEvent.TheVariants.{Begin, Poll, Provided, Granted, Cancel}
use Rattle.sequential_signer.specs.declared.grant_event.GrantReply.{GrantReply}
use Rattle.sequential_signer.specs.declared.grant_event.GrantReply.TheVariants.{Begun, Pending, NotNow, OutOfMemory, Ask, Grant, Refused, Given, Cancelled}
use Rattle.sequential_signer.specs.declared.grant_event.GrantWhy.TheVariants.{Stale}
use Rattle.sequential_signer.specs.declared.grant_event.Made.{Made as MadeOrFailed}
use Rattle.sequential_signer.specs.declared.grant_event.Made.TheVariants.{Made, Failed}
use Rattle.desk_parts.specs.Action.{Leaves, Does, Allocates, end_effect}
use Rattle.desk_parts.specs.Begin.{can_begin, with_number, new_record}
use Rattle.desk_parts.specs.Cause.{TakesMemory}
use Rattle.desk_parts.specs.Change.{with_cached}
use Rattle.desk_parts.specs.HoldProgress.{desk_lookup, desk_load, with_answer}
use Rattle.desk_parts.specs.LiveCallView.{find_view}
use Rattle.desk_parts.specs.declared.call_record.Stage.{Stage}
use Rattle.desk_parts.specs.declared.call_record.Stage.TheVariants as stage
use Rattle.desk_parts.specs.declared.tables.LiveCallView.{LiveCallView}
use Rattle.desk_parts.proofs.CausedBy.{AllocatesFor, performed-previews, previewed-by}
use Rattle.grant_desk.specs.GrantAction.{GrantAction, GrantTransition, progress_action, look_action, grant_poll_action, grant_load_action, grant_provided_action, granted_action, live_grant_action, grant_action_of}
use Rattle.grant_desk.specs.GrantCause.{grant_said_by, grant_cause_of, IsGrantCaused}
use Rattle.grant_desk.specs.GrantDeskState.{GrantState, GrantRecord}

-- a reply has the cause that it says
says_own : {K : Type 0} (reply : GrantReply K) → IsGrantCaused (grant_said_by reply) reply
says_own NotNow = refl
says_own Pending = refl
says_own OutOfMemory = inr refl
says_own (Refused why) = refl
says_own Begun = refl
says_own (Ask provider) = refl
says_own (Grant source) = refl
says_own (Given credential) = refl
says_own Cancelled = refl

module _ {K D : Type 0} where
  -- what is done takes memory only for a step
  abbrev StepsAlone : GrantAction K D → Type 0
  StepsAlone action = AllocatesFor (IsGrantCaused TakesMemory) action

  progress_steps : (handed : K → GrantState K D) (desk : GrantState K D) (view : LiveCallView)
      (progress : Option (Progress K)) → StepsAlone (progress_action handed desk view progress)
  progress_steps handed desk view None = tt
  progress_steps handed desk view (Some (Asking k)) = tt
  progress_steps handed desk view (Some (Over (HandOut c) left)) = inl refl
  progress_steps handed desk view (Some (Over (Refuse why) left)) = tt

  poll_steps : (look : GrantAction K D) → StepsAlone look → (s : Stage)
      → StepsAlone (grant_poll_action look s)
  poll_steps look k stage.Unpolled = k
  poll_steps look k stage.Queued = k
  poll_steps look k stage.Loading = tt
  poll_steps look k stage.Signing = tt

  provided_steps : (load : GrantAction K D) → StepsAlone load → (s : Stage)
      → StepsAlone (grant_provided_action load s)
  provided_steps load k stage.Loading = k
  provided_steps load k stage.Unpolled = tt
  provided_steps load k stage.Queued = tt
  provided_steps load k stage.Signing = tt

  module _ (policy : Policy K D) (desk : GrantState K D) where
    begin_steps : (b : Bool) (call : CallId) (live : GrantRecord)
        → StepsAlone
        (cond b (Allocates (record { reply = Begun; desk = with_number call desk; live = Some live }))
        (Leaves NotNow))
    begin_steps true call live = inl refl
    begin_steps false call live = tt

    valid_steps : (b : Bool) (now : ℤ) (c : K)
        → StepsAlone
        (cond b (Allocates (end_effect desk (Given c))) (Does (end_effect desk (Refused (Stale now)))))
    valid_steps true now c = inl refl
    valid_steps false now c = tt

    granted_steps : (now : ℤ) (answer : MadeOrFailed K) (s : Stage)
        → StepsAlone (granted_action policy desk now answer s)
    granted_steps now (Made c) stage.Signing = valid_steps (policy.valid_at c now now) now c
    granted_steps now (Failed e) stage.Signing = tt
    granted_steps now (Made c) stage.Unpolled = tt
    granted_steps now (Made c) stage.Queued = tt
    granted_steps now (Made c) stage.Loading = tt
    granted_steps now (Failed e) stage.Unpolled = tt
    granted_steps now (Failed e) stage.Queued = tt
    granted_steps now (Failed e) stage.Loading = tt

    live_steps : (action : LiveCallView → GrantAction K D)
        → ((view : LiveCallView) → StepsAlone (action view)) → (v : Option LiveCallView)
        → StepsAlone (live_grant_action action v)
    live_steps action each None = tt
    live_steps action each (Some view) = each view

    action_steps : (event : GrantEvent K) → StepsAlone (grant_action_of policy desk event)
    action_steps (Begin call expires_in) = begin_steps (can_begin desk call) call (new_record tt expires_in)
    action_steps (Poll call now) =
        live_steps (λ view. grant_poll_action (look_action policy desk now view) view.stage)
        (λ view. poll_steps (look_action policy desk now view) (progress_steps (λ c. desk) desk view (desk_lookup policy desk now view)) view.stage) (find_view desk call)
    action_steps (Provided call now answer) =
        live_steps (λ view. grant_provided_action (grant_load_action policy desk now answer view) view.stage)
        (λ view. provided_steps (grant_load_action policy desk now answer view) (progress_steps (λ c. with_cached c view desk) desk (with_answer view) (desk_load policy desk now view answer)) view.stage) (find_view desk call)
    action_steps (Granted call now answer) = live_steps (λ view. granted_action policy desk now answer view.stage) (λ view. granted_steps now answer view.stage) (find_view desk call)
    action_steps (Cancel call) = live_steps (λ view. Does (end_effect desk Cancelled)) (λ view. tt) (find_view desk call)

  -- what a step replies has its cause
  pub grant_caused : (policy : Policy K D) (event : GrantEvent K) (old : GrantState K D)
      (reply : GrantReply K) (new : GrantState K D) → GrantTransition policy event old reply new
      → IsGrantCaused (grant_cause_of policy old event) reply
  grant_caused policy event old reply new m =
      previewed-by grant_said_by OutOfMemory (λ cause r. IsGrantCaused cause r) says_own (inr refl) (grant_action_of policy old event) (action_steps policy old event) reply
      (performed-previews OutOfMemory (grant_action_of policy old event) (grant_call_of event) old reply new m)
