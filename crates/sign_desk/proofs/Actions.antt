-- What all that a desk does has in common: it leaves the records of other calls, says what becomes of its
-- call's, and takes
-- memory only for a step.
use Rattle.std.proofs.Common.{◌≡◌, ℤ, Bool, true, false, cond, IsTrue, Option, Some, None, option_map, length, refl, sym, ◌∙◌, ap, subst}
use Rattle.sign_base.specs.declared.call_id.CallId.{CallId}
use Rattle.sign_base.specs.Calls.{is_first}
use Rattle.sequential_signer.specs.Policy.{Policy}
use Rattle.sequential_signer.specs.Lookup.{HandOut, Refuse}
use Rattle.sequential_signer.specs.SequentialCall.{Progress, Asking, Over}
use Rattle.sequential_signer.specs.Setup.{Handle}
use Rattle.sequential_signer.specs.Transcript.{call_of}
use Rattle.sequential_signer.specs.declared.event.Event.{Event}
use Rattle.sequential_signer.specs.declared.event.Event.TheVariants.{Begin, Poll, Provided, Signed, Cancel}
use Rattle.sequential_signer.specs.declared.event.Reply.{Reply}
use Rattle.sequential_signer.specs.declared.event.Reply.TheVariants.{Begun, NotNow, Refused, Done, Cancelled}
use Rattle.sequential_signer.specs.declared.event.Verdict.{Verdict}
use Rattle.sequential_signer.specs.declared.event.Verdict.TheVariants.{Accepted, Failed}
use Rattle.desk_parts.specs.Action.{Leaves, Does, Allocates}
use Rattle.desk_parts.specs.Begin.{can_begin, new_record, with_begin}
use Rattle.desk_parts.specs.Change.{one_if}
use Rattle.desk_parts.specs.HoldProgress.{desk_lookup, desk_load, with_answer}
use Rattle.desk_parts.specs.LiveCallView.{stored_view, find_view}
use Rattle.desk_parts.specs.Queue.{is_held_queue, queue_at}
use Rattle.desk_parts.specs.Tables.{find_call}
use Rattle.desk_parts.specs.declared.call_record.Stage.{Stage}
use Rattle.desk_parts.specs.declared.call_record.Stage.TheVariants as stage
use Rattle.desk_parts.specs.declared.tables.LiveCallView.{LiveCallView}
use Rattle.desk_parts.proofs.Views.{view-cases}
use Rattle.sign_desk.specs.Action.{Action, Effect}
use Rattle.sign_desk.specs.Cause.{is_step}
use Rattle.sign_desk.specs.DeskState.{DeskState}
use Rattle.sign_desk.specs.HoldAction.{Hold, first_hold, waited_hold, loading_hold, hold_action}
use Rattle.sign_desk.specs.LiveCount.{LiveAfter}
use Rattle.sign_desk.specs.Records.{CallRecord}
use Rattle.sign_desk.specs.Transition.{first_poll_action, later_poll_action, poll_action, load_action, provided_action, accept_action, signed_action, cancel_action, live_action, action_of}

-- what a reply says of its call's record before it and after it
abbrev pub RecordsBy : {K : Type 0} → Reply K → Option CallRecord → Option CallRecord → Type 0
RecordsBy Begun found live = Unit {0}
RecordsBy (Refused why wake) found live = (one_if found ≡ 1) × (live ≡ None)
RecordsBy (Done head) found live = (one_if found ≡ 1) × (live ≡ None)
RecordsBy (Cancelled wake) found live = (one_if found ≡ 1) × (live ≡ None)
RecordsBy reply found live = (one_if found ≡ 1) × (one_if live ≡ 1)

module _ {K D : Type 0} (old : DeskState K D) where
  -- the records stay but for the call's
  abbrev pub KeepsRecords : CallId → Effect K D → Type 0
  KeepsRecords call effect = (effect.desk.calls ≡ old.calls) × RecordsBy effect.reply (find_call call old.calls) effect.live

  -- what is done to the call is like all that is done
  abbrev pub IsPlain : CallId → Action K D → Type 0
  IsPlain call (Leaves reply) = LiveAfter reply (length old.calls) (length old.calls)
  IsPlain call (Does effect) = KeepsRecords call effect
  IsPlain call (Allocates effect) = KeepsRecords call effect × IsTrue (is_step effect.reply)

  -- at a live call
  module _ (view : LiveCallView) (r : CallRecord) (found : find_call view.call old.calls ≡ Some r) where
    one : one_if (find_call view.call old.calls) ≡ 1
    one = ap one_if found

    stays : (desk : DeskState K D) → desk.calls ≡ old.calls → (change : CallRecord → CallRecord)
        → one_if (option_map change (find_call view.call desk.calls)) ≡ 1
    stays desk same change = ap (λ cs. one_if (option_map change (find_call view.call cs))) same ∙ ap (λ o. one_if (option_map change o)) found

    hold_plain : (hold : Hold K D) → hold.asking_desk.calls ≡ old.calls
        → ((c : K) → (hold.signing_desk c).calls ≡ old.calls) → hold.ended_desk.calls ≡ old.calls
        → (progress : Option (Progress K)) → IsPlain view.call (hold_action hold view progress)
    hold_plain hold a s o None = refl
    hold_plain hold a s o (Some (Asking k)) = (a, (one, stays hold.asking_desk a _))
    hold_plain hold a s o (Some (Over (HandOut c) left)) = ((s c, (one, stays (hold.signing_desk c) (s c) _)), refl)
    hold_plain hold a s o (Some (Over (Refuse why) left)) = (o, (one, refl))

    first_plain : (b : Bool) (look : Option (Progress K))
        → IsPlain view.call (first_poll_action old view b look)
    first_plain true look = (refl, (one, stays old refl _))
    first_plain false look = hold_plain (first_hold old view) refl (λ c. refl) refl look

    later_plain : (b : Bool) (look : Option (Progress K))
        → IsPlain view.call (later_poll_action old view b look)
    later_plain true look = hold_plain (waited_hold old view) refl (λ c. refl) refl look
    later_plain false look = refl

    poll_plain : (policy : Policy K D) (now : ℤ) (s : Stage)
        → IsPlain view.call (poll_action policy old now view s)
    poll_plain policy now stage.Unpolled = first_plain (is_held_queue (queue_at view.cache old.queues)) (desk_lookup policy old now view)
    poll_plain policy now stage.Queued = later_plain (is_first view.call (queue_at view.cache old.queues)) (desk_lookup policy old now view)
    poll_plain policy now stage.Loading = refl
    poll_plain policy now stage.Signing = refl

    provided_plain : (load : Action K D) → IsPlain view.call load → (s : Stage)
        → IsPlain view.call (provided_action load s)
    provided_plain load k stage.Loading = k
    provided_plain load k stage.Unpolled = refl
    provided_plain load k stage.Queued = refl
    provided_plain load k stage.Signing = refl

    signed_plain : (answer : Verdict) (s : Stage) → IsPlain view.call (signed_action old answer view s)
    signed_plain (Accepted candidate) stage.Signing = subst (λ (o : Option CallRecord). IsPlain view.call (accept_action old candidate o)) (sym found) ((refl, (one, refl)), refl)
    signed_plain (Failed e) stage.Signing = (refl, (one, refl))
    signed_plain (Accepted candidate) stage.Unpolled = refl
    signed_plain (Accepted candidate) stage.Queued = refl
    signed_plain (Accepted candidate) stage.Loading = refl
    signed_plain (Failed e) stage.Unpolled = refl
    signed_plain (Failed e) stage.Queued = refl
    signed_plain (Failed e) stage.Loading = refl

    cancel_plain : (s : Stage) → IsPlain view.call (cancel_action old view s)
    cancel_plain stage.Unpolled = (refl, (one, refl))
    cancel_plain stage.Queued = (refl, (one, refl))
    cancel_plain stage.Loading = (refl, (one, refl))
    cancel_plain stage.Signing = (refl, (one, refl))

  live_plain : (call : CallId) (action : LiveCallView → Action K D)
      → ((h : Handle) (r : CallRecord) → find_call call old.calls ≡ Some r
      → IsPlain call (action (stored_view call h r)))
      → IsPlain call (live_action action (find_view old call))
  live_plain call action each = view-cases old call (λ v. IsPlain call (live_action action v)) (λ _. refl) (λ _ _ _. refl) (λ h r _ found. each h r found)

  begin_plain : (b : Bool) (call : CallId) (live : CallRecord)
      → IsPlain call
      (cond b (Allocates (record { reply = Begun; desk = with_begin call old; live = Some live }))
      (Leaves NotNow))
  begin_plain true call live = ((refl, tt), refl)
  begin_plain false call live = refl

  -- what is done at an event
  pub action-plain : (policy : Policy K D) (event : Event K)
      → IsPlain (call_of event) (action_of policy old event)
  action-plain policy (Begin call head expires_in) = begin_plain (can_begin old call) call (new_record head expires_in)
  action-plain policy (Poll call now) = live_plain call (λ view. poll_action policy old now view view.stage) (λ h r f. poll_plain (stored_view call h r) r f policy now r.stage)
  action-plain policy (Provided call now answer) =
      live_plain call (λ view. provided_action (load_action policy old now answer view) view.stage)
      (λ h r f. provided_plain (stored_view call h r) r f (load_action policy old now answer (stored_view call h r))
      (hold_plain (with_answer (stored_view call h r)) r f (loading_hold old (stored_view call h r)) refl (λ c. refl) refl (desk_load policy old now (stored_view call h r) answer)) r.stage)
  action-plain policy (Signed call answer) = live_plain call (λ view. signed_action old answer view view.stage) (λ h r f. signed_plain (stored_view call h r) r f answer r.stage)
  action-plain policy (Cancel call) = live_plain call (λ view. cancel_action old view view.stage) (λ h r f. cancel_plain (stored_view call h r) r f r.stage)
