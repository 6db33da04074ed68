-- What a step does is one more entry of the transcript.
use Rattle.std.proofs.Common.{◌≡◌, ℕ, ℤ, false, List, [], ◌∷◌, ◌++◌, Some, None, option_map, refl, ap, subst}
use Rattle.std.proofs.lemmas.List.{append-nil, append_assoc}
use Rattle.sign_base.specs.declared.call_id.CallId.{CallId}
use Rattle.sequential_signer.specs.Policy.{Policy}
use Rattle.sequential_signer.specs.Setup.{Setup, Handle, cache_of}
use Rattle.sequential_signer.specs.Transcript.{committed_entries, call_of}
use Rattle.sequential_signer.specs.Phase.{phase_of, event_fits, is_live}
use Rattle.sequential_signer.specs.Legal.{IsLegal, IsLegalAfter, IsLegalEntry}
use Rattle.sequential_signer.specs.declared.event.Answer.{Answer}
use Rattle.sequential_signer.specs.declared.event.Entry.{Entry}
use Rattle.sequential_signer.specs.declared.event.Event.{Event}
use Rattle.sequential_signer.specs.declared.event.Event.TheVariants.{Begin, Poll, Provided, Signed, Cancel}
use Rattle.sequential_signer.specs.declared.event.Reply.{Reply}
use Rattle.sequential_signer.specs.declared.event.Verdict.{Verdict}
use Rattle.sign_desk.specs.DeskState.{DeskState, Represents}
use Rattle.desk_parts.specs.Tables.{setup_of, find_call}
use Rattle.desk_parts.specs.WellFormedSetup.{IsWellFormedSetup}
use Rattle.desk_parts.specs.LiveCallView.{stored_view, find_view}
use Rattle.sign_desk.specs.Action.{Action, Performs}
use Rattle.sign_desk.specs.Transition.{poll_action, provided_action, load_action, signed_action, cancel_action, live_action, Transition}
use Rattle.sign_desk.specs.Records.{CallRecord}
use Rattle.desk_parts.specs.declared.tables.LiveCallView.{LiveCallView}
use Rattle.sign_desk.proofs.Refine.{Refines, refines-not_now}
use Rattle.sign_desk.proofs.RefineBegin.{refines-begin}
use Rattle.desk_parts.proofs.LiveCases.{lives-cases}
use Rattle.desk_parts.proofs.LiveRecord.{Lives, not_loading, not_signing}
use Rattle.sign_desk.proofs.LiveRecord.{not_live, misfit, misfit_unset}
use Rattle.sign_desk.proofs.RefinePoll.{refines-poll}
use Rattle.sign_desk.proofs.RefineLoad.{refines-provided}
use Rattle.sign_desk.proofs.RefineEnd.{refines-signed, refines-cancel}

module _ {K D : Type 0} (policy : Policy K D) where
  module _ (old : DeskState K D) (entries : List (Entry K)) (stood : Represents policy old entries)
      (set_up : IsWellFormedSetup (setup_of old)) where
    -- events of a call, but for a begin, with what is done at them where the call is live
    data IsOfCall : Event K → (LiveCallView → Action K D) → Type 0 where
      poll : (call : CallId) (now : ℤ)
          → IsOfCall (Poll call now) (λ view. poll_action policy old now view view.stage)
      provided : (call : CallId) (now : ℤ) (answer : Answer K)
          → IsOfCall (Provided call now answer)
          (λ view. provided_action (load_action policy old now answer view) view.stage)
      signed : (call : CallId) (answer : Verdict)
          → IsOfCall (Signed call answer) (λ view. signed_action old answer view view.stage)
      cancel : (call : CallId) → IsOfCall (Cancel call) (λ view. cancel_action old view view.stage)

    unfit_of : (event : Event K) (action : LiveCallView → Action K D) → IsOfCall event action
        → is_live (phase_of (committed_entries entries) (call_of event)) ≡ false
        → event_fits (setup_of old) (committed_entries entries) event ≡ false
    unfit_of event action (poll call now) l = l
    unfit_of event action (provided call now answer) l = not_loading (phase_of (committed_entries entries) call) l
    unfit_of event action (signed call answer) l = not_signing (phase_of (committed_entries entries) call) l
    unfit_of event action (cancel call) l = l

    module _ (reply : Reply K) (new : DeskState K D) where
      -- the change is what is done at the event, and it is one more entry
      abbrev IsDone : Event K → Action K D → Type 0
      IsDone event action = Performs action (call_of event) old reply new

      abbrev IsEntry : Event K → Type 0
      IsEntry event = Refines policy old entries (record { event = event; reply = reply }) new

      at_live : (event : Event K) (action : LiveCallView → Action K D) → IsOfCall event action
          → (h : Handle) (r : CallRecord) → Lives old (call_of event) h r
          → IsDone event (action (stored_view (call_of event) h r)) → IsEntry event
      at_live event action (poll call now) h r lives m = refines-poll policy old entries stood call h r lives now r.stage refl reply new m
      at_live event action (provided call now answer) h r lives m = refines-provided policy old entries stood call h r lives now answer r.stage refl reply new m
      at_live event action (signed call answer) h r lives m = refines-signed policy old entries stood call h r lives answer r.stage refl reply new m
      at_live event action (cancel call) h r lives m = refines-cancel policy old entries stood call h r lives r.stage refl reply new m

      by_call : (event : Event K) (action : LiveCallView → Action K D) → IsOfCall event action
          → IsDone event (live_action action (find_view old (call_of event))) → IsEntry event
      by_call event action of m =
          lives-cases old set_up (call_of event) (λ v. IsDone event (live_action action v) → IsEntry event)
          (λ under k. rw (k.0, k.1) (refines-not_now policy old entries stood event (misfit_unset policy old entries stood event under)))
          (λ h under found k. unfit h.cache (ap (option_map (λ (x : Handle). x.cache)) under) found k)
          (λ h r lives k. at_live event action of h r lives k) m
        where
          unfit : (i : ℕ) → cache_of (setup_of old) (call_of event) ≡ Some i
              → find_call (call_of event) old.calls ≡ None → IsDone event (live_action action None)
              → IsEntry event
          unfit i at found k = rw (k.0, k.1) (refines-not_now policy old entries stood event (misfit policy old entries stood event i at (unfit_of event action of (not_live policy old entries stood (call_of event) i at found))))

      -- what a step does is one more entry
      pub refines-step : (event : Event K) → Transition policy event old reply new
          → Refines policy old entries (record { event = event; reply = reply }) new
      refines-step (Begin call head expires_in) m = refines-begin policy old entries stood call head expires_in reply new m
      refines-step (Poll call now) m = by_call (Poll call now) _ (poll call now) m
      refines-step (Provided call now answer) m = by_call (Provided call now answer) _ (provided call now answer) m
      refines-step (Signed call answer) m = by_call (Signed call answer) _ (signed call answer) m
      refines-step (Cancel call) m = by_call (Cancel call) _ (cancel call) m

  legal_last : (setup : Setup D) (before entries : List (Entry K)) (e : Entry K)
      → IsLegalAfter policy setup before (entries ++ e ∷ [])
      → IsLegalEntry policy setup (committed_entries (before ++ entries)) e
  legal_last setup before [] e l = rw append-nil (l.0)
  legal_last setup before (x ∷ rest) e l = subst (λ es. IsLegalEntry policy setup (committed_entries es) e) (append_assoc before (x ∷ []) rest) (legal_last setup (before ++ x ∷ []) rest e l.1)

  legal_entry : (setup : Setup D) (entries : List (Entry K)) (e : Entry K)
      → IsLegal policy setup (entries ++ e ∷ []) → IsLegalEntry policy setup (committed_entries entries) e
  unfolding IsLegal
  legal_entry setup entries e l = legal_last setup [] entries e l

  -- the reply is the expected one, or it allocates and ran out of memory
  pub entry-legal : (old new : DeskState K D) (entries : List (Entry K)) (e : Entry K)
      → setup_of new ≡ setup_of old → Represents policy new (entries ++ e ∷ [])
      → IsLegalEntry policy (setup_of old) (committed_entries entries) e
  entry-legal old new entries e same next = subst (λ s. IsLegalEntry policy s (committed_entries entries) e) same (legal_entry (setup_of new) entries e next.legal)
