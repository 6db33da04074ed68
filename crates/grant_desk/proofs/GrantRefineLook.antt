-- What is done at a poll of a granter's call is one more entry of the transcript.
use Rattle.std.proofs.Common.{◌≡◌, ◌+◌, ℤ, true, List, [], ◌∷◌, ◌++◌, length, refl, sym, ◌∙◌, ap}
use Rattle.sign_base.specs.declared.call_id.CallId.{CallId}
use Rattle.sequential_signer.specs.Policy.{Policy}
use Rattle.sequential_signer.specs.Setup.{Handle}
use Rattle.sequential_signer.specs.Phase.{is_live, is_waiting}
use Rattle.sequential_signer.specs.LiveCall.{live_calls}
use Rattle.sequential_signer.specs.GrantTranscript.{as_signer, committed_grants, grant_phase_of}
use Rattle.sequential_signer.specs.ExpectedGrantReply.{grant_progress_reply, expected_grant_reply}
use Rattle.sequential_signer.specs.declared.grant_event.GrantEntry.{GrantEntry}
use Rattle.sequential_signer.specs.declared.grant_event.GrantEvent.TheVariants.{Poll}
use Rattle.sequential_signer.specs.declared.grant_event.GrantReply.{GrantReply}
use Rattle.sequential_signer.specs.declared.grant_event.GrantReply.TheVariants.{Pending, Grant}
use Rattle.sign_base.proofs.Calls.{same_call-refl}
use Rattle.sequential_signer.proofs.LegalStep.{is_busy}
use Rattle.sequential_signer.proofs.GrantBegun.{live_grants-same}
use Rattle.sequential_signer.proofs.GrantEntries.{grant_answers-own_none, phase_after-pending, live_after-pending}
use Rattle.sequential_signer.proofs.GrantRows.{expected_look, look_allocates, expected_pending}
use Rattle.desk_parts.specs.Change.{one_if}
use Rattle.desk_parts.specs.HoldProgress.{desk_lookup}
use Rattle.desk_parts.specs.LiveCallView.{stored_view}
use Rattle.desk_parts.specs.Tables.{setup_of, find_call, phase_of_stage}
use Rattle.desk_parts.specs.declared.call_record.Stage.{Stage}
use Rattle.desk_parts.specs.declared.call_record.Stage.TheVariants as stage
use Rattle.desk_parts.proofs.LiveRecord.{Lives}
use Rattle.grant_desk.specs.GrantAction.{GrantPerforms, look_action, grant_poll_action}
use Rattle.grant_desk.specs.GrantDeskState.{GrantState, GrantRecord, GrantRepresents}
use Rattle.grant_desk.proofs.GrantRefine.{GrantRefines, grant_refines-more, grant_follows-cached, grant_follows-same, sources_same}
use Rattle.desk_parts.proofs.OneChange.{keeps-all}
use Rattle.grant_desk.proofs.GrantLive.{grant_at, grant_says, grant_phase-is, grant_look-is}
use Rattle.grant_desk.proofs.GrantRefineLive.{ProgressLaw, grant_refines-progress}

module _ {K D : Type 0} (policy : Policy K D) (old : GrantState K D) (entries : List (GrantEntry K))
    (stood : GrantRepresents policy old entries)
    (call : CallId) (h : Handle) (r : GrantRecord) (lives : Lives old call h r) (now : ℤ) where
  abbrev before : List (GrantEntry K)
  before = committed_grants entries

  abbrev entry : GrantReply K → GrantEntry K
  entry reply = record { event = Poll call now; reply = reply }

  -- a poll of a call whose answer is awaited leaves all as it is
  waits : is_busy (grant_phase_of before call) ≡ true → GrantRefines policy old entries (entry Pending) old
  waits b =
      let l : live_calls (as_signer (before ++ record { event = Poll call now; reply = Pending } ∷ [])) ≡ live_calls (as_signer before) = live_grants-same policy (setup_of old) before (entry Pending) refl (ap is_live (sym (phase_after-pending before call now b))) in
      grant_refines-more policy old entries stood (entry Pending) (sym (expected_pending policy (setup_of old) before call h.cache (grant_at policy old entries stood call h r lives) now b)) refl refl old old
      (grant_follows-same policy old entries stood (entry Pending) refl refl) (find_call call old.calls) (keeps-all old call)
      (stood.calls call ∙ sym (live_after-pending before call now b))
      (ap (λ (xs : List CallId). length xs + one_if (find_call call old.calls)) (sym l))

  -- a poll of a call that has not looked yet
  module _ (waiting : is_waiting (grant_phase_of before call) ≡ true) where
    looks : expected_grant_reply policy (setup_of old) before (Poll call now)
        ≡ grant_progress_reply (desk_lookup policy old now (stored_view call h r))
    looks = expected_look policy (setup_of old) before call h.cache (grant_at policy old entries stood call h r lives) now waiting ∙ ap grant_progress_reply (sym (grant_look-is policy old entries stood call h r lives now))

    law : ProgressLaw policy old entries stood (Poll call now) h r lives (λ c. old) r.answers
        (desk_lookup policy old now (stored_view call h r))
    law = record {
      expected = looks;
      answered = λ reply n. ap length (grant_answers-own_none before (entry reply) call (same_call-refl call) refl) ∙ (grant_says policy old entries stood call h r lives).answers;
      handing = λ c left e. grant_follows-cached policy old entries stood (entry (Grant c)) old.caches refl refl (sources_same policy old entries stood (entry (Grant c)) refl);
      allocating = λ c left e. look_allocates policy (setup_of old) before call h.cache (grant_at policy old entries stood call h r lives) now c waiting (looks ∙ ap grant_progress_reply e);
    }

    refines-look : (reply : GrantReply K) (new : GrantState K D)
        → GrantPerforms (look_action policy old now (stored_view call h r)) call old reply new
        → GrantRefines policy old entries (entry reply) new
    refines-look reply new m = grant_refines-progress policy old entries stood (Poll call now) h r lives (λ c. old) r.answers (desk_lookup policy old now (stored_view call h r)) law reply new m

  -- a poll of a live call
  pub grant_refines-poll : (s : Stage) → r.stage ≡ s → (reply : GrantReply K) (new : GrantState K D)
      → GrantPerforms (grant_poll_action (look_action policy old now (stored_view call h r)) s) call old reply
      new
      → GrantRefines policy old entries (entry reply) new
  grant_refines-poll stage.Unpolled e reply new m = refines-look (ap is_waiting (grant_phase-is policy old entries stood call h r lives _ (ap phase_of_stage e))) reply new m
  grant_refines-poll stage.Queued e reply new m = refines-look (ap is_waiting (grant_phase-is policy old entries stood call h r lives _ (ap phase_of_stage e))) reply new m
  grant_refines-poll stage.Loading e reply new m = rw (m.0, m.1) (waits (ap is_busy (grant_phase-is policy old entries stood call h r lives _ (ap phase_of_stage e))))
  grant_refines-poll stage.Signing e reply new m = rw (m.0, m.1) (waits (ap is_busy (grant_phase-is policy old entries stood call h r lives _ (ap phase_of_stage e))))
