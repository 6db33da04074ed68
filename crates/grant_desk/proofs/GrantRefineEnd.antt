-- What is done at the granter's answer and at a cancel is one more entry of the transcript.
use Rattle.std.proofs.Common.{◌≡◌, ℤ, Bool, true, false, cond, List, Some, refl, ◌∙◌, ap, inl, inr}
use Rattle.sign_base.specs.declared.call_id.CallId.{CallId}
use Rattle.sign_base.specs.Calls.{same_call}
use Rattle.sequential_signer.specs.Policy.{Policy}
use Rattle.sequential_signer.specs.Setup.{Handle, cache_of}
use Rattle.sequential_signer.specs.Phase.{Signing, is_signing}
use Rattle.sequential_signer.specs.GrantTranscript.{committed_grants, grant_phase_of}
use Rattle.sequential_signer.specs.declared.grant_event.GrantEntry.{GrantEntry}
use Rattle.sequential_signer.specs.declared.grant_event.GrantEvent.TheVariants.{Granted, Cancel}
use Rattle.sequential_signer.specs.declared.grant_event.GrantReply.{GrantReply}
use Rattle.sequential_signer.specs.declared.grant_event.GrantReply.TheVariants.{NotNow, Refused, Given, Cancelled}
use Rattle.sequential_signer.specs.declared.grant_event.GrantWhy.TheVariants.{Service, Stale}
use Rattle.sequential_signer.specs.declared.grant_event.Made.{Made as MadeOrFailed}
use Rattle.sequential_signer.specs.declared.grant_event.Made.TheVariants.{Made, Failed}
use Rattle.sign_base.proofs.Calls.{same_call-refl}
use Rattle.sequential_signer.proofs.GrantEntries.{phase_after-refused, phase_after-given, phase_after-cancelled}
use Rattle.sequential_signer.proofs.GrantRows.{grant_misfit, expected_check, made_allocates, expected_failure, expected_cancel}
use Rattle.desk_parts.specs.Action.{TakesEffect, Does, Allocates, end_effect}
use Rattle.desk_parts.specs.Tables.{setup_of, phase_of_stage}
use Rattle.desk_parts.specs.declared.call_record.Stage.{Stage}
use Rattle.desk_parts.specs.declared.call_record.Stage.TheVariants as stage
use Rattle.desk_parts.proofs.LiveRecord.{Lives}
use Rattle.grant_desk.specs.GrantAction.{GrantPerforms, granted_action}
use Rattle.grant_desk.specs.GrantDeskState.{GrantState, GrantRecord, GrantRepresents}
use Rattle.grant_desk.proofs.GrantRefine.{GrantRefines, grant_refines-lost, grant_refines-not_now, grant_follows-same}
use Rattle.grant_desk.proofs.GrantLive.{grant_at, grant_says, grant_phase-is}
use Rattle.grant_desk.proofs.GrantRefineLive.{grant_refines-end}

module _ {K D : Type 0} (policy : Policy K D) (old : GrantState K D) (entries : List (GrantEntry K))
    (stood : GrantRepresents policy old entries)
    (call : CallId) (h : Handle) (r : GrantRecord) (lives : Lives old call h r) where
  abbrev before : List (GrantEntry K)
  before = committed_grants entries

  at : cache_of (setup_of old) call ≡ Some h.cache
  at = grant_at policy old entries stood call h r lives

  own : same_call call call ≡ true
  own = same_call-refl call

  module _ (now : ℤ) where
    abbrev answered : MadeOrFailed K → GrantReply K → GrantEntry K
    answered answer reply = record { event = Granted call now answer; reply = reply }

    -- an answer to a call that is not at the granter does not fit
    unfit : (answer : MadeOrFailed K) (s : Stage) → r.stage ≡ s → is_signing (phase_of_stage s) ≡ false
        → GrantRefines policy old entries (answered answer NotNow) old
    unfit answer s e l =
        grant_refines-not_now policy old entries stood (Granted call now answer)
        (grant_misfit policy (setup_of old) before (Granted call now answer) (ap is_signing (grant_phase-is policy old entries stood call h r lives (phase_of_stage s) (ap phase_of_stage e)) ∙ l))

    module _ (signing : grant_phase_of before call ≡ Signing) where
      -- a credential that was made, by whether it is valid now
      refines-made : (c : K) (v : Bool) → policy.valid_at c now now ≡ v
          → (reply : GrantReply K) (new : GrantState K D)
          → GrantPerforms
          (cond v (Allocates (end_effect old (Given c))) (Does (end_effect old (Refused (Stale now))))) call
          old reply new
          → GrantRefines policy old entries (answered (Made c) reply) new
      refines-made c true v reply new (inl m) =
          grant_refines-end policy old entries stood (Granted call now (Made c)) h r lives (Given c)
          (record { expected = expected_check policy (setup_of old) before call h.cache at now c signing ∙ ap (λ (b : Bool). cond b (Given c) (Refused (Stale now))) v; committed = refl; fits = refl; no_begin = refl })
          (grant_follows-same policy old entries stood (answered (Made c) (Given c)) refl refl) (phase_after-given before (Granted call now (Made c)) call own c) reply new m
      refines-made c true v reply new (inr m) = rw (m.0, m.1) (grant_refines-lost policy old entries stood (Granted call now (Made c)) (made_allocates policy (setup_of old) before call h.cache at now c signing))
      refines-made c false v reply new m =
          grant_refines-end policy old entries stood (Granted call now (Made c)) h r lives (Refused (Stale now))
          (record { expected = expected_check policy (setup_of old) before call h.cache at now c signing ∙ ap (λ (b : Bool). cond b (Given c) (Refused (Stale now))) v; committed = refl; fits = refl; no_begin = refl })
          (grant_follows-same policy old entries stood (answered (Made c) (Refused (Stale now))) refl refl) (phase_after-refused before (Granted call now (Made c)) call own (Stale now)) reply new m

    -- the granter's answer to a live call
    pub grant_refines-granted : (answer : MadeOrFailed K) (s : Stage) → r.stage ≡ s
        → (reply : GrantReply K) (new : GrantState K D)
        → GrantPerforms (granted_action policy old now answer s) call old reply new
        → GrantRefines policy old entries (answered answer reply) new
    grant_refines-granted (Made c) stage.Signing e reply new m = refines-made (grant_phase-is policy old entries stood call h r lives Signing (ap phase_of_stage e)) c (policy.valid_at c now now) refl reply new m
    grant_refines-granted (Failed x) stage.Signing e reply new m =
        grant_refines-end policy old entries stood (Granted call now (Failed x)) h r lives (Refused (Service x))
        (record { expected = expected_failure policy (setup_of old) before call h.cache at now x (grant_phase-is policy old entries stood call h r lives Signing (ap phase_of_stage e)); committed = refl; fits = refl; no_begin = refl })
        (grant_follows-same policy old entries stood (answered (Failed x) (Refused (Service x))) refl refl) (phase_after-refused before (Granted call now (Failed x)) call own (Service x)) reply new m
    grant_refines-granted (Made c) stage.Unpolled e reply new m = rw (m.0, m.1) (unfit (Made c) stage.Unpolled e refl)
    grant_refines-granted (Made c) stage.Queued e reply new m = rw (m.0, m.1) (unfit (Made c) stage.Queued e refl)
    grant_refines-granted (Made c) stage.Loading e reply new m = rw (m.0, m.1) (unfit (Made c) stage.Loading e refl)
    grant_refines-granted (Failed x) stage.Unpolled e reply new m = rw (m.0, m.1) (unfit (Failed x) stage.Unpolled e refl)
    grant_refines-granted (Failed x) stage.Queued e reply new m = rw (m.0, m.1) (unfit (Failed x) stage.Queued e refl)
    grant_refines-granted (Failed x) stage.Loading e reply new m = rw (m.0, m.1) (unfit (Failed x) stage.Loading e refl)

  -- a cancel of a live call
  pub grant_refines-cancel : (reply : GrantReply K) (new : GrantState K D)
      → TakesEffect (end_effect old Cancelled) call reply new
      → GrantRefines policy old entries (record { event = Cancel call; reply = reply }) new
  grant_refines-cancel reply new m =
      let e : GrantEntry K = record { event = Cancel call; reply = Cancelled } in
      grant_refines-end policy old entries stood (Cancel call) h r lives Cancelled
      (record { expected = expected_cancel policy (setup_of old) before call h.cache at (grant_says policy old entries stood call h r lives).live; committed = refl; fits = refl; no_begin = refl })
      (grant_follows-same policy old entries stood e refl refl) (phase_after-cancelled before (Cancel call) call own) reply new m
