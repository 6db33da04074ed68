-- What is known of a granter's live call, and the replies to events that do not fit.
use Rattle.std.proofs.Common.{◌≡◌, ℤ, false, List, Some, None, option_map, option_and_then, slice_get, length, refl, sym, ◌∙◌, ap}
use Rattle.sign_base.specs.declared.call_id.CallId.{CallId}
use Rattle.sequential_signer.specs.Policy.{Policy}
use Rattle.sequential_signer.specs.Setup.{Handle, cache_of, rule_of}
use Rattle.sequential_signer.specs.Phase.{Phase, is_live}
use Rattle.sequential_signer.specs.Hold.{begin_of, answers_of}
use Rattle.sequential_signer.specs.GrantTranscript.{as_signer, committed_grants, grant_call_of, grant_phase_of}
use Rattle.sequential_signer.specs.GrantSource.{grant_source}
use Rattle.sequential_signer.specs.ExpectedGrantReply.{look_at, expected_grant_reply}
use Rattle.sequential_signer.specs.declared.grant_event.GrantEntry.{GrantEntry}
use Rattle.sequential_signer.specs.declared.grant_event.GrantEvent.{GrantEvent}
use Rattle.sequential_signer.specs.declared.grant_event.GrantReply.TheVariants.{NotNow}
use Rattle.sequential_signer.proofs.GrantCalls.{not_live_grant}
use Rattle.sequential_signer.proofs.GrantRows.{grant_misfit-unset}
use Rattle.desk_parts.specs.HoldProgress.{desk_lookup}
use Rattle.desk_parts.specs.LiveCallView.{stored_view}
use Rattle.desk_parts.specs.Tables.{setup_of, find_call, phase_of_stage}
use Rattle.desk_parts.proofs.LiveRecord.{RecordSays, record_says, Lives}
use Rattle.grant_desk.specs.GrantDeskState.{GrantState, GrantRecord, granted_view, GrantRepresents}
use Rattle.grant_desk.proofs.GrantRefine.{grants_ran}

module _ {K D : Type 0} (policy : Policy K D) (old : GrantState K D) (entries : List (GrantEntry K))
    (stood : GrantRepresents policy old entries) where
  abbrev before : List (GrantEntry K)
  before = committed_grants entries

  -- a call without a record is not live
  pub grant_not_live : (call : CallId) → find_call call old.calls ≡ None
      → is_live (grant_phase_of before call) ≡ false
  grant_not_live call f = not_live_grant policy (setup_of old) before (grants_ran policy old entries stood) call (sym (stood.calls call) ∙ ap (option_map granted_view) f)

  -- an event under no handle does not fit
  pub grant_unset : (event : GrantEvent K) → slice_get old.handles (grant_call_of event).handle ≡ None
      → expected_grant_reply policy (setup_of old) before event ≡ NotNow
  grant_unset event h = grant_misfit-unset policy (setup_of old) before event (ap (option_map (λ (x : Handle). x.cache)) h)

  module _ (call : CallId) (h : Handle) (r : GrantRecord) (lives : Lives old call h r) where
    -- its cache
    pub grant_at : cache_of (setup_of old) call ≡ Some h.cache
    grant_at = ap (option_map (λ (x : Handle). x.cache)) lives.under

    -- its rule
    pub grant_rule : rule_of (setup_of old) call ≡ Some lives.rule
    grant_rule = ap (option_and_then (λ (x : Handle). slice_get old.rules x.rule)) lives.under ∙ lives.ruled

    -- what its cache holds
    pub grant_cached : slice_get old.caches h.cache ≡ Some (grant_source (setup_of old) before h.cache)
    grant_cached = stood.caches h.cache ∙ ap (option_map (λ _. grant_source (setup_of old) before h.cache)) lives.loads

    -- what the transcript says of it
    pub grant_says : RecordSays (granted_view r) (grant_phase_of before call)
        (length (answers_of (as_signer before) call)) (begin_of (as_signer before) call)
    grant_says = record_says (granted_view r) (grant_phase_of before call) (length (answers_of (as_signer before) call)) (begin_of (as_signer before) call) (ap (option_map granted_view) (sym lives.found) ∙ stood.calls call)

    -- its phase
    pub grant_phase-is : (p : Phase) → phase_of_stage r.stage ≡ p → grant_phase_of before call ≡ p
    grant_phase-is p e = grant_says.phase ∙ e

    -- the look on what the desk keeps is that of the transcript
    pub grant_look-is : (now : ℤ)
        → desk_lookup policy old now (stored_view call h r)
        ≡ look_at policy (setup_of old) before h.cache call now
    grant_look-is now = rw (lives.loads, grant_cached, lives.ruled, grant_rule, grant_says.begin) refl
