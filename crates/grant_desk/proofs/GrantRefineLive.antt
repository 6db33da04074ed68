-- An effect on a granter's live call is one more entry of the transcript, where what is kept beside the calls
-- follows the
-- entry; and so is what is done by how far a look or a load gets.
use Rattle.std.proofs.Common.{◌≡◌, ℕ, true, false, List, [], ◌∷◌, ◌++◌, Option, Some, None, option_map, length, refl, sym, ◌∙◌, ap, subst, inl, inr, IsTrue}
use Rattle.sign_base.specs.declared.call_id.CallId.{CallId}
use Rattle.sign_base.specs.Calls.{same_call}
use Rattle.sequential_signer.specs.Lookup.{HandOut, Refuse}
use Rattle.sequential_signer.specs.Policy.{Policy}
use Rattle.sequential_signer.specs.SequentialCall.{Progress, Asking, Over}
use Rattle.sequential_signer.specs.Setup.{Handle}
use Rattle.sequential_signer.specs.Transcript.{is_out_of_memory}
use Rattle.sequential_signer.specs.Phase.{Ended, is_live, is_begun, is_not_now}
use Rattle.sequential_signer.specs.Hold.{begin_of, answers_of}
use Rattle.sequential_signer.specs.LiveCall.{live_in}
use Rattle.sequential_signer.specs.GrantTranscript.{as_reply, as_signer, committed_grants, grant_call_of, grant_phase_of}
use Rattle.sequential_signer.specs.ExpectedGrantReply.{grant_why, grant_progress_reply, expected_grant_reply}
use Rattle.sequential_signer.specs.GrantLegal.{grant_allocates}
use Rattle.sequential_signer.specs.declared.grant_event.GrantEntry.{GrantEntry}
use Rattle.sequential_signer.specs.declared.grant_event.GrantEvent.{GrantEvent}
use Rattle.sequential_signer.specs.declared.grant_event.GrantReply.{GrantReply}
use Rattle.sequential_signer.specs.declared.grant_event.GrantReply.TheVariants.{Ask, Grant, Refused}
use Rattle.sign_base.proofs.Calls.{same_call-refl}
use Rattle.sequential_signer.proofs.GrantEntries.{live_grant, ended_grant-not_live, grant_begin-own, phase_after-ask, phase_after-grant, phase_after-refused}
use Rattle.desk_parts.specs.Action.{TakesEffect, as_viewed, live_effect, end_effect}
use Rattle.desk_parts.specs.Change.{ChangesOnlyCall}
use Rattle.desk_parts.specs.LiveCallView.{stored_view}
use Rattle.desk_parts.specs.Tables.{setup_of, find_call, phase_of_stage}
use Rattle.desk_parts.specs.declared.call_record.Stage.{Stage}
use Rattle.desk_parts.specs.declared.call_record.Stage.TheVariants as stage
use Rattle.desk_parts.specs.declared.tables.LiveCallView.{LiveCallView}
use Rattle.desk_parts.proofs.LiveRecord.{stage_lives, Lives}
use Rattle.grant_desk.specs.GrantAction.{GrantPerforms, progress_action}
use Rattle.grant_desk.specs.GrantDeskState.{GrantState, GrantRecord, granted_view, GrantRepresents}
use Rattle.grant_desk.proofs.GrantRefine.{GrantFollows, GrantRefines, grant_refines-more, grant_refines-lost, grant_refines-not_now, grant_follows-same, grants_stay, grants_end}
use Rattle.grant_desk.proofs.GrantLive.{grant_says}

-- the live call at another stage, with this number of answers
abbrev viewed : CallId → Handle → GrantRecord → Stage → ℕ → LiveCallView
viewed call h r stage answers = record (stored_view call h r) { stage = stage; answers = answers }

module _ {K D : Type 0} (policy : Policy K D) (old : GrantState K D) (entries : List (GrantEntry K))
    (stood : GrantRepresents policy old entries)
    (event : GrantEvent K) (h : Handle) (r : GrantRecord) (lives : Lives old (grant_call_of event) h r) where
  abbrev before : List (GrantEntry K)
  before = committed_grants entries

  abbrev call : CallId
  call = grant_call_of event

  abbrev entry : GrantReply K → GrantEntry K
  entry reply = record { event = event; reply = reply }

  abbrev after : GrantReply K → List (GrantEntry K)
  after reply = committed_grants entries ++ record { event = event; reply = reply } ∷ []

  -- a reply that takes its call on: it is the expected one, committed, and no begin
  pub record IsExpected (reply : GrantReply K) : Type 0 where
    pub expected : expected_grant_reply policy (setup_of old) before event ≡ reply
    pub committed : is_out_of_memory (as_reply reply) ≡ false
    pub fits : is_not_now (as_reply reply) ≡ false
    pub no_begin : is_begun (as_reply reply) ≡ false

  own : same_call (grant_call_of event) (grant_call_of event) ≡ true
  own = same_call-refl (grant_call_of event)

  -- where the call stays live
  pub grant_refines-live : (desk : GrantState K D) (s : Stage) (answers : ℕ) (reply : GrantReply K)
      → IsExpected reply → GrantFollows policy old entries desk (entry reply)
      → grant_phase_of (after reply) call ≡ phase_of_stage s
      → length (answers_of (as_signer (after reply)) call) ≡ answers
      → (given : GrantReply K) (new : GrantState K D)
      → TakesEffect (live_effect desk (viewed call h r s answers) reply) call given new
      → GrantRefines policy old entries (entry given) new
  grant_refines-live desk s answers reply goes follows phase count given new m =
      let kept : option_map (as_viewed (viewed call h r s answers)) (find_call call desk.calls) ≡ Some (as_viewed (viewed call h r s answers) r) =
      ap (option_map (as_viewed (viewed call h r s answers))) (ap (find_call call) follows.calls ∙ lives.found) in
      let begin : begin_of (as_signer (after reply)) call ≡ Some (granted_view r).begin = grant_begin-own before (entry reply) call own goes.no_begin ∙ (grant_says policy old entries stood call h r lives).begin in
      rw (m.0)
      (grant_refines-more policy old entries stood (entry reply) (sym goes.expected) goes.committed goes.fits desk new follows
      (Some (as_viewed (viewed call h r s answers) r)) (subst (λ (o : Option GrantRecord). ChangesOnlyCall desk call o new) kept m.1)
      (live_by_stage s ∙ sym (live_grant (after reply) call (phase_of_stage s) answers (granted_view r).begin phase count begin))
      (grants_stay policy old entries stood (entry reply) r (as_viewed (viewed call h r s answers) r) goes.no_begin
      ((grant_says policy old entries stood call h r lives).live ∙ sym (ap is_live phase ∙ stage_lives s)) lives.found))
    where
      live_by_stage : (s : Stage)
          → Some (granted_view (as_viewed (viewed call h r s answers) r))
          ≡ live_in (phase_of_stage s) answers (granted_view r).begin
      live_by_stage stage.Unpolled = refl
      live_by_stage stage.Queued = refl
      live_by_stage stage.Loading = refl
      live_by_stage stage.Signing = refl

  -- where the call ends
  pub grant_refines-end : (reply : GrantReply K) → IsExpected reply
      → GrantFollows policy old entries old (entry reply) → grant_phase_of (after reply) call ≡ Ended
      → (given : GrantReply K) (new : GrantState K D) → TakesEffect (end_effect old reply) call given new
      → GrantRefines policy old entries (entry given) new
  grant_refines-end reply goes follows phase given new m =
      rw (m.0)
      (grant_refines-more policy old entries stood (entry reply) (sym goes.expected) goes.committed goes.fits old new follows None m.1
      (sym (ended_grant-not_live (after reply) call phase))
      (grants_end policy old entries stood (entry reply) r goes.no_begin (grant_says policy old entries stood call h r lives).live (ap is_live phase) lives.found))

  -- what is known of an event at which a look or a load gets this far; `handed` is the desk where a source is
  -- handed out
  pub record ProgressLaw (handed : K → GrantState K D) (answers : ℕ) (progress : Option (Progress K)) : Type 0 where
    pub expected : expected_grant_reply policy (setup_of old) before event ≡ grant_progress_reply progress
    pub answered : (reply : GrantReply K) → is_not_now (as_reply reply) ≡ false
        → length (answers_of (as_signer (after reply)) call) ≡ answers
    pub handing : (source : K) (left : Option K) → progress ≡ Some (Over (HandOut source) left)
        → GrantFollows policy old entries (handed source) (entry (Grant source))
    pub allocating : (source : K) (left : Option K) → progress ≡ Some (Over (HandOut source) left)
        → IsTrue (grant_allocates policy (setup_of old) before event)

  -- what is done is one more entry
  pub grant_refines-progress : (handed : K → GrantState K D) (answers : ℕ) (progress : Option (Progress K))
      → ProgressLaw handed answers progress → (reply : GrantReply K) (new : GrantState K D)
      → GrantPerforms (progress_action handed old (viewed call h r r.stage answers) progress) call old reply
      new
      → GrantRefines policy old entries (entry reply) new
  grant_refines-progress handed answers None law reply new m = rw (m.0, m.1) (grant_refines-not_now policy old entries stood event law.expected)
  grant_refines-progress handed answers (Some (Asking provider)) law reply new m =
      grant_refines-live old stage.Loading answers (Ask provider) (record { expected = law.expected; committed = refl; fits = refl; no_begin = refl })
      (grant_follows-same policy old entries stood (entry (Ask provider)) refl refl) (phase_after-ask before event call own provider) (law.answered (Ask provider) refl) reply new m
  grant_refines-progress handed answers (Some (Over (HandOut c) left)) law reply new (inl m) =
      grant_refines-live (handed c) stage.Signing answers (Grant c) (record { expected = law.expected; committed = refl; fits = refl; no_begin = refl })
      (law.handing c left refl) (phase_after-grant before event call own c) (law.answered (Grant c) refl) reply new m
  grant_refines-progress handed answers (Some (Over (HandOut c) left)) law reply new (inr m) = rw (m.0, m.1) (grant_refines-lost policy old entries stood event (law.allocating c left refl))
  grant_refines-progress handed answers (Some (Over (Refuse cause) left)) law reply new m =
      grant_refines-end (Refused (grant_why cause)) (record { expected = law.expected; committed = refl; fits = refl; no_begin = refl })
      (grant_follows-same policy old entries stood (entry (Refused (grant_why cause))) refl refl) (phase_after-refused before event call own (grant_why cause)) reply new m
