-- The steps of a granter: each event with its expected reply, by how far its call is; runs of them, and legal
-- transcripts.
use Rattle.std.proofs.Common.{◌≡◌, ℕ, ℤ, Bool, true, false, cond, List, [], ◌∷◌, ◌++◌, Option, Some, None, refl, sym, ◌∙◌, ap, subst, inl, inr}
use Rattle.std.specs.declared.time.Duration.{Duration}
use Rattle.sign_base.specs.declared.call_id.CallId.{CallId}
use Rattle.sequential_signer.specs.Lookup.{HandOut, Refuse}
use Rattle.sequential_signer.specs.Policy.{Policy}
use Rattle.sequential_signer.specs.SequentialCall.{Progress, Asking, Over}
use Rattle.sequential_signer.specs.Setup.{Setup, cache_of}
use Rattle.sequential_signer.specs.Transcript.{is_out_of_memory}
use Rattle.sequential_signer.specs.Phase.{Phase, Unknown, Unpolled, Queued, Loading, Signing, Ended, is_live, is_waiting, is_loading, is_signing, is_new_number}
use Rattle.sequential_signer.specs.GrantTranscript.{as_reply, as_signer, committed_grants, grant_call_of, grant_phase_of, grant_event_fits}
use Rattle.sequential_signer.specs.ExpectedGrantReply.{grant_why, grant_progress_reply, look_at, load_at, fitting_grant_reply, grant_reply_at, expected_grant_reply}
use Rattle.sequential_signer.specs.GrantLegal.{IsLegalGrant, IsLegalGrantEntry}
use Rattle.sequential_signer.specs.declared.grant_event.GrantEntry.{GrantEntry}
use Rattle.sequential_signer.specs.declared.grant_event.GrantEvent.{GrantEvent}
use Rattle.sequential_signer.specs.declared.grant_event.GrantEvent.TheVariants.{Begin, Poll, Provided, Granted, Cancel}
use Rattle.sequential_signer.specs.declared.grant_event.GrantReply.{GrantReply}
use Rattle.sequential_signer.specs.declared.grant_event.GrantReply.TheVariants.{Begun, Pending, NotNow, Ask, Grant, Refused, Given, Cancelled}
use Rattle.sequential_signer.specs.declared.grant_event.GrantWhy.TheVariants.{Stale, Service}
use Rattle.sequential_signer.specs.declared.grant_event.Made.TheVariants.{Made, Failed}
use Rattle.sign_base.proofs.Truth.{and_right}
use Rattle.sequential_signer.proofs.LegalAfter.{legal_after-more, legal_after-keeps, legal_split}
use Rattle.sequential_signer.proofs.LegalStep.{is_busy}
use Rattle.sequential_signer.proofs.GrantReplies.{expected_grant_in_memory}
use Rattle.sequential_signer.proofs.GrantRuns.{committed_grants-more, committed_grants-lost, committed_grants-none}

module _ {K D : Type 0} where
  -- each event with its expected reply, one after another
  pub data IsGrantRun (policy : Policy K D) (setup : Setup D) : List (GrantEntry K) → Type 0 where
    start : IsGrantRun policy setup []
    more : (entries : List (GrantEntry K)) (event : GrantEvent K) (reply : GrantReply K)
        → IsGrantRun policy setup entries → reply ≡ expected_grant_reply policy setup entries event
        → IsGrantRun policy setup (entries ++ record { event = event; reply = reply } ∷ [])

-- whether a reply takes a live call on: it asks, hands out a source, or ends the call
abbrev pub goes_on : {K : Type 0} → GrantReply K → Bool
goes_on (Ask provider) = true
goes_on (Grant source) = true
goes_on (Refused cause) = true
goes_on (Given credential) = true
goes_on Cancelled = true
goes_on _ = false

module _ {K : Type 0} (entries : List (GrantEntry K)) where
  -- what an event and its expected reply are, by how far the event's call is
  pub data GrantStep : GrantEvent K → GrantReply K → Type 0 where
    misfits : (event : GrantEvent K) → GrantStep event NotNow
    begins : (call : CallId) (expires_in : Option Duration) → is_new_number (as_signer entries) call ≡ true
        → GrantStep (Begin call expires_in) Begun
    waits : (call : CallId) (now : ℤ) → is_busy (grant_phase_of entries call) ≡ true
        → GrantStep (Poll call now) Pending
    takes_on : (event : GrantEvent K) (reply : GrantReply K)
        → is_live (grant_phase_of entries (grant_call_of event)) ≡ true → goes_on reply ≡ true
        → GrantStep event reply

  loading_live : (p : Phase) → is_loading p ≡ true → is_live p ≡ true
  loading_live Loading h = refl
  loading_live Unknown h = absurd (cc)
  loading_live Unpolled h = absurd (cc)
  loading_live Queued h = absurd (cc)
  loading_live Signing h = absurd (cc)
  loading_live Ended h = absurd (cc)

  signing_live : (p : Phase) → is_signing p ≡ true → is_live p ≡ true
  signing_live Signing h = refl
  signing_live Unknown h = absurd (cc)
  signing_live Unpolled h = absurd (cc)
  signing_live Queued h = absurd (cc)
  signing_live Loading h = absurd (cc)
  signing_live Ended h = absurd (cc)

  progress_step : (event : GrantEvent K) → is_live (grant_phase_of entries (grant_call_of event)) ≡ true
      → (o : Option (Progress K)) → GrantStep event (grant_progress_reply o)
  progress_step event l None = misfits event
  progress_step event l (Some (Asking provider)) = takes_on event (Ask provider) l refl
  progress_step event l (Some (Over (HandOut c) cache)) = takes_on event (Grant c) l refl
  progress_step event l (Some (Over (Refuse cause) cache)) = takes_on event (Refused (grant_why cause)) l refl

  poll_step : (call : CallId) (now : ℤ) (p : Phase) → grant_phase_of entries call ≡ p → is_live p ≡ true
      → (o : Option (Progress K))
      → GrantStep (Poll call now) (cond (is_waiting p) (grant_progress_reply o) Pending)
  poll_step call now Unpolled e l o = progress_step (Poll call now) (ap is_live e) o
  poll_step call now Queued e l o = progress_step (Poll call now) (ap is_live e) o
  poll_step call now Loading e l o = waits call now (ap is_busy e)
  poll_step call now Signing e l o = waits call now (ap is_busy e)
  poll_step call now Unknown e l o = absurd (cc)
  poll_step call now Ended e l o = absurd (cc)

  given_step : (call : CallId) (now : ℤ) (c : K) → is_signing (grant_phase_of entries call) ≡ true
      → (v : Bool) → GrantStep (Granted call now (Made c)) (cond v (Given c) (Refused (Stale now)))
  given_step call now c s true = takes_on (Granted call now (Made c)) (Given c) (signing_live (grant_phase_of entries call) s) refl
  given_step call now c s false = takes_on (Granted call now (Made c)) (Refused (Stale now)) (signing_live (grant_phase_of entries call) s) refl

  module _ {D : Type 0} (policy : Policy K D) (setup : Setup D) where
    fitting_step : (event : GrantEvent K) (i : ℕ) → grant_event_fits setup entries event ≡ true
        → GrantStep event (fitting_grant_reply policy setup entries i event)
    fitting_step (Begin call expires_in) i fits = begins call expires_in (and_right _ _ fits)
    fitting_step (Poll call now) i fits = poll_step call now (grant_phase_of entries call) refl fits (look_at policy setup entries i call now)
    fitting_step (Provided call now answer) i fits = progress_step (Provided call now answer) (loading_live (grant_phase_of entries call) fits) (load_at policy setup entries i call (answer, now))
    fitting_step (Granted call now (Made c)) i fits = given_step call now c fits (policy.valid_at c now now)
    fitting_step (Granted call now (Failed e)) i fits = takes_on (Granted call now (Failed e)) (Refused (Service e)) (signing_live (grant_phase_of entries call) fits) refl
    fitting_step (Cancel call) i fits = takes_on (Cancel call) Cancelled fits refl

    step_at : (event : GrantEvent K) (o : Option ℕ) (f : Bool) → grant_event_fits setup entries event ≡ f
        → GrantStep event (grant_reply_at policy setup entries event o)
    step_at event None f _ = misfits event
    step_at event (Some i) true fits = rw fits (fitting_step event i fits)
    step_at event (Some i) false fits = rw fits (misfits event)

    -- an event with its expected reply is one of these
    pub expected_grant_step : (event : GrantEvent K)
        → GrantStep event (expected_grant_reply policy setup entries event)
    unfolding expected_grant_reply
    expected_grant_step event = step_at event (cache_of setup (grant_call_of event)) _ refl

-- runs and legal transcripts
module _ {K D : Type 0} (policy : Policy K D) (setup : Setup D) where
  -- one more event with its expected reply leaves a run
  pub grant_run-more : (entries : List (GrantEntry K)) (e : GrantEntry K) → IsGrantRun policy setup entries
      → e.reply ≡ expected_grant_reply policy setup entries e.event
      → IsGrantRun policy setup (entries ++ e ∷ [])
  grant_run-more entries e run expected = more entries e.event e.reply run expected

  run_keeps : (before : List (GrantEntry K)) (e : GrantEntry K)
      → IsGrantRun policy setup (committed_grants before)
      → IsLegalGrantEntry policy setup (committed_grants before) e
      → IsGrantRun policy setup (committed_grants (before ++ e ∷ []))
  run_keeps before e run (inl due) =
      rw (committed_grants-more before e (ap (λ (r : GrantReply K). is_out_of_memory (as_reply r)) due ∙ expected_grant_in_memory policy setup (committed_grants before) e.event))
      (grant_run-more (committed_grants before) e run due)
  run_keeps before e run (inr lost) = rw (committed_grants-lost before e (ap (λ (r : GrantReply K). is_out_of_memory (as_reply r)) lost.0)) run

  -- the committed entries of a legal transcript are a run
  pub legal_grant_run : (entries : List (GrantEntry K)) → IsLegalGrant policy setup entries
      → IsGrantRun policy setup (committed_grants entries)
  unfolding IsLegalGrant
  legal_grant_run entries l = legal_after-keeps committed_grants (IsLegalGrantEntry policy setup) (IsGrantRun policy setup) run_keeps [] entries (rw committed_grants-none start) l

  -- one more legal entry leaves a legal transcript
  pub legal_grant-more : (entries : List (GrantEntry K)) (e : GrantEntry K)
      → IsLegalGrant policy setup entries → IsLegalGrantEntry policy setup (committed_grants entries) e
      → IsLegalGrant policy setup (entries ++ e ∷ [])
  unfolding IsLegalGrant
  legal_grant-more entries e l h = legal_after-more committed_grants (IsLegalGrantEntry policy setup) [] entries e l h

  pub legal_grant_entry : (entries : List (GrantEntry K)) (e : GrantEntry K)
      → IsLegalGrant policy setup (entries ++ e ∷ [])
      → IsLegalGrantEntry policy setup (committed_grants entries) e
  unfolding IsLegalGrant
  legal_grant_entry entries e l = (legal_split committed_grants (IsLegalGrantEntry policy setup) [] entries (e ∷ []) l).1.0

  -- each step of a run is one of these
  pub expected_is_step : (entries : List (GrantEntry K)) (event : GrantEvent K) (reply : GrantReply K)
      → reply ≡ expected_grant_reply policy setup entries event → GrantStep entries event reply
  expected_is_step entries event reply expected = subst (λ (r : GrantReply K). GrantStep entries event r) (sym expected) (expected_grant_step entries policy setup event)
