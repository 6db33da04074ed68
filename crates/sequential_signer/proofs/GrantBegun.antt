-- The calls that a granter's run began: each once, and how many of them are live after one more entry.
use Rattle.std.proofs.Common.{◌≡◌, ◌+◌, true, false, List, [], ◌∷◌, ◌++◌, length, refl, sym, ◌∙◌, ap}
use Rattle.sign_base.specs.Calls.{IsOnce}
use Rattle.sequential_signer.specs.Policy.{Policy}
use Rattle.sequential_signer.specs.Setup.{Setup}
use Rattle.sequential_signer.specs.Phase.{phase_of, is_begun, is_live, is_new_number}
use Rattle.sequential_signer.specs.LiveCall.{begun_calls, live_calls}
use Rattle.sequential_signer.specs.GrantTranscript.{as_reply, as_entry, as_signer, grant_call_of, grant_phase_of}
use Rattle.sequential_signer.specs.LawsOfGrants.{grant_entry}
use Rattle.sequential_signer.specs.declared.grant_event.GrantEntry.{GrantEntry}
use Rattle.sequential_signer.specs.declared.grant_event.GrantEvent.{GrantEvent}
use Rattle.sequential_signer.specs.declared.grant_event.GrantEvent.TheVariants.{Begin, Poll}
use Rattle.sequential_signer.specs.declared.grant_event.GrantReply.{GrantReply}
use Rattle.sequential_signer.specs.declared.grant_event.GrantReply.TheVariants.{Begun, Pending, NotNow, OutOfMemory, Ask, Grant, Refused, Given, Cancelled}
use Rattle.sequential_signer.proofs.BegunCalls.{passing-same, passing-fewer, passing-more, begun_calls-begun, begun_calls-same, new_absent, once-more}
use Rattle.sequential_signer.proofs.GrantEntries.{as_signer-more}
use Rattle.sequential_signer.proofs.GrantSteps.{IsGrantRun, start, more, goes_on, GrantStep, misfits, begins, waits, takes_on, expected_is_step}
use Rattle.sequential_signer.proofs.GrantCalls.{run_grant_begun}

module _ {K : Type 0} where
  -- no call is begun twice, after a step
  begun_calls-step : (entries : List (GrantEntry K)) (event : GrantEvent K) (reply : GrantReply K)
      → IsOnce (begun_calls (as_signer entries)) → GrantStep entries event reply
      → IsOnce (begun_calls (as_signer entries ++ as_entry (grant_entry event reply) ∷ []))
  begun_calls-step entries event reply once step = by_step event reply step
    where
      same : (event : GrantEvent K) (reply : GrantReply K) → is_begun (as_reply reply) ≡ false
          → IsOnce (begun_calls (as_signer entries ++ as_entry (grant_entry event reply) ∷ []))
      same event reply h = rw (begun_calls-same (as_signer entries) (as_entry (grant_entry event reply)) h) once

      unbegun : (reply : GrantReply K) → goes_on reply ≡ true → is_begun (as_reply reply) ≡ false
      unbegun Begun h = absurd (cc)
      unbegun Pending h = refl
      unbegun NotNow h = refl
      unbegun OutOfMemory h = refl
      unbegun (Ask provider) h = refl
      unbegun (Grant source) h = refl
      unbegun (Refused cause) h = refl
      unbegun (Given credential) h = refl
      unbegun Cancelled h = refl

      by_step : (event : GrantEvent K) (reply : GrantReply K) → GrantStep entries event reply
          → IsOnce (begun_calls (as_signer entries ++ as_entry (grant_entry event reply) ∷ []))
      by_step event reply (misfits _) = same event NotNow refl
      by_step event reply (begins call expires_in new) =
          rw (begun_calls-begun (as_signer entries) (as_entry (grant_entry (Begin call expires_in) Begun)) refl) (once-more call (begun_calls (as_signer entries)) once (new_absent call (as_signer entries) new))
      by_step event reply (waits call now b) = same (Poll call now) Pending refl
      by_step event reply (takes_on _ _ l g) = same event reply (unbegun reply g)

once_none : (K : Type 0) → IsOnce (begun_calls {K = K} [])
unfolding begun_calls
once_none K = tt

module _ {K D : Type 0} (policy : Policy K D) (setup : Setup D) where
  -- no call is begun twice
  pub grant_begun_once : (entries : List (GrantEntry K)) → IsGrantRun policy setup entries
      → IsOnce (begun_calls (as_signer entries))
  grant_begun_once _ start = once_none K
  grant_begun_once _ (more entries event reply run expected) =
      rw (as_signer-more entries (record { event = event; reply = reply })) (begun_calls-step entries event reply (grant_begun_once entries run) (expected_is_step policy setup entries event reply expected))

  -- the live calls after one more entry
  module _ (entries : List (GrantEntry K)) (e : GrantEntry K) where
    -- one more, where a begin is accepted
    pub live_grants-begun : is_begun (as_reply e.reply) ≡ true
        → is_new_number (as_signer entries) (grant_call_of e.event) ≡ true
        → is_live (grant_phase_of (entries ++ e ∷ []) (grant_call_of e.event)) ≡ true
        → length (live_calls (as_signer (entries ++ e ∷ []))) ≡ length (live_calls (as_signer entries)) + 1
    live_grants-begun b new l =
        let m = as_signer-more entries e in
        ap (λ es. length (live_calls es)) m
        ∙ passing-more policy setup (λ _ p. is_live p) (as_signer entries) (as_entry e) b new (ap (λ es. is_live (phase_of es (grant_call_of e.event))) (sym m) ∙ l)

    -- the same ones, where the entry's call is live before and after, or neither
    pub live_grants-same : is_begun (as_reply e.reply) ≡ false
        → is_live (grant_phase_of entries (grant_call_of e.event))
        ≡ is_live (grant_phase_of (entries ++ e ∷ []) (grant_call_of e.event))
        → live_calls (as_signer (entries ++ e ∷ [])) ≡ live_calls (as_signer entries)
    live_grants-same b l =
        let m = as_signer-more entries e in
        ap live_calls m
        ∙ passing-same policy setup (λ _ p. is_live p) (as_signer entries) (as_entry e) b (l ∙ ap (λ es. is_live (phase_of es (grant_call_of e.event))) m)

    -- one fewer, where it was live and is over
    pub live_grants-fewer : IsGrantRun policy setup entries → is_begun (as_reply e.reply) ≡ false
        → is_live (grant_phase_of entries (grant_call_of e.event)) ≡ true
        → is_live (grant_phase_of (entries ++ e ∷ []) (grant_call_of e.event)) ≡ false
        → length (live_calls (as_signer entries)) ≡ length (live_calls (as_signer (entries ++ e ∷ []))) + 1
    live_grants-fewer run b l over =
        let m = as_signer-more entries e in
        passing-fewer policy setup (λ _ p. is_live p) (as_signer entries) (as_entry e) (grant_begun_once entries run) b (run_grant_begun policy setup entries run (grant_call_of e.event) l) l (ap (λ es. is_live (phase_of es (grant_call_of e.event))) (sym m) ∙ over)
        ∙ ap (λ es. length (live_calls es) + 1) (sym m)
