-- The expected reply of a granter row by row, by how far the event's call is, and what each reply stores.
use Rattle.std.proofs.Common.{◌≡◌, ℕ, ℤ, true, false, cond, List, Option, Some, None, refl, ◌∙◌, ap, IsTrue}
use Rattle.std.specs.declared.time.Duration.{Duration}
use Rattle.sign_base.specs.declared.call_id.CallId.{CallId}
use Rattle.sequential_signer.specs.Policy.{Policy}
use Rattle.sequential_signer.specs.Setup.{Setup, cache_of}
use Rattle.sequential_signer.specs.Phase.{Phase, Unknown, Unpolled, Queued, Loading, Signing, Ended, is_live, is_waiting, is_loading, is_signing, is_new_number}
use Rattle.sequential_signer.specs.GrantTranscript.{as_signer, grant_call_of, grant_phase_of, grant_event_fits}
use Rattle.sequential_signer.specs.GrantSource.{stored_by}
use Rattle.sequential_signer.specs.ExpectedGrantReply.{grant_progress_reply, look_at, load_at, check_granted, fitting_grant_reply, grant_reply_at, expected_grant_reply}
use Rattle.sequential_signer.specs.GrantLegal.{is_grant, grant_allocates}
use Rattle.sequential_signer.specs.declared.event.Answer.{Answer}
use Rattle.sequential_signer.specs.declared.event.Answer.TheVariants as answered
use Rattle.sequential_signer.specs.declared.grant_event.GrantEntry.{GrantEntry}
use Rattle.sequential_signer.specs.declared.grant_event.GrantEvent.{GrantEvent}
use Rattle.sequential_signer.specs.declared.grant_event.GrantEvent.TheVariants.{Begin, Poll, Provided, Granted, Cancel}
use Rattle.sequential_signer.specs.declared.grant_event.GrantReply.{GrantReply}
use Rattle.sequential_signer.specs.declared.grant_event.GrantReply.TheVariants.{Begun, Pending, NotNow, Grant, Refused, Cancelled}
use Rattle.sequential_signer.specs.declared.grant_event.GrantWhy.TheVariants.{Service}
use Rattle.sequential_signer.specs.declared.grant_event.Made.TheVariants.{Made, Failed}
use Rattle.sequential_signer.proofs.LegalStep.{is_busy}

-- a busy call is live, and does not wait
busy_live : (p : Phase) → is_busy p ≡ true → is_live p ≡ true
busy_live Loading h = refl
busy_live Signing h = refl
busy_live Unknown h = absurd (cc)
busy_live Unpolled h = absurd (cc)
busy_live Queued h = absurd (cc)
busy_live Ended h = absurd (cc)

busy_not_waiting : (p : Phase) → is_busy p ≡ true → is_waiting p ≡ false
busy_not_waiting Loading h = refl
busy_not_waiting Signing h = refl
busy_not_waiting Unknown h = absurd (cc)
busy_not_waiting Unpolled h = absurd (cc)
busy_not_waiting Queued h = absurd (cc)
busy_not_waiting Ended h = absurd (cc)

waiting_live : (p : Phase) → is_waiting p ≡ true → is_live p ≡ true
waiting_live Unpolled h = refl
waiting_live Queued h = refl
waiting_live Unknown h = absurd (cc)
waiting_live Loading h = absurd (cc)
waiting_live Signing h = absurd (cc)
waiting_live Ended h = absurd (cc)

module _ {K D : Type 0} (policy : Policy K D) (setup : Setup D) (entries : List (GrantEntry K)) where
  -- the reply to an event that does not fit how far its call is, and to one under no handle
  misfit_by : (event : GrantEvent K) → grant_event_fits setup entries event ≡ false → (o : Option ℕ)
      → grant_reply_at policy setup entries event o ≡ NotNow
  misfit_by event f None = refl
  misfit_by event f (Some i) = rw f refl

  pub grant_misfit : (event : GrantEvent K) → grant_event_fits setup entries event ≡ false
      → expected_grant_reply policy setup entries event ≡ NotNow
  unfolding expected_grant_reply
  grant_misfit event f = misfit_by event f (cache_of setup (grant_call_of event))

  pub grant_misfit-unset : (event : GrantEvent K) → cache_of setup (grant_call_of event) ≡ None
      → expected_grant_reply policy setup entries event ≡ NotNow
  unfolding expected_grant_reply
  grant_misfit-unset event h = rw h refl

  -- and to one that fits
  pub grant_fit : (event : GrantEvent K) (i : ℕ) → cache_of setup (grant_call_of event) ≡ Some i
      → grant_event_fits setup entries event ≡ true
      → expected_grant_reply policy setup entries event ≡ fitting_grant_reply policy setup entries i event
  unfolding expected_grant_reply
  grant_fit event i at f = rw (at, f) refl

  module _ (call : CallId) (i : ℕ) (at : cache_of setup call ≡ Some i) where
    -- a begin fits where its number is new
    pub begin_fits-new : (expires_in : Option Duration) → is_new_number (as_signer entries) call ≡ true
        → grant_event_fits setup entries (Begin call expires_in) ≡ true
    begin_fits-new expires_in new = rw (at, new) refl

    pub expected_begin : (expires_in : Option Duration) → is_new_number (as_signer entries) call ≡ true
        → expected_grant_reply policy setup entries (Begin call expires_in) ≡ Begun
    expected_begin expires_in new = grant_fit (Begin call expires_in) i at (begin_fits-new expires_in new)

    pub begin_allocates : (expires_in : Option Duration) → is_new_number (as_signer entries) call ≡ true
        → IsTrue (grant_allocates policy setup entries (Begin call expires_in))
    begin_allocates expires_in new = rw (begin_fits-new expires_in new) refl

    -- a poll of a call that waits looks at its cache
    pub expected_look : (now : ℤ) → is_waiting (grant_phase_of entries call) ≡ true
        → expected_grant_reply policy setup entries (Poll call now)
        ≡ grant_progress_reply (look_at policy setup entries i call now)
    expected_look now w =
        grant_fit (Poll call now) i at (waiting_live (grant_phase_of entries call) w)
        ∙ ap (λ v. cond v (grant_progress_reply (look_at policy setup entries i call now)) Pending) w

    pub look_allocates : (now : ℤ) (source : K) → is_waiting (grant_phase_of entries call) ≡ true
        → expected_grant_reply policy setup entries (Poll call now) ≡ Grant source
        → IsTrue (grant_allocates policy setup entries (Poll call now))
    look_allocates now source w h = rw (waiting_live (grant_phase_of entries call) w, h) refl

    -- a poll of a call whose answer is awaited waits
    pub expected_pending : (now : ℤ) → is_busy (grant_phase_of entries call) ≡ true
        → expected_grant_reply policy setup entries (Poll call now) ≡ Pending
    expected_pending now b =
        grant_fit (Poll call now) i at (busy_live (grant_phase_of entries call) b)
        ∙ ap (λ v. cond v (grant_progress_reply (look_at policy setup entries i call now)) Pending) (busy_not_waiting (grant_phase_of entries call) b)

    -- a provider's answer takes the load on
    pub expected_load : (now : ℤ) (answer : Answer K) → grant_phase_of entries call ≡ Loading
        → expected_grant_reply policy setup entries (Provided call now answer)
        ≡ grant_progress_reply (load_at policy setup entries i call (answer, now))
    expected_load now answer h = grant_fit (Provided call now answer) i at (ap is_loading h)

    pub found_allocates : (now : ℤ) (c : K) → grant_phase_of entries call ≡ Loading
        → IsTrue (grant_allocates policy setup entries (Provided call now (answered.Found c)))
    found_allocates now c h = rw h refl

    -- a granter's credential is checked, and its error refuses
    pub expected_check : (now : ℤ) (c : K) → grant_phase_of entries call ≡ Signing
        → expected_grant_reply policy setup entries (Granted call now (Made c)) ≡ check_granted policy c now
    expected_check now c h = grant_fit (Granted call now (Made c)) i at (ap is_signing h)

    pub made_allocates : (now : ℤ) (c : K) → grant_phase_of entries call ≡ Signing
        → IsTrue (grant_allocates policy setup entries (Granted call now (Made c)))
    made_allocates now c h = rw h refl

    pub expected_failure : (now : ℤ) (e : ℕ) → grant_phase_of entries call ≡ Signing
        → expected_grant_reply policy setup entries (Granted call now (Failed e)) ≡ Refused (Service e)
    expected_failure now e h = grant_fit (Granted call now (Failed e)) i at (ap is_signing h)

    -- a live call is cancelled
    pub expected_cancel : is_live (grant_phase_of entries call) ≡ true
        → expected_grant_reply policy setup entries (Cancel call) ≡ Cancelled
    expected_cancel l = grant_fit (Cancel call) i at l

-- a reply that hands out no source stores nothing
pub stored_by-no_grant : {K : Type 0} (event : GrantEvent K) (reply : GrantReply K) → is_grant reply ≡ false
    → stored_by event reply ≡ None
stored_by-no_grant (Provided call now (answered.Found c)) (Grant source) h = absurd (cc)
stored_by-no_grant _ _ h = refl
