-- A granter's call that loads had fewer answers than there are providers.
use Rattle.std.proofs.Common.{◌≡◌, ◌<◌, ℕ, ℤ, Bool, true, false, cond, List, [], ◌∷◌, ◌++◌, Option, Some, None, slice_get, length, refl, sym, ◌∙◌, ap, subst}
use Rattle.sign_base.specs.declared.call_id.CallId.{CallId}
use Rattle.sign_base.specs.Calls.{same_call}
use Rattle.sequential_signer.specs.Lookup.{HandOut, Refuse, cache_lookup, check_refreshed}
use Rattle.sequential_signer.specs.Policy.{Policy}
use Rattle.sequential_signer.specs.SequentialCall.{Progress, Asking, Over, call_load}
use Rattle.sequential_signer.specs.Setup.{Setup, cache_of, rule_of}
use Rattle.sequential_signer.specs.Transcript.{entries_of}
use Rattle.sequential_signer.specs.Phase.{Phase, Unpolled, phase_of, phase_in, is_loading, is_waiting}
use Rattle.sequential_signer.specs.Hold.{BeginInput, begin_of, answers_of, input_by}
use Rattle.sequential_signer.specs.ExpectedReply.{hold_progress}
use Rattle.sequential_signer.specs.GrantTranscript.{as_signer, grant_call_of, grant_phase_of, grant_event_fits}
use Rattle.sequential_signer.specs.GrantSource.{grant_source}
use Rattle.sequential_signer.specs.ExpectedGrantReply.{grant_progress_reply, look_at, load_by, load_at, fitting_grant_reply, grant_reply_at, expected_grant_reply}
use Rattle.sequential_signer.specs.declared.event.Answer.{Answer}
use Rattle.sequential_signer.specs.declared.event.Loader.{Loader}
use Rattle.sequential_signer.specs.declared.grant_event.GrantEntry.{GrantEntry}
use Rattle.sequential_signer.specs.declared.grant_event.GrantEvent.{GrantEvent}
use Rattle.sequential_signer.specs.declared.grant_event.GrantEvent.TheVariants.{Begin, Poll, Provided, Granted, Cancel}
use Rattle.sequential_signer.specs.declared.grant_event.GrantReply.{GrantReply}
use Rattle.sequential_signer.specs.declared.grant_event.GrantReply.TheVariants.{Begun, Pending, NotNow, OutOfMemory, Ask, Grant, Refused, Given, Cancelled}
use Rattle.sequential_signer.specs.declared.grant_event.GrantWhy.TheVariants.{Stale}
use Rattle.sequential_signer.specs.declared.grant_event.Made.TheVariants.{Made, Failed}
use Rattle.sign_base.proofs.Calls.{same_call-eq, same_call-refl}
use Rattle.sequential_signer.proofs.GrantEntries.{grant_phase-other, grant_answers-other, grant_answers-own_none, answers_after-provided, answers_after-not_now, phase_after-grant, phase_after-refused, phase_after-given, phase_after-cancelled, phase_after-begun, phase_after-not_now, phase_after-pending}
use Rattle.sequential_signer.proofs.GrantCalls.{GrantCallInvariant, unpolled_grant, grant_stands, run_grant_unpolled, run_grant_blank}
use Rattle.sequential_signer.proofs.GrantSteps.{IsGrantRun, start, more, goes_on, GrantStep, misfits, begins, waits, takes_on, expected_is_step}
use Rattle.desk_parts.specs.Places.{provider_count}
use Rattle.desk_parts.proofs.LoadAsks.{load-asks, look-asks}

module _ {K D : Type 0} (policy : Policy K D) (k : ℕ) (loader : Loader) where
  -- a look asks where the load after no answers does
  look_asks : (cache : Option K) (rule : Option D) (begin : Option BeginInput) (now : ℤ)
      → hold_progress policy cache (Some loader) (input_by rule begin (Some now) []) ≡ Some (Asking k)
      → 0 < provider_count loader
  look_asks cache None begin now h = absurd (cc)
  look_asks cache (Some rule) None now h = absurd (cc)
  look_asks cache (Some rule) (Some begin) now h = look-asks cache k (check_refreshed policy rule begin.duration) loader [] (cache_lookup policy cache rule begin.duration now) (cc)

  -- and so does a load
  answers_ask : (rule : Option D) (begin : Option BeginInput) (answers : List (Answer K × ℤ))
      → load_by policy (Some loader) rule begin answers ≡ Some (Asking k)
      → length answers < provider_count loader
  answers_ask None begin answers h = absurd (cc)
  answers_ask (Some rule) None answers h = absurd (cc)
  answers_ask (Some rule) (Some begin) answers h =
      let e : Asking k ≡ call_load policy None loader rule begin.duration answers = cc in
      load-asks None k (check_refreshed policy rule begin.duration) loader answers e

-- a look or a load whose reply asks
asks : {K : Type 0} (k : ℕ) (o : Option (Progress K)) → Ask k ≡ grant_progress_reply o → o ≡ Some (Asking k)
asks k None h = absurd (cc)
asks {K = K} k (Some (Asking j)) h = let e : j ≡ k = cc in ap (λ (n : ℕ). let p : Progress K = Asking n in Some p) e
asks k (Some (Over (HandOut c) left)) h = absurd (cc)
asks k (Some (Over (Refuse cause) left)) h = absurd (cc)

module _ {K D : Type 0} (policy : Policy K D) (setup : Setup D) where
  module _ (entries : List (GrantEntry K)) (run : IsGrantRun policy setup entries) (i : ℕ) (loader : Loader)
      (there : slice_get setup.loaders i ≡ Some loader) where
    abbrev after : GrantEvent K → GrantReply K → List (GrantEntry K)
    after event reply = entries ++ record { event = event; reply = reply } ∷ []

    -- so few are the answers to a call
    abbrev IsFew : List (GrantEntry K) → CallId → Type 0
    IsFew es call = length (answers_of (as_signer es) call) < provider_count loader

    unpolled_answers : (call : CallId) → GrantCallInvariant entries call Unpolled
        → answers_of (as_signer entries) call ≡ []
    unpolled_answers call (unpolled_grant u) = u.answers

    -- a call that waits was answered nothing
    waiting_answers : (call : CallId) → is_waiting (grant_phase_of entries call) ≡ true
        → answers_of (as_signer entries) call ≡ []
    waiting_answers call w = unpolled_answers call (subst (GrantCallInvariant entries call) (run_grant_unpolled policy setup entries run call w) (grant_stands policy setup entries run call))

    -- a poll that asks looked, and an answer that asks loads on
    poll_asks : (call : CallId) (now : ℤ) (k : ℕ) (w : Bool) → is_waiting (grant_phase_of entries call) ≡ w
        → Ask k ≡ cond w (grant_progress_reply (look_at policy setup entries i call now)) Pending
        → IsFew (after (Poll call now) (Ask k)) call
    poll_asks call now k false w h = absurd (cc)
    poll_asks call now k true w h =
        let none : answers_of (as_signer (entries ++ record { event = Poll call now; reply = Ask k } ∷ [])) call ≡ [] = grant_answers-own_none entries (record { event = Poll call now; reply = Ask k }) call (same_call-refl call) refl ∙ waiting_answers call w in
        let look : hold_progress policy (grant_source setup entries i) (Some loader) (input_by (rule_of setup call) (begin_of (as_signer entries) call) (Some now) []) ≡ Some (Asking k) =
        ap (λ (l : Option Loader). hold_progress policy (grant_source setup entries i) l (input_by (rule_of setup call) (begin_of (as_signer entries) call) (Some now) [])) (sym there) ∙ asks k (look_at policy setup entries i call now) h in
        rw none (look_asks policy k loader (grant_source setup entries i) (rule_of setup call) (begin_of (as_signer entries) call) now look)

    answer_asks : (call : CallId) (now : ℤ) (answer : Answer K) (k : ℕ)
        → Ask k ≡ grant_progress_reply (load_at policy setup entries i call (answer, now))
        → IsFew (after (Provided call now answer) (Ask k)) call
    answer_asks call now answer k h =
        let load : load_by policy (Some loader) (rule_of setup call) (begin_of (as_signer entries) call) (answers_of (as_signer entries) call ++ (answer, now) ∷ []) ≡ Some (Asking k) =
        ap (λ (l : Option Loader). load_by policy l (rule_of setup call) (begin_of (as_signer entries) call) (answers_of (as_signer entries) call ++ (answer, now) ∷ [])) (sym there) ∙ asks k (load_at policy setup entries i call (answer, now)) h in
        rw (answers_after-provided entries call now answer (Ask k) refl) (answers_ask policy k loader (rule_of setup call) (begin_of (as_signer entries) call) (answers_of (as_signer entries) call ++ (answer, now) ∷ []) load)

    checked_not : (k : ℕ) (now : ℤ) (c : K) (v : Bool)
        → Ask k ≡ cond v (let r : GrantReply K = Given c in r) (Refused (Stale now)) → ⊥
    checked_not k now c true h = cc
    checked_not k now c false h = cc

    fitting_asks : (event : GrantEvent K) (k : ℕ) → Ask k ≡ fitting_grant_reply policy setup entries i event
        → IsFew (after event (Ask k)) (grant_call_of event)
    fitting_asks (Begin call expires_in) k h = absurd (cc)
    fitting_asks (Poll call now) k h = poll_asks call now k (is_waiting (grant_phase_of entries call)) refl h
    fitting_asks (Provided call now answer) k h = answer_asks call now answer k h
    fitting_asks (Granted call now (Made c)) k h = absurd (checked_not k now c (policy.valid_at c now now) h)
    fitting_asks (Granted call now (Failed e)) k h = absurd (cc)
    fitting_asks (Cancel call) k h = absurd (cc)

    -- after an entry that asks the answers are few
    asks_few : (event : GrantEvent K) (k : ℕ) → cache_of setup (grant_call_of event) ≡ Some i
        → Ask k ≡ expected_grant_reply policy setup entries event
        → IsFew (after event (Ask k)) (grant_call_of event)
    unfolding expected_grant_reply
    asks_few event k at h = by_fit (grant_event_fits setup entries event) (h ∙ ap (λ (o : Option ℕ). grant_reply_at policy setup entries event o) at)
      where
        by_fit : (f : Bool) → Ask k ≡ cond f (fitting_grant_reply policy setup entries i event) NotNow
            → IsFew (after event (Ask k)) (grant_call_of event)
        by_fit true h = fitting_asks event k h
        by_fit false h = absurd (cc)

    -- after an entry about the call, where it was so before
    own_few : (event : GrantEvent K) (reply : GrantReply K) → GrantStep entries event reply
        → reply ≡ expected_grant_reply policy setup entries event
        → cache_of setup (grant_call_of event) ≡ Some i
        → (is_loading (grant_phase_of entries (grant_call_of event)) ≡ true
        → IsFew entries (grant_call_of event))
        → is_loading (grant_phase_of (after event reply) (grant_call_of event)) ≡ true
        → IsFew (after event reply) (grant_call_of event)
    own_few event reply (misfits _) expected at few l =
        let own : same_call (grant_call_of event) (grant_call_of event) ≡ true = same_call-refl (grant_call_of event) in
        rw (answers_after-not_now entries event (grant_call_of event) own) (few (ap is_loading (sym (phase_after-not_now entries event (grant_call_of event) own)) ∙ l))
    own_few event reply (begins call expires_in new) expected at few l =
        let p : is_loading (grant_phase_of (entries ++ record { event = Begin call expires_in; reply = Begun } ∷ []) call) ≡ false = ap is_loading (phase_after-begun entries (Begin call expires_in) call (same_call-refl call) (run_grant_blank policy setup entries run call new).waited) in
        absurd (cc)
    own_few event reply (waits call now b) expected at few l =
        rw (grant_answers-own_none entries (record { event = Poll call now; reply = Pending }) call (same_call-refl call) refl) (few (ap is_loading (sym (phase_after-pending entries call now b)) ∙ l))
    own_few event reply (takes_on _ _ lives g) expected at few l = by_reply reply g expected l
      where
        own : same_call (grant_call_of event) (grant_call_of event) ≡ true
        own = same_call-refl (grant_call_of event)

        marked : (r : GrantReply K) (p : Phase) → grant_phase_of (after event r) (grant_call_of event) ≡ p
            → is_loading p ≡ false → is_loading (grant_phase_of (after event r) (grant_call_of event)) ≡ true
            → ⊥
        marked r p e n l = let no : is_loading (grant_phase_of (after event r) (grant_call_of event)) ≡ false = ap is_loading e ∙ n in cc

        by_reply : (r : GrantReply K) → goes_on r ≡ true → r ≡ expected_grant_reply policy setup entries event
            → is_loading (grant_phase_of (after event r) (grant_call_of event)) ≡ true
            → IsFew (after event r) (grant_call_of event)
        by_reply (Ask k) g h l = asks_few event k at h
        by_reply (Grant source) g h l = absurd (marked (Grant source) _ (phase_after-grant entries event (grant_call_of event) own source) refl l)
        by_reply (Refused cause) g h l = absurd (marked (Refused cause) _ (phase_after-refused entries event (grant_call_of event) own cause) refl l)
        by_reply (Given c) g h l = absurd (marked (Given c) _ (phase_after-given entries event (grant_call_of event) own c) refl l)
        by_reply Cancelled g h l = absurd (marked Cancelled _ (phase_after-cancelled entries event (grant_call_of event) own) refl l)
        by_reply Begun g h l = absurd (cc)
        by_reply Pending g h l = absurd (cc)
        by_reply NotNow g h l = absurd (cc)
        by_reply OutOfMemory g h l = absurd (cc)

    few_by : (call : CallId) → cache_of setup call ≡ Some i → (event : GrantEvent K) (reply : GrantReply K)
        → reply ≡ expected_grant_reply policy setup entries event
        → (is_loading (grant_phase_of entries call) ≡ true → IsFew entries call) → (s : Bool)
        → same_call call (grant_call_of event) ≡ s
        → is_loading (grant_phase_of (after event reply) call) ≡ true → IsFew (after event reply) call
    few_by call at event reply expected few true s l =
        let same : call ≡ grant_call_of event = same_call-eq call (grant_call_of event) s in
        subst (IsFew (after event reply)) (sym same)
        (own_few event reply (expected_is_step policy setup entries event reply expected) expected (ap (cache_of setup) (sym same) ∙ at)
        (subst (λ c. is_loading (grant_phase_of entries c) ≡ true → IsFew entries c) same few) (ap (λ c. is_loading (grant_phase_of (after event reply) c)) (sym same) ∙ l))
    few_by call at event reply expected few false s l =
        rw (grant_answers-other entries (record { event = event; reply = reply }) call s) (few (ap is_loading (sym (grant_phase-other entries (record { event = event; reply = reply }) call s)) ∙ l))

  none_loads : (call : CallId) (n : ℕ) → is_loading (grant_phase_of {K = K} [] call) ≡ true
      → length (answers_of (as_signer {K = K} []) call) < n
  unfolding phase_of phase_in entries_of
  none_loads call n h = absurd (cc)

  -- a call that loads had fewer answers than there are providers
  pub grant_loads_few : (entries : List (GrantEntry K)) → IsGrantRun policy setup entries
      → (call : CallId) (i : ℕ) → cache_of setup call ≡ Some i → (loader : Loader)
      → slice_get setup.loaders i ≡ Some loader → is_loading (grant_phase_of entries call) ≡ true
      → length (answers_of (as_signer entries) call) < provider_count loader
  grant_loads_few _ start call i at loader there h = none_loads call (provider_count loader) h
  grant_loads_few _ (more entries event reply run expected) call i at loader there h =
      few_by entries run i loader there call at event reply expected (grant_loads_few entries run call i at loader there) (same_call call (grant_call_of event)) refl h
