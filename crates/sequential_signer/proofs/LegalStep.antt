-- Legal steps: what may happen after a transcript, with the expected reply.
use Rattle.std.proofs.Common.{◌≡◌, ℕ, ℤ, Bool, true, false, ◌&&◌, List, [], ◌∷◌, ◌++◌, Option, Some, None, refl, slice_get, if◌then◌else◌}
use Rattle.sign_base.specs.declared.head.Head.{Head}
use Rattle.std.specs.declared.time.Duration.{Duration}
use Rattle.sign_base.specs.declared.call_id.CallId.{CallId}
use Rattle.sequential_signer.specs.Policy.{Policy}
use Rattle.sequential_signer.specs.SequentialCall.{HoldInput, Progress, sequential_call}
use Rattle.sequential_signer.specs.Setup.{Setup, cache_of, rule_of}
use Rattle.sequential_signer.specs.Transcript.{call_of}
use Rattle.sequential_signer.specs.Phase.{Phase, Unknown, Unpolled, Queued, Loading, Signing, Ended, phase_of, is_waiting, is_live, is_loading, is_signing, event_fits, is_new_number}
use Rattle.sequential_signer.specs.Turn.{has_turn}
use Rattle.sequential_signer.specs.Hold.{begin_of, answers_of, turn_moment, input_by, look_input, answered_input}
use Rattle.sequential_signer.specs.SequentialCache.{sequential_cache}
use Rattle.sequential_signer.specs.ExpectedReply.{progress_reply, with_wake, hold_progress, hold_reply, progress_at, done_head, fitting_reply, reply_at, expected_reply}
use Rattle.sequential_signer.specs.declared.event.Answer.{Answer}
use Rattle.sequential_signer.specs.declared.event.Entry.{Entry}
use Rattle.sequential_signer.specs.declared.event.Event.{Event}
use Rattle.sequential_signer.specs.declared.event.Event.TheVariants.{Begin, Poll, Provided, Signed, Cancel}
use Rattle.sequential_signer.specs.declared.event.Loader.{Loader}
use Rattle.sequential_signer.specs.declared.event.Reply.{Reply}
use Rattle.sequential_signer.specs.declared.event.Reply.TheVariants.{Begun, Pending, NotNow, Refused, Done, Cancelled}
use Rattle.sequential_signer.specs.declared.event.Verdict.TheVariants.{Accepted, Failed}
use Rattle.sequential_signer.specs.declared.event.Why.TheVariants as why
use Rattle.sign_base.proofs.Truth.{and_right}

-- asking a provider, or signing
abbrev pub is_busy : Phase → Bool
is_busy Loading = true
is_busy Signing = true
is_busy _ = false

-- a point of a hold: its call, its cache, the moment of its look, and the answers so far
pub record HoldPoint (K : Type 0) : Type 0 where
  pub call : CallId
  pub cache : ℕ
  pub moment : Option ℤ
  pub answers : List (Answer K × ℤ)

-- the look of a call at cache i
abbrev pub at_look : {K : Type 0} → CallId → ℕ → ℤ → HoldPoint K
at_look call i now = record { call = call; cache = i; moment = Some now; answers = [] }

-- one more answer to a call that loads for cache i
abbrev pub at_answer : {K D : Type 0} → Setup D → List (Entry K) → ℕ → CallId → Answer K × ℤ → HoldPoint K
at_answer setup entries i call answer =
    record { call = call; cache = i; moment = turn_moment setup entries i call; answers = answers_of entries call ++ answer ∷ [] }

-- the hold goes on from this point, and gets this far
pub record HoldReaches {K D : Type 0} (policy : Policy K D) (setup : Setup D) (entries : List (Entry K)) (hold : HoldPoint K) (progress : Progress K) : Type 0 where
  pub at : cache_of setup hold.call ≡ Some hold.cache
  pub loader : Loader
  pub loads : slice_get setup.loaders hold.cache ≡ Some loader
  pub input : HoldInput K D
  pub inputs : input_by (rule_of setup hold.call) (begin_of entries hold.call) hold.moment hold.answers
      ≡ Some input
  pub reaches : progress
      ≡ sequential_call policy (sequential_cache policy setup entries hold.cache) loader input

-- a live call waits or is busy
live_cases : (p : Phase) → is_live p ≡ true → is_waiting p ≡ false → is_busy p ≡ true
live_cases Unknown l w = cc
live_cases Unpolled l w = cc
live_cases Queued l w = cc
live_cases Loading l w = refl
live_cases Signing l w = refl
live_cases Ended l w = cc

module _ {K D : Type 0} where
  -- what may happen after these entries: an event and its expected reply, by how far the event's call is
  pub data LegalStep (policy : Policy K D) (setup : Setup D) (entries : List (Entry K)) : Event K → Reply K → Type 0 where
    not_now : (event : Event K) → LegalStep policy setup entries event NotNow
    begins : (call : CallId) (head : Head) (expires_in : Option Duration) (i : ℕ)
        → cache_of setup call ≡ Some i → is_new_number entries call ≡ true
        → LegalStep policy setup entries (Begin call head expires_in) Begun
    waits : (call : CallId) (now : ℤ) (i : ℕ) → cache_of setup call ≡ Some i
        → is_waiting (phase_of entries call) ≡ true → has_turn setup entries i call ≡ false
        → LegalStep policy setup entries (Poll call now) Pending
    pending : (call : CallId) (now : ℤ) → is_busy (phase_of entries call) ≡ true
        → LegalStep policy setup entries (Poll call now) Pending
    looks : (call : CallId) (now : ℤ) (i : ℕ) (progress : Progress K) (wake : Option CallId)
        → is_waiting (phase_of entries call) ≡ true → has_turn setup entries i call ≡ true
        → HoldReaches policy setup entries (at_look call i now) progress
        → LegalStep policy setup entries (Poll call now) (with_wake (progress_reply progress) wake)
    takes_effect : (call : CallId) (now : ℤ) (answer : Answer K) (i : ℕ) (progress : Progress K)
        (wake : Option CallId) → is_loading (phase_of entries call) ≡ true
        → HoldReaches policy setup entries (at_answer setup entries i call (answer, now)) progress
        → LegalStep policy setup entries (Provided call now answer) (with_wake (progress_reply progress) wake)
    accepts : (call : CallId) (candidate : Head) → is_signing (phase_of entries call) ≡ true
        → LegalStep policy setup entries (Signed call (Accepted candidate))
        (Done (done_head (begin_of entries call) candidate))
    fails : (call : CallId) (e i : ℕ) → cache_of setup call ≡ Some i
        → is_signing (phase_of entries call) ≡ true
        → LegalStep policy setup entries (Signed call (Failed e)) (Refused (why.Service e) None)
    cancels : (call : CallId) (wake : Option CallId) → is_live (phase_of entries call) ≡ true
        → LegalStep policy setup entries (Cancel call) (Cancelled wake)

  module _ (policy : Policy K D) (setup : Setup D) (entries : List (Entry K)) where
    look_step : (call : CallId) (now : ℤ) (i : ℕ) → cache_of setup call ≡ Some i
        → is_waiting (phase_of entries call) ≡ true → has_turn setup entries i call ≡ true
        → (loader : Option Loader) → slice_get setup.loaders i ≡ loader → (input : Option (HoldInput K D))
        → look_input setup entries call now ≡ input
        → LegalStep policy setup entries (Poll call now)
        (hold_reply setup entries i (Poll call now)
        (hold_progress policy (sequential_cache policy setup entries i) loader input))
    look_step call now i at w t None _ input _ = not_now (Poll call now)
    look_step call now i at w t (Some loader) _ None _ = not_now (Poll call now)
    look_step call now i at w t (Some loader) l (Some input) h =
        looks call now i (sequential_call policy (sequential_cache policy setup entries i) loader input) _ w t (record { at = at; loader = loader; loads = l; input = input; inputs = h; reaches = refl })

    answer_step : (call : CallId) (now : ℤ) (answer : Answer K) (i : ℕ) → cache_of setup call ≡ Some i
        → is_loading (phase_of entries call) ≡ true → (loader : Option Loader)
        → slice_get setup.loaders i ≡ loader → (input : Option (HoldInput K D))
        → answered_input setup entries i call (answer, now) ≡ input
        → LegalStep policy setup entries (Provided call now answer)
        (hold_reply setup entries i (Provided call now answer)
        (hold_progress policy (sequential_cache policy setup entries i) loader input))
    answer_step call now answer i at w None _ input _ = not_now (Provided call now answer)
    answer_step call now answer i at w (Some loader) _ None _ = not_now (Provided call now answer)
    answer_step call now answer i at w (Some loader) l (Some input) h =
        takes_effect call now answer i (sequential_call policy (sequential_cache policy setup entries i) loader input) _ w (record { at = at; loader = loader; loads = l; input = input; inputs = h; reaches = refl })

    poll_step : (call : CallId) (now : ℤ) (i : ℕ) → cache_of setup call ≡ Some i
        → is_live (phase_of entries call) ≡ true → (w : Bool) → is_waiting (phase_of entries call) ≡ w
        → (t : Bool) → has_turn setup entries i call ≡ t → LegalStep policy setup entries (Poll call now)
        (if w && t then hold_reply setup entries i (Poll call now) (progress_at policy setup entries i (look_input setup entries call now)) else Pending)
    poll_step call now i at l true w true t = look_step call now i at w t _ refl _ refl
    poll_step call now i at l true w false t = waits call now i at w t
    poll_step call now i at l false w t _ = pending call now (live_cases (phase_of entries call) l w)

    fitting_step : (event : Event K) (i : ℕ) → cache_of setup (call_of event) ≡ Some i
        → event_fits setup entries event ≡ true
        → LegalStep policy setup entries event (fitting_reply policy setup entries i event)
    fitting_step (Begin call head expires_in) i at fits = begins call head expires_in i at (and_right _ _ fits)
    fitting_step (Poll call now) i at fits = poll_step call now i at fits _ refl _ refl
    fitting_step (Provided call now answer) i at fits = answer_step call now answer i at fits _ refl _ refl
    fitting_step (Signed call (Accepted candidate)) i at fits = accepts call candidate fits
    fitting_step (Signed call (Failed e)) i at fits = fails call e i at fits
    fitting_step (Cancel call) i at fits = cancels call _ fits

    step_at : (event : Event K) (o : Option ℕ) → cache_of setup (call_of event) ≡ o → (f : Bool)
        → event_fits setup entries event ≡ f
        → LegalStep policy setup entries event (reply_at policy setup entries event o)
    step_at event None _ f _ = not_now event
    step_at event (Some i) at true fits = rw fits (fitting_step event i at fits)
    step_at event (Some i) at false fits = rw fits (not_now event)

    -- an event with its expected reply is a legal step
    pub expected_step : (event : Event K)
        → LegalStep policy setup entries event (expected_reply policy setup entries event)
    unfolding expected_reply
    expected_step event = step_at event _ refl _ refl
