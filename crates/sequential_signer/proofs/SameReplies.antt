-- Two transcripts that read the same for an event give it the same reply.
use Rattle.std.proofs.Common.{◌≡◌, ℕ, true, ◌&&◌, List, [], ◌∷◌, ◌++◌, Option, Some, None, is_some, refl, sym, ◌∙◌, ap, slice_get, if◌then◌else◌, inl, inr}
use Rattle.sequential_signer.specs.Policy.{Policy}
use Rattle.sequential_signer.specs.SequentialCall.{HoldInput, Progress}
use Rattle.sequential_signer.specs.Setup.{Setup, cache_of, rule_of}
use Rattle.sequential_signer.specs.Transcript.{call_of}
use Rattle.sequential_signer.specs.Phase.{is_new_number, phase_of, event_fits, is_live, is_loading, is_signing, is_waiting}
use Rattle.sequential_signer.specs.Turn.{has_turn}
use Rattle.sequential_signer.specs.Hold.{begin_of, turn_moment, answers_of, input_by, look_input, answered_input}
use Rattle.sequential_signer.specs.SequentialCache.{sequential_cache}
use Rattle.sequential_signer.specs.Wake.{call_to_wake}
use Rattle.sequential_signer.specs.ExpectedReply.{progress_reply, with_wake, waking, hold_progress, hold_reply, progress_at, done_head, fitting_reply, reply_at, expected_reply}
use Rattle.sequential_signer.specs.Legal.{IsLegalEntry, takes_memory, allocates}
use Rattle.sequential_signer.specs.Replies.{is_sign}
use Rattle.sequential_signer.specs.LawsOfCancel.{is_answer}
use Rattle.sequential_signer.specs.declared.event.Answer.TheVariants as answer
use Rattle.sequential_signer.specs.declared.event.Entry.{Entry}
use Rattle.sequential_signer.specs.declared.event.Event.{Event}
use Rattle.sequential_signer.specs.declared.event.Event.TheVariants.{Begin, Poll, Provided, Signed, Cancel}
use Rattle.sequential_signer.specs.declared.event.Reply.{Reply}
use Rattle.sequential_signer.specs.declared.event.Reply.TheVariants.{Pending, Done, Cancelled}
use Rattle.sequential_signer.specs.declared.event.Verdict.TheVariants.{Accepted, Failed}

module _ {K D : Type 0} (policy : Policy K D) (setup : Setup D) (a b : List (Entry K)) where
  -- all that the reply to the event rests on is the same in both
  pub record ReadsSame (event : Event K) : Type 0 where
    pub phase : phase_of a (call_of event) ≡ phase_of b (call_of event)
    pub new : is_new_number a (call_of event) ≡ is_new_number b (call_of event)
    pub begin : begin_of a (call_of event) ≡ begin_of b (call_of event)
    pub answers : is_answer event ≡ true → answers_of a (call_of event) ≡ answers_of b (call_of event)
    pub turn : (i : ℕ) → cache_of setup (call_of event) ≡ Some i
        → has_turn setup a i (call_of event) ≡ has_turn setup b i (call_of event)
    pub moment : (i : ℕ) → cache_of setup (call_of event) ≡ Some i
        → turn_moment setup a i (call_of event) ≡ turn_moment setup b i (call_of event)
    pub cache : (i : ℕ) → cache_of setup (call_of event) ≡ Some i
        → sequential_cache policy setup a i ≡ sequential_cache policy setup b i
    pub wake : (i : ℕ) → cache_of setup (call_of event) ≡ Some i → (r : Reply K)
        → call_to_wake setup a i (record { event = event; reply = r })
        ≡ call_to_wake setup b i (record { event = event; reply = r })

  event_fits-same : (event : Event K) → ReadsSame event → event_fits setup a event ≡ event_fits setup b event
  event_fits-same (Begin c head expires_in) s = ap (λ v. is_some (cache_of setup c) && v) s.new
  event_fits-same (Poll c now) s = ap is_live s.phase
  event_fits-same (Provided c now answer) s = ap is_loading s.phase
  event_fits-same (Signed c answer) s = ap is_signing s.phase
  event_fits-same (Cancel c) s = ap is_live s.phase

  module _ (event : Event K) (s : ReadsSame event) (i : ℕ)
      (at : cache_of setup (call_of event) ≡ Some i) where
    waking-same : (r : Reply K) → waking setup a i event r ≡ waking setup b i event r
    waking-same r = ap (with_wake r) (s.wake i at r)

    hold_reply-same : (o : Option (Progress K)) → hold_reply setup a i event o ≡ hold_reply setup b i event o
    hold_reply-same None = refl
    hold_reply-same (Some progress) = waking-same (progress_reply progress)

    -- a hold with the same input gets the same reply
    hold-same : (p q : Option (HoldInput K D)) → p ≡ q
        → hold_reply setup a i event (progress_at policy setup a i p)
        ≡ hold_reply setup b i event (progress_at policy setup b i q)
    hold-same p q same =
        ap (λ cache. hold_reply setup a i event (hold_progress policy cache (slice_get setup.loaders i) p)) (s.cache i at)
        ∙ ap (λ input. hold_reply setup a i event (progress_at policy setup b i input)) same
        ∙ hold_reply-same (progress_at policy setup b i q)

  fitting_reply-same : (event : Event K) → ReadsSame event → (i : ℕ) → cache_of setup (call_of event) ≡ Some i
      → fitting_reply policy setup a i event ≡ fitting_reply policy setup b i event
  fitting_reply-same (Begin c head expires_in) s i at = refl
  fitting_reply-same (Poll c now) s i at =
      let phase : phase_of a c ≡ phase_of b c = s.phase in
      let turn : has_turn setup a i c ≡ has_turn setup b i c = s.turn i at in
      let input : look_input {K = K} setup a c now ≡ look_input setup b c now = ap (λ begin. input_by (rule_of setup c) begin (Some now) []) s.begin in
      rw (phase, turn) (ap (λ (v : Reply K). if is_waiting (phase_of b c) && has_turn setup b i c then v else Pending) (hold-same (Poll c now) s i at (look_input setup a c now) (look_input setup b c now) input))
  fitting_reply-same (Provided c now answer) s i at =
      hold-same (Provided c now answer) s i at (answered_input setup a i c (answer, now)) (answered_input setup b i c (answer, now))
      (ap (λ begin. input_by (rule_of setup c) begin (turn_moment setup a i c) (answers_of a c ++ (answer, now) ∷ [])) s.begin
      ∙ ap (λ moment. input_by (rule_of setup c) (begin_of b c) moment (answers_of a c ++ (answer, now) ∷ [])) (s.moment i at)
      ∙ ap (λ answers. input_by (rule_of setup c) (begin_of b c) (turn_moment setup b i c) (answers ++ (answer, now) ∷ [])) (s.answers refl))
  fitting_reply-same (Signed c (Accepted candidate)) s i at = ap (λ v. Done (done_head v candidate)) s.begin
  fitting_reply-same (Signed c (Failed x)) s i at = refl
  fitting_reply-same (Cancel c) s i at = waking-same (Cancel c) s i at (Cancelled None)

  reply_at-same : (event : Event K) → ReadsSame event → (o : Option ℕ) → cache_of setup (call_of event) ≡ o
      → reply_at policy setup a event o ≡ reply_at policy setup b event o
  reply_at-same event s None at = refl
  reply_at-same event s (Some i) at = rw (event_fits-same event s, fitting_reply-same event s i at) refl

  -- an event for which both read the same gets the same reply
  pub expected_reply-same : (event : Event K) → ReadsSame event
      → expected_reply policy setup a event ≡ expected_reply policy setup b event
  unfolding expected_reply
  expected_reply-same event s = reply_at-same event s (cache_of setup (call_of event)) refl

  takes_memory-same : (event : Event K) → ReadsSame event
      → takes_memory policy setup a event ≡ takes_memory policy setup b event
  takes_memory-same (Begin c head expires_in) s = refl
  takes_memory-same (Poll c now) s = ap is_sign (expected_reply-same (Poll c now) s)
  takes_memory-same (Provided c now (answer.Found k)) s = refl
  takes_memory-same (Provided c now answer.Missing) s = refl
  takes_memory-same (Provided c now (answer.Failed x)) s = refl
  takes_memory-same (Signed c (Accepted candidate)) s = refl
  takes_memory-same (Signed c (Failed x)) s = refl
  takes_memory-same (Cancel c) s = refl

  -- what is legal after the second is legal after the first
  pub IsLegalEntry-same : (e : Entry K) → ReadsSame e.event → IsLegalEntry policy setup b e
      → IsLegalEntry policy setup a e
  IsLegalEntry-same e s (inl due) = inl (due ∙ sym (expected_reply-same e.event s))
  IsLegalEntry-same e s (inr lost) =
      let takes : allocates policy setup a e.event ≡ allocates policy setup b e.event = rw (event_fits-same e.event s, takes_memory-same e.event s) refl in
      inr (lost.0, takes ∙ lost.1)
