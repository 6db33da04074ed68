-- The expected replies at a cache with one provider, whose credential is good for the calls.
use Rattle.std.proofs.Common.{◌≡◌, ℕ, ℤ, true, false, List, [], ◌∷◌, ◌++◌, Option, Some, None, length, slice_get, refl, ◌∙◌, ap}
use Rattle.sign_base.specs.declared.head.Head.{Head}
use Rattle.sign_base.specs.declared.call_id.CallId.{CallId}
use Rattle.sequential_signer.specs.Lookup.{Outcome, HandOut, cache_lookup, lookup_by, check_by, check_refreshed}
use Rattle.sequential_signer.specs.Policy.{Policy}
use Rattle.sequential_signer.specs.SequentialCall.{HoldInput, sequential_call, after_lookup, found_progress, load_progress}
use Rattle.sequential_signer.specs.Setup.{Setup, cache_of, rule_of}
use Rattle.sequential_signer.specs.Phase.{phase_of, is_waiting, is_loading, is_signing, is_new_number}
use Rattle.sequential_signer.specs.Turn.{has_turn}
use Rattle.sequential_signer.specs.Hold.{BeginInput, begin_of, answers_of, turn_moment}
use Rattle.sequential_signer.specs.SequentialCache.{sequential_cache}
use Rattle.sequential_signer.specs.ExpectedReply.{expected_reply, progress_reply, waking, done_head}
use Rattle.sequential_signer.specs.LawsOfCaches.{lasts_to, serves_at}
use Rattle.sequential_signer.specs.declared.event.Answer.{Answer}
use Rattle.sequential_signer.specs.declared.event.Answer.TheVariants.{Found}
use Rattle.sequential_signer.specs.declared.event.Entry.{Entry}
use Rattle.sequential_signer.specs.declared.event.Event.TheVariants.{Begin, Poll, Provided, Signed}
use Rattle.sequential_signer.specs.declared.event.Loader.TheVariants.{Single}
use Rattle.sequential_signer.specs.declared.event.Reply.TheVariants.{Begun, Pending, Ask, Sign, Done}
use Rattle.sequential_signer.specs.declared.event.Verdict.TheVariants.{Accepted}
use Rattle.std.specs.declared.time.Duration.{Duration}
use Rattle.sign_base.proofs.Truth.{and_left, and_right}
use Rattle.sequential_signer.proofs.Lists.{last_of-more}
use Rattle.prompt_law.proofs.CallPhases.{waiting_lives}

module _ {K D : Type 0} (policy : Policy K D) where
  -- a credential that lasts passes the look and the check
  lasting_look : (c : K) (now : ℤ) (o : Option ℤ) → lasts_to policy c now o ≡ true
      → lookup_by policy c now o ≡ Some (HandOut c)
  lasting_look c now None h = absurd (cc)
  lasting_look c now (Some deadline) h = rw h refl

  lasting_check : (c : K) (now : ℤ) (o : Option ℤ) → lasts_to policy c now o ≡ true
      → check_by policy c now o ≡ HandOut c
  lasting_check c now None h = absurd (cc)
  lasting_check c now (Some deadline) h = rw h refl

  serving_look : (c : K) (rule : D) (duration : Option ℕ) (now : ℤ)
      → serves_at policy c rule duration now ≡ true
      → cache_lookup policy (Some c) rule duration now ≡ Some (HandOut c)
  serving_look c rule duration now h =
      let fresh : policy.valid c now ≡ true = and_left _ _ h in
      rw fresh (lasting_look c now (policy.deadline rule c duration now) (and_right (policy.valid c now) (lasts_to policy c now (policy.deadline rule c duration now)) h))

  serving_check : (c : K) (rule : D) (duration : Option ℕ) (now : ℤ)
      → serves_at policy c rule duration now ≡ true → check_refreshed policy rule duration c now ≡ HandOut c
  serving_check c rule duration now h =
      lasting_check c now (policy.deadline rule c duration now) (and_right (policy.valid c now) (lasts_to policy c now (policy.deadline rule c duration now)) h)

module _ {K D : Type 0} (policy : Policy K D) (setup : Setup D) (loads : slice_get setup.loaders 0 ≡ Some Single) (entries : List (Entry K)) (call : CallId) (at : cache_of setup call ≡ Some 0) where
  -- the expected replies at a single provider
  pub expected_begin : (head : Head) (expires_in : Option Duration) → is_new_number entries call ≡ true
      → expected_reply policy setup entries (Begin call head expires_in) ≡ Begun
  unfolding expected_reply
  expected_begin head expires_in new = rw (at, new, at) refl

  pub expected_wait : (now : ℤ) → is_waiting (phase_of entries call) ≡ true
      → has_turn setup entries 0 call ≡ false → expected_reply policy setup entries (Poll call now) ≡ Pending
  unfolding expected_reply
  expected_wait now w t = rw (at, waiting_lives (phase_of entries call) w, w, t) refl

  pub expected_done : (made : Head) → is_signing (phase_of entries call) ≡ true
      → expected_reply policy setup entries (Signed call (Accepted made))
      ≡ Done (done_head (begin_of entries call) made)
  unfolding expected_reply
  expected_done made s = rw (at, s) refl

  module _ (rule : D) (ruled : rule_of setup call ≡ Some rule) (begin : BeginInput) (begun : begin_of entries call ≡ Some begin) where
    abbrev look_with : ℤ → HoldInput K D
    look_with now = record { rule = rule; duration = begin.duration; now = now; answers = [] }

    expected_look : (now : ℤ) → is_waiting (phase_of entries call) ≡ true
        → has_turn setup entries 0 call ≡ true
        → expected_reply policy setup entries (Poll call now)
        ≡ waking setup entries 0 (Poll call now)
        (progress_reply
        (sequential_call policy (sequential_cache policy setup entries 0) Single (look_with now)))
    unfolding expected_reply
    expected_look now w t = rw (at, waiting_lives (phase_of entries call) w, w, t, loads, ruled, begun) refl

    -- a look at an empty cache asks
    pub asks_look : (now : ℤ) → is_waiting (phase_of entries call) ≡ true
        → has_turn setup entries 0 call ≡ true → sequential_cache policy setup entries 0 ≡ None
        → expected_reply policy setup entries (Poll call now) ≡ Ask 0
    asks_look now w t empty =
        expected_look now w t ∙ ap (λ (v : Option K). waking setup entries 0 (Poll call now) (progress_reply (sequential_call policy v Single (look_with now)))) empty

    -- a look at one that serves hands it out
    pub signs_look : (c : K) (now : ℤ) → is_waiting (phase_of entries call) ≡ true
        → has_turn setup entries 0 call ≡ true → sequential_cache policy setup entries 0 ≡ Some c
        → serves_at policy c rule begin.duration now ≡ true
        → (wake : Option CallId) × (expected_reply policy setup entries (Poll call now) ≡ Sign c wake)
    signs_look c now w t full lasts = (
      _,
      expected_look now w t
          ∙ ap (λ (v : Option K). waking setup entries 0 (Poll call now) (progress_reply (sequential_call policy v Single (look_with now)))) full
          ∙ ap (λ (o : Option (Outcome K)). waking setup entries 0 (Poll call now) (progress_reply (after_lookup o (Some c) (load_progress (check_refreshed policy rule begin.duration) Single (Some c) 0 None)))) (serving_look policy c rule begin.duration now lasts),
    )

    abbrev answered : K → ℤ → ℤ → HoldInput K D
    answered c now turn = record { rule = rule; duration = begin.duration; now = turn; answers = answers_of entries call ++ (Found c, now) ∷ [] }

    expected_answer : (c : K) (now turn : ℤ) → is_loading (phase_of entries call) ≡ true
        → turn_moment setup entries 0 call ≡ Some turn
        → expected_reply policy setup entries (Provided call now (Found c))
        ≡ waking setup entries 0 (Provided call now (Found c))
        (progress_reply
        (sequential_call policy (sequential_cache policy setup entries 0) Single (answered c now turn)))
    unfolding expected_reply
    expected_answer c now turn l h = rw (at, l, loads, ruled, begun, h) refl

    -- what is found for an empty cache is handed out
    pub signs_answer : (c : K) (now turn : ℤ) → is_loading (phase_of entries call) ≡ true
        → turn_moment setup entries 0 call ≡ Some turn → sequential_cache policy setup entries 0 ≡ None
        → serves_at policy c rule begin.duration now ≡ true
        → (wake : Option CallId)
        × (expected_reply policy setup entries (Provided call now (Found c)) ≡ Sign c wake)
    signs_answer c now turn l h empty lasts = (
      _,
      expected_answer c now turn l h
          ∙ ap (λ (v : Option K). waking setup entries 0 (Provided call now (Found c)) (progress_reply (sequential_call policy v Single (answered c now turn)))) empty
          ∙ ap (λ (o : Option (Answer K × ℤ)). waking setup entries 0 (Provided call now (Found c)) (progress_reply (load_progress (check_refreshed policy rule begin.duration) Single None (length (answers_of entries call ++ (Found c, now) ∷ [])) o))) (last_of-more (answers_of entries call) (Found c, now))
          ∙ ap (λ (o : Outcome K). waking setup entries 0 (Provided call now (Found c)) (progress_reply (found_progress o None))) (serving_check policy c rule begin.duration now lasts),
    )
