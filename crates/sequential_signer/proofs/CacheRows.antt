-- What each entry does to the sequential caches, and the input of a hold after one more entry.
use Rattle.std.proofs.Common.{◌≡◌, ℕ, ℤ, Bool, true, false, cond, ◌||◌, List, [], ◌∷◌, ◌++◌, Option, Some, None, is_some, refl, sym, ◌∙◌, ap, slice_get, ◌⊎◌, inl, inr}
use Rattle.std.specs.List.{list_any}
use Rattle.sign_base.specs.declared.call_id.CallId.{CallId}
use Rattle.sequential_signer.specs.Lookup.{Outcome, HandOut, Refuse}
use Rattle.sequential_signer.specs.Policy.{Policy}
use Rattle.sequential_signer.specs.SequentialCall.{HoldInput, Over}
use Rattle.sequential_signer.specs.Setup.{Setup, cache_of, rule_of}
use Rattle.sign_base.specs.Calls.{same_call}
use Rattle.sequential_signer.specs.Transcript.{call_of, entries_of}
use Rattle.sequential_signer.specs.Phase.{is_not_now}
use Rattle.sequential_signer.specs.Turn.{before_call, poll_order, calls_ahead, is_fitting_poll, serves, hold_is_finished, is_served, has_turn}
use Rattle.sequential_signer.specs.Hold.{begin_of, answers_of, answers_in, answer_in, turn_moment, input_by, look_input, answered_input, hold_input}
use Rattle.sequential_signer.specs.SequentialCache.{cache_after, sequential_cache}
use Rattle.sequential_signer.specs.ExpectedReply.{progress_reply, with_wake}
use Rattle.sequential_signer.specs.declared.event.Answer.{Answer}
use Rattle.sequential_signer.specs.declared.event.Entry.{Entry}
use Rattle.sequential_signer.specs.declared.event.Event.{Event}
use Rattle.sequential_signer.specs.declared.event.Event.TheVariants.{Poll, Provided}
use Rattle.sequential_signer.specs.declared.event.Loader.{Loader}
use Rattle.sequential_signer.specs.declared.event.Reply.{Reply}
use Rattle.sequential_signer.specs.declared.event.Reply.TheVariants.{NotNow, Sign, Refused}
use Rattle.sequential_signer.proofs.Lists.{or_false}
use Rattle.sign_base.proofs.Calls.{same_call-eq, same_call-refl}
use Rattle.sequential_signer.proofs.OwnEntries.{entries_of-own, answers_in-more}
use Rattle.sequential_signer.proofs.PollOrder.{is_polled, is_served-own, is_served-other, turn_moment-found}
use Rattle.sequential_signer.proofs.LegalStep.{HoldPoint, HoldReaches, at_look, at_answer}
use Rattle.sequential_signer.proofs.Run.{IsRun}
use Rattle.sequential_signer.proofs.CallInvariant.{Waits, Loads, answers-own_none, refused_answers, had-more, begin-stays}
use Rattle.sequential_signer.proofs.CallInvariantSteps.{looked, looked_moment}
use Rattle.sequential_signer.proofs.CacheLaw.{KeepsAnswers, keeps_unserved, cache_stays, cache_serves, list_all-member}

module _ {K D : Type 0} (policy : Policy K D) (setup : Setup D) where
  module _ (entries : List (Entry K)) (run : IsRun policy setup entries) where
    -- a reply that serves nobody leaves who was served
    served_same : (e : Entry K) → serves e.reply ≡ false → (call : CallId)
        → is_served (entries ++ e ∷ []) call ≡ is_served entries call
    served_same e s call = same_by (same_call call (call_of e.event)) refl
      where
        same_by : (o : Bool) → same_call call (call_of e.event) ≡ o
            → is_served (entries ++ e ∷ []) call ≡ is_served entries call
        same_by true o = is_served-own setup entries e call o ∙ ap (λ v. is_served entries call || v) s ∙ or_false _
        same_by false o = is_served-other setup entries e call o

    -- so does any reply to a call that was served before
    served_again : (e : Entry K) → is_served entries (call_of e.event) ≡ true → (call : CallId)
        → is_served (entries ++ e ∷ []) call ≡ is_served entries call
    served_again e s call = same_by (same_call call (call_of e.event)) refl
      where
        same_by : (o : Bool) → same_call call (call_of e.event) ≡ o
            → is_served (entries ++ e ∷ []) call ≡ is_served entries call
        same_by true o =
            let here : is_served entries call ≡ true = ap (is_served entries) (same_call-eq call (call_of e.event) o) ∙ s in
            is_served-own setup entries e call o ∙ ap (λ v. v || serves e.reply) here ∙ sym here
        same_by false o = is_served-other setup entries e call o

    keeps_other_event : (e : Entry K) → answer_in e.event ≡ None → KeepsAnswers policy setup entries run e
    keeps_other_event e h s = answers-own_none setup entries 0 e (call_of e.event) (same_call-refl (call_of e.event)) h

    -- an entry that is answered `NotNow` leaves every cache
    pub stays_not_now : (event : Event K) (i : ℕ)
        → sequential_cache policy setup (entries ++ record { event = event; reply = NotNow } ∷ []) i
        ≡ sequential_cache policy setup entries i
    stays_not_now event i =
        cache_stays policy setup entries run (record { event = event; reply = NotNow })
        (λ _. refused_answers setup entries 0 event (call_of event) (same_call-refl (call_of event)))
        (served_same (record { event = event; reply = NotNow }) refl) i

    -- an entry that is no answer and serves nobody leaves every cache
    pub stays_other : (e : Entry K) → answer_in e.event ≡ None → serves e.reply ≡ false → (i : ℕ)
        → sequential_cache policy setup (entries ++ e ∷ []) i ≡ sequential_cache policy setup entries i
    stays_other e a s i = cache_stays policy setup entries run e (keeps_other_event e a) (served_same e s) i

    -- so does one that is no answer, about a call that was served before
    pub stays_served : (e : Entry K) → answer_in e.event ≡ None → is_served entries (call_of e.event) ≡ true
        → (i : ℕ)
        → sequential_cache policy setup (entries ++ e ∷ []) i ≡ sequential_cache policy setup entries i
    stays_served e a s i = cache_stays policy setup entries run e (keeps_other_event e a) (served_again e s) i

    -- and one that serves nobody, about a call that was not served before
    pub stays_unserved : (e : Entry K) → is_served entries (call_of e.event) ≡ false → serves e.reply ≡ false
        → (i : ℕ)
        → sequential_cache policy setup (entries ++ e ∷ []) i ≡ sequential_cache policy setup entries i
    stays_unserved e u s i = cache_stays policy setup entries run e (keeps_unserved policy setup entries run e u) (served_same e s) i

    -- the input of a hold whose turn comes by this poll
    pub input_looked : (call : CallId) (now : ℤ) (reply : Reply K) (i : ℕ) → cache_of setup call ≡ Some i
        → is_fitting_poll (record { event = Poll call now; reply = reply }) ≡ true
        → Waits setup entries i call → has_turn setup entries i call ≡ true
        → is_some (begin_of entries call) ≡ true
        → hold_input {K = K} setup (entries ++ record { event = Poll call now; reply = reply } ∷ []) i call
        ≡ look_input setup entries call now
    input_looked call now reply i at t w turn b =
        let e : Entry K = record { event = Poll call now; reply = reply } in
        let own : same_call call call ≡ true = same_call-refl call in
        let begin : begin_of (entries ++ record { event = Poll call now; reply = reply } ∷ []) call ≡ begin_of entries call = begin-stays setup entries i e call own b in
        let answers : answers_of (entries ++ record { event = Poll call now; reply = reply } ∷ []) call ≡ [] = answers-own_none setup entries i e call own refl ∙ w.answers in
        let moment : turn_moment setup (entries ++ record { event = Poll call now; reply = reply } ∷ []) i call ≡ Some now = looked_moment policy setup entries i call at now reply t w turn in
        rw (begin, answers, moment) refl

    -- the input of a hold that gets one more answer
    pub input_got : (call : CallId) (now : ℤ) (answer : Answer K) (reply : Reply K) (i : ℕ)
        → cache_of setup call ≡ Some i → is_not_now reply ≡ false → Loads setup entries i call
        → hold_input {K = K} setup
        (entries ++ record { event = Provided call now answer; reply = reply } ∷ []) i call
        ≡ answered_input setup entries i call (answer, now)
    input_got call now answer reply i at n l =
        let e : Entry K = record { event = Provided call now answer; reply = reply } in
        let own : same_call call call ≡ true = same_call-refl call in
        let begin : begin_of (entries ++ record { event = Provided call now answer; reply = reply } ∷ []) call ≡ begin_of entries call = begin-stays setup entries i e call own l.begun in
        let answers : answers_of (entries ++ record { event = Provided call now answer; reply = reply } ∷ []) call ≡ answers_of entries call ++ (answer, now) ∷ [] =
        ap answers_in (entries_of-own entries call e own) ∙ answers_in-more (entries_of entries call) e (answer, now) n refl in
        let moment : turn_moment setup (entries ++ record { event = Provided call now answer; reply = reply } ∷ []) i call ≡ turn_moment setup entries i call =
        turn_moment-found setup entries i e call l.had.moment l.had.at ∙ sym l.had.at in
        rw (begin, answers, moment) refl

    -- an undisturbed call on the cache leaves what the hold leaves
    left_by : (hold : HoldPoint K) (outcome : Outcome K) (left : Option K)
        → (g : HoldReaches policy setup entries hold (Over outcome left)) → (o : Option Loader)
        → o ≡ slice_get setup.loaders hold.cache → (input : Option (HoldInput K D))
        → input ≡ input_by (rule_of setup hold.call) (begin_of entries hold.call) hold.moment hold.answers
        → cache_after policy o input (sequential_cache policy setup entries hold.cache) ≡ left
    left_by hold outcome left g None h input k = let l = g.loads in cc
    left_by hold outcome left g (Some loader) h None k = let l = g.inputs in cc
    left_by hold outcome left g (Some loader) h (Some input) k =
        let l = g.loads in
        let same : loader ≡ g.loader = cc in
        let n = g.inputs in
        let these : input ≡ g.input = cc in
        rw (same, these, sym g.reaches) refl

    -- a hold that a look ends leaves what the look leaves
    pub serves_looked : (call : CallId) (now : ℤ) (outcome : Outcome K) (left : Option K)
        (wake : Option CallId) (i : ℕ) → Waits setup entries i call → has_turn setup entries i call ≡ true
        → (g : HoldReaches policy setup entries (at_look call i now) (Over outcome left))
        → sequential_cache policy setup
        (entries
        ++ record { event = Poll call now; reply = with_wake (progress_reply (Over outcome left)) wake } ∷ [])
        i
        ≡ left
    serves_looked call now outcome left wake i w turn g = by_outcome outcome g
      where
        by_outcome : (outcome : Outcome K)
            → (g : HoldReaches policy setup entries (at_look call i now) (Over outcome left))
            → sequential_cache policy setup
            (entries
            ++ record { event = Poll call now; reply = with_wake (progress_reply (Over outcome left)) wake }
            ∷ [])
            i
            ≡ left
        by_outcome (HandOut c) g =
            let e : Entry K = record { event = Poll call now; reply = Sign c wake } in
            cache_serves policy setup entries run e i g.at w.unserved w.unfinished refl (looked policy setup entries i call g.at now (Sign c wake) refl w turn).polled
            ∙ left_by (at_look call i now) (HandOut c) left g (slice_get setup.loaders i) refl (hold_input {K = K} setup (entries ++ e ∷ []) i call) (input_looked call now (Sign c wake) i g.at refl w turn w.begun)
        by_outcome (Refuse cause) g =
            let e : Entry K = record { event = Poll call now; reply = Refused cause wake } in
            cache_serves policy setup entries run e i g.at w.unserved w.unfinished refl (looked policy setup entries i call g.at now (Refused cause wake) refl w turn).polled
            ∙ left_by (at_look call i now) (Refuse cause) left g (slice_get setup.loaders i) refl (hold_input {K = K} setup (entries ++ e ∷ []) i call) (input_looked call now (Refused cause wake) i g.at refl w turn w.begun)

    -- a hold that an answer ends leaves what the answer leaves
    pub serves_got : (call : CallId) (now : ℤ) (answer : Answer K) (outcome : Outcome K) (left : Option K)
        (wake : Option CallId) (i : ℕ) → Loads setup entries i call
        → (g : HoldReaches policy setup entries (at_answer setup entries i call (answer, now))
        (Over outcome left))
        → sequential_cache policy setup
        (entries
        ++ record { event = Provided call now answer; reply = with_wake (progress_reply (Over outcome left)) wake }
        ∷ [])
        i
        ≡ left
    serves_got call now answer outcome left wake i w g = by_outcome outcome g
      where
        by_outcome : (outcome : Outcome K)
            → (g : HoldReaches policy setup entries (at_answer setup entries i call (answer, now))
            (Over outcome left))
            → sequential_cache policy setup
            (entries
            ++ record { event = Provided call now answer; reply = with_wake (progress_reply (Over outcome left)) wake }
            ∷ [])
            i
            ≡ left
        by_outcome (HandOut c) g =
            let e : Entry K = record { event = Provided call now answer; reply = Sign c wake } in
            cache_serves policy setup entries run e i g.at w.unserved w.unfinished refl (had-more setup entries i e call w.had).polled
            ∙ left_by (at_answer setup entries i call (answer, now)) (HandOut c) left g (slice_get setup.loaders i) refl (hold_input {K = K} setup (entries ++ e ∷ []) i call) (input_got call now answer (Sign c wake) i g.at refl w)
        by_outcome (Refuse cause) g =
            let e : Entry K = record { event = Provided call now answer; reply = Refused cause wake } in
            cache_serves policy setup entries run e i g.at w.unserved w.unfinished refl (had-more setup entries i e call w.had).polled
            ∙ left_by (at_answer setup entries i call (answer, now)) (Refuse cause) left g (slice_get setup.loaders i) refl (hold_input {K = K} setup (entries ++ e ∷ []) i call) (input_got call now answer (Refused cause wake) i g.at refl w)

-- of two calls of a list one stands before the other
before_either : (a b : CallId) → same_call a b ≡ false → (xs : List CallId) → list_any (same_call a) xs ≡ true
    → (list_any (same_call a) (before_call b xs) ≡ true) ⊎ (list_any (same_call b) (before_call a xs) ≡ true)
before_either a b differ [] m = cc
before_either a b differ (x ∷ xs) m = either_by (same_call a x) refl (same_call b x) refl m (λ k. before_either a b differ xs k)
  where
    either_by : (s : Bool) → same_call a x ≡ s → (t : Bool) → same_call b x ≡ t
        → (s || list_any (same_call a) xs) ≡ true
        → (list_any (same_call a) xs ≡ true
        → (list_any (same_call a) (before_call b xs) ≡ true) ⊎ (list_any (same_call b) (before_call a xs)
        ≡ true))
        → (list_any (same_call a) (cond (same_call b x) [] (x ∷ before_call b xs)) ≡ true)
        ⊎ (list_any (same_call b) (cond (same_call a x) [] (x ∷ before_call a xs)) ≡ true)
    either_by true s true t m rest =
        let e : a ≡ x = same_call-eq a x s in
        let f : b ≡ x = same_call-eq b x t in
        let bad : same_call a b ≡ true = ap (same_call a) (f ∙ sym e) ∙ same_call-refl a in
        absurd (cc)
    either_by true s false t m rest = inl (rw (t, s) refl)
    either_by false s true t m rest = inr (rw (s, t) refl)
    either_by false s false t m rest = elim (rest m) [ inl k ↦ inl (rw (t, s) k) | inr k ↦ inr (rw (s, t) k) ]

module _ {K D : Type 0} (setup : Setup D) where
  -- of two calls whose holds are not finished only one has its turn
  pub one_turn : (entries : List (Entry K)) (i : ℕ) (a b : CallId) → same_call a b ≡ false
      → is_polled setup entries i a ≡ true → has_turn setup entries i a ≡ true
      → hold_is_finished entries a ≡ false → has_turn setup entries i b ≡ true
      → hold_is_finished entries b ≡ false → ⊥
  unfolding has_turn
  one_turn entries i a b differ m ta fa tb fb =
      elim (before_either a b differ (poll_order setup entries i) m) [
        | inl k ↦ let bad : hold_is_finished entries a ≡ true = list_all-member (hold_is_finished entries) a (calls_ahead setup entries i b) tb k in cc
        | inr k ↦ let bad : hold_is_finished entries b ≡ true = list_all-member (hold_is_finished entries) b (calls_ahead setup entries i a) ta k in cc
      ]
