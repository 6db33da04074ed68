-- The sequential cache, after one more entry.
use Rattle.std.proofs.Common.{◌≡◌, ℕ, Bool, true, false, ◌&&◌, ◌||◌, List, [], ◌∷◌, ◌++◌, Option, Some, None, is_some, refl, sym, ◌∙◌, ap, subst, filter, map, fold, slice_get}
use Rattle.std.specs.List.{list_any, list_all}
use Rattle.std.proofs.lemmas.List.Sums.{fold-append}
use Rattle.sign_base.specs.declared.call_id.CallId.{CallId}
use Rattle.sequential_signer.specs.Policy.{Policy}
use Rattle.sequential_signer.specs.SequentialCall.{HoldInput}
use Rattle.sequential_signer.specs.Setup.{Setup, cache_of, is_of_cache, is_number}
use Rattle.sign_base.specs.Calls.{same_call, IsOnce}
use Rattle.sequential_signer.specs.Transcript.{call_of}
use Rattle.sequential_signer.specs.Phase.{Phase, Unknown, Unpolled, Queued, Loading, Signing, Ended, phase_of}
use Rattle.sequential_signer.specs.Turn.{before_call, poll_order, is_fitting_poll, is_poll_at, serves, hold_is_finished, is_served, has_turn}
use Rattle.sequential_signer.specs.Hold.{begin_of, answers_of, turn_moment, hold_input}
use Rattle.sequential_signer.specs.SequentialCache.{cache_after, served_calls, sequential_cache}
use Rattle.sequential_signer.specs.declared.event.Entry.{Entry}
use Rattle.sequential_signer.proofs.Lists.{filter-more_no, filter-same, list_all-by, list_all-filter, fold-same, or_true, filter-same_on}
use Rattle.sign_base.proofs.Calls.{same_call-eq, same_call-refl, same_call-comm}
use Rattle.sign_base.proofs.Truth.{same_number, and_left, and_right}
use Rattle.sequential_signer.proofs.Distinct.{first_of_each-once, list_all-filter_of, list_all-first_of_each, list_all-map, filter-newly}
use Rattle.sequential_signer.proofs.PollOrder.{is_polled, OrderAfter, stays, grows, order_after, calls_ahead-more, is_served-own, is_served-other, turn_moment-found, turn_moment-no}
use Rattle.sequential_signer.proofs.Run.{IsRun}
use Rattle.sequential_signer.proofs.CallInvariant.{IsServed, CallInvariant, unknown_call, unpolled_call, queued_call, loading_call, signing_call, over_call, cancelled_call, begin-stays, HadTurn, begin-other, answers-other}
use Rattle.sequential_signer.proofs.CallInvariantSteps.{stands}

-- a test that all calls of a list pass is passed by each of them
pub list_all-member : (q : CallId → Bool) (b : CallId) (xs : List CallId) → list_all q xs ≡ true
    → list_any (same_call b) xs ≡ true → q b ≡ true
list_all-member q b [] h m = cc
list_all-member q b (x ∷ xs) h m = member_by (same_call b x) refl m (λ k. list_all-member q b xs (and_right _ _ h) k)
  where
    member_by : (s : Bool) → same_call b x ≡ s → (s || list_any (same_call b) xs) ≡ true
        → (list_any (same_call b) xs ≡ true → q b ≡ true) → q b ≡ true
    member_by true s m rest = ap q (same_call-eq b x s) ∙ and_left _ _ h
    member_by false s m rest = rest m

-- a number that is there and is this one is `Some` of it
pub is_number-eq : (i : ℕ) (o : Option ℕ) → is_number i o ≡ true → o ≡ Some i
is_number-eq i None h = cc
is_number-eq i (Some j) h = ap Some (sym (same_number i j h))

module _ {K D : Type 0} (setup : Setup D) where
  -- a call that was served had its turn
  served_had : (entries : List (Entry K)) (i : ℕ) (call : CallId) (p : Phase) → is_served entries call ≡ true
      → CallInvariant setup entries i call p → IsServed setup entries i call
  served_had entries i call Unknown s (unknown_call b) = let n = b.unserved in absurd (cc)
  served_had entries i call Unpolled s (unpolled_call w _ _) = let n = w.unserved in absurd (cc)
  served_had entries i call Queued s (queued_call w _) = let n = w.unserved in absurd (cc)
  served_had entries i call Loading s (loading_call l) = let n = l.unserved in absurd (cc)
  served_had entries i call Signing s (signing_call x) = x
  served_had entries i call Ended s (over_call x) = x
  served_had entries i call Ended s (cancelled_call c) = let n = c.unserved in absurd (cc)

  -- a call that was not polled was not served
  unpolled_unserved : (entries : List (Entry K)) (i : ℕ) (call : CallId) (p : Phase)
      → is_polled setup entries i call ≡ false → CallInvariant setup entries i call p
      → is_served entries call ≡ false
  unpolled_unserved entries i call p u st = unserved_by (is_served entries call) refl
    where
      unserved_by : (s : Bool) → is_served entries call ≡ s → s ≡ false
      unserved_by false s = refl
      unserved_by true s = let x = served_had entries i call p s st in let m = x.had.polled in cc

  -- an entry about another call leaves the input of a hold
  pub hold_input-other : (entries : List (Entry K)) (i : ℕ) (e : Entry K) (call : CallId)
      → same_call call (call_of e.event) ≡ false
      → hold_input {K = K} setup (entries ++ e ∷ []) i call ≡ hold_input setup entries i call
  hold_input-other entries i e call s =
      let moment : turn_moment setup (entries ++ e ∷ []) i call ≡ turn_moment setup entries i call = turn_moment-no setup entries i e call (ap (λ v. (v && is_fitting_poll e) && has_turn setup entries i call) s) in
      rw (begin-other setup entries i e call s, moment, answers-other setup entries i e call s) refl

  -- and so does one of the call itself that leaves the answers, once the call had its turn
  pub hold_input-own : (entries : List (Entry K)) (i : ℕ) (e : Entry K) (call : CallId)
      → same_call call (call_of e.event) ≡ true → is_some (begin_of entries call) ≡ true
      → HadTurn setup entries i call → answers_of (entries ++ e ∷ []) call ≡ answers_of entries call
      → hold_input {K = K} setup (entries ++ e ∷ []) i call ≡ hold_input setup entries i call
  hold_input-own entries i e call s begun had answers =
      let begin : begin_of (entries ++ e ∷ []) call ≡ begin_of entries call = begin-stays setup entries i e call s begun in
      let moment : turn_moment setup (entries ++ e ∷ []) i call ≡ turn_moment setup entries i call = turn_moment-found setup entries i e call had.moment had.at ∙ sym had.at in
      rw (begin, moment, answers) refl

  -- the calls in the order of a cache are of that cache
  pub order_of_cache : (entries : List (Entry K)) (i : ℕ)
      → list_all (is_of_cache setup i) (poll_order setup entries i) ≡ true
  unfolding poll_order
  order_of_cache entries i =
      list_all-first_of_each (is_of_cache setup i) (map (λ (e : Entry K). call_of e.event) (filter (is_poll_at setup i) entries))
      (list_all-map (is_of_cache setup i) (λ (e : Entry K). call_of e.event) (filter (is_poll_at setup i) entries)
      (list_all-by (is_poll_at setup i) (λ (e : Entry K). is_of_cache setup i (call_of e.event)) (λ e h. and_right _ _ h) (filter (is_poll_at setup i) entries) (list_all-filter (is_poll_at setup i) entries)))

  -- in the order of a cache no call stands twice
  pub order_once : (entries : List (Entry K)) (i : ℕ) → IsOnce (poll_order setup entries i)
  unfolding poll_order
  order_once entries i = first_of_each-once (map (λ (e : Entry K). call_of e.event) (filter (is_poll_at setup i) entries))

module _ {K D : Type 0} (policy : Policy K D) (setup : Setup D) (entries : List (Entry K))
    (run : IsRun policy setup entries) (e : Entry K) where
  -- an entry about a served call keeps the call's answers
  abbrev pub KeepsAnswers : Type 0
  KeepsAnswers = is_served entries (call_of e.event) ≡ true → answers_of (entries ++ e ∷ []) (call_of e.event) ≡ answers_of entries (call_of e.event)

  -- and so does any entry about a call that was not served
  pub keeps_unserved : is_served entries (call_of e.event) ≡ false → KeepsAnswers
  keeps_unserved unserved served = cc

  -- the input of a served hold stays
  input_by_call : KeepsAnswers → (i : ℕ) (call : CallId) → cache_of setup call ≡ Some i
      → is_served entries call ≡ true → (s : Bool) → same_call call (call_of e.event) ≡ s
      → hold_input {K = K} setup (entries ++ e ∷ []) i call ≡ hold_input setup entries i call
  input_by_call keeps i call at served true s =
      let same : call ≡ call_of e.event = same_call-eq call (call_of e.event) s in
      let x : IsServed setup entries i call = served_had setup entries i call (phase_of entries call) served (stands policy setup entries run call i at) in
      hold_input-own setup entries i e call s x.begun x.had
      (subst (λ c. answers_of (entries ++ e ∷ []) c ≡ answers_of entries c) (sym same) (keeps (ap (is_served entries) (sym same) ∙ served)))
  input_by_call keeps i call at served false s = hold_input-other setup entries i e call s

  -- so the served holds, one after another, leave the cache that they left
  fold_stays : KeepsAnswers → (i : ℕ)
      → fold
      (λ cache call. cache_after policy (slice_get setup.loaders i)
      (hold_input setup (entries ++ e ∷ []) i call) cache)
      None (served_calls setup entries i)
      ≡ sequential_cache policy setup entries i
  unfolding sequential_cache
  fold_stays keeps i =
      fold-same
      (λ cache call. cache_after policy (slice_get setup.loaders i) (hold_input setup (entries ++ e ∷ []) i call) cache)
      (λ cache call. cache_after policy (slice_get setup.loaders i) (hold_input setup entries i call) cache)
      (λ call. is_served entries call && is_of_cache setup i call)
      (λ call h cache. ap (λ (o : Option (HoldInput K D)). cache_after policy (slice_get setup.loaders i) o cache) (input_by_call keeps i call (is_number-eq i (cache_of setup call) (and_right _ _ h)) (and_left _ _ h) (same_call call (call_of e.event)) refl))
      (served_calls setup entries i)
      (both (is_served entries) (is_of_cache setup i) (served_calls setup entries i) (list_all-filter (is_served entries) (poll_order setup entries i)) (list_all-filter_of (is_of_cache setup i) (is_served entries) (poll_order setup entries i) (order_of_cache setup entries i)))
      None
    where
      both : (p q : CallId → Bool) (xs : List CallId) → list_all p xs ≡ true → list_all q xs ≡ true
          → list_all (λ x. p x && q x) xs ≡ true
      both p q [] h k = refl
      both p q (x ∷ xs) h k =
          let px : p x ≡ true = and_left _ _ h in
          let qx : q x ≡ true = and_left _ _ k in
          rw (px, qx) (both p q xs (and_right _ _ h) (and_right _ _ k))

  -- an entry that serves nobody anew leaves every cache
  pub cache_stays : KeepsAnswers
      → ((call : CallId) → is_served (entries ++ e ∷ []) call ≡ is_served entries call) → (i : ℕ)
      → sequential_cache policy setup (entries ++ e ∷ []) i ≡ sequential_cache policy setup entries i
  unfolding sequential_cache
  cache_stays keeps same i =
      ap (fold (λ cache call. cache_after policy (slice_get setup.loaders i) (hold_input setup (entries ++ e ∷ []) i call) cache) None) (served_by (order_after setup entries i e))
      ∙ fold_stays keeps i
    where
      served_by : OrderAfter setup entries i e
          → served_calls setup (entries ++ e ∷ []) i ≡ served_calls setup entries i
      served_by (stays o) = ap (filter (is_served (entries ++ e ∷ []))) o ∙ filter-same (is_served (entries ++ e ∷ [])) (is_served entries) same (poll_order setup entries i)
      served_by (grows h u o) =
          let un : is_served entries (call_of e.event) ≡ false = unpolled_unserved setup entries i (call_of e.event) (phase_of entries (call_of e.event)) u (stands policy setup entries run (call_of e.event) i (is_number-eq i (cache_of setup (call_of e.event)) (and_right _ _ h))) in
          ap (filter (is_served (entries ++ e ∷ []))) o
          ∙ filter-more_no (is_served (entries ++ e ∷ [])) (poll_order setup entries i) (call_of e.event) (same (call_of e.event) ∙ un)
          ∙ filter-same (is_served (entries ++ e ∷ [])) (is_served entries) same (poll_order setup entries i)

  -- an entry that serves its call anew runs that call's hold on the cache
  module _ (i : ℕ) (at : cache_of setup (call_of e.event) ≡ Some i)
      (unserved : is_served entries (call_of e.event) ≡ false)
      (unfinished : hold_is_finished entries (call_of e.event) ≡ false) (now : serves e.reply ≡ true) where
    others_same : (b : CallId) → same_call (call_of e.event) b ≡ false
        → is_served (entries ++ e ∷ []) b ≡ is_served entries b
    others_same b s = is_served-other setup entries e b (same_call-comm b (call_of e.event) ∙ s)

    served_now : is_served (entries ++ e ∷ []) (call_of e.event) ≡ true
    served_now = is_served-own setup entries e (call_of e.event) (same_call-refl (call_of e.event)) ∙ ap (λ v. is_served entries (call_of e.event) || v) now ∙ or_true _

    in_turn : (b : CallId) → list_any (same_call b) (poll_order setup (entries ++ e ∷ []) i) ≡ true
        → is_served entries b ≡ true
        → list_all (hold_is_finished entries) (before_call b (poll_order setup (entries ++ e ∷ []) i)) ≡ true
    unfolding has_turn
    in_turn b m s =
        let of_i : is_of_cache setup i b ≡ true = list_all-member (is_of_cache setup i) b (poll_order setup (entries ++ e ∷ []) i) (order_of_cache setup (entries ++ e ∷ []) i) m in
        let x : IsServed setup entries i b = served_had setup entries i b (phase_of entries b) s (stands policy setup entries run b i (is_number-eq i (cache_of setup b) of_i)) in
        subst (λ v. list_all (hold_is_finished entries) v ≡ true) (sym (calls_ahead-more setup entries i e b x.had.polled)) x.had.turn

    before_entry : OrderAfter setup entries i e
        → filter (is_served entries) (poll_order setup (entries ++ e ∷ []) i) ≡ served_calls setup entries i
    before_entry (stays o) = ap (filter (is_served entries)) o
    before_entry (grows _ _ o) = ap (filter (is_served entries)) o ∙ filter-more_no (is_served entries) (poll_order setup entries i) (call_of e.event) unserved

    served_calls-more : is_polled setup (entries ++ e ∷ []) i (call_of e.event) ≡ true
        → served_calls setup (entries ++ e ∷ []) i ≡ served_calls setup entries i ++ call_of e.event ∷ []
    served_calls-more polled =
        filter-newly (is_served entries) (is_served (entries ++ e ∷ [])) (hold_is_finished entries) (call_of e.event) unserved served_now unfinished others_same (poll_order setup (entries ++ e ∷ []) i) (order_once setup (entries ++ e ∷ []) i) polled in_turn
        ∙ ap (λ v. v ++ call_of e.event ∷ []) (before_entry (order_after setup entries i e))

    -- an entry that serves its call anew leaves what the call's hold leaves on the cache
    pub cache_serves : is_polled setup (entries ++ e ∷ []) i (call_of e.event) ≡ true
        → sequential_cache policy setup (entries ++ e ∷ []) i
        ≡ cache_after policy (slice_get setup.loaders i)
        (hold_input setup (entries ++ e ∷ []) i (call_of e.event)) (sequential_cache policy setup entries i)
    unfolding sequential_cache
    cache_serves polled =
        ap (fold (λ cache call. cache_after policy (slice_get setup.loaders i) (hold_input setup (entries ++ e ∷ []) i call) cache) None) (served_calls-more polled)
        ∙ fold-append (λ cache call. cache_after policy (slice_get setup.loaders i) (hold_input setup (entries ++ e ∷ []) i call) cache) None (served_calls setup entries i) (call_of e.event ∷ [])
        ∙ ap (cache_after policy (slice_get setup.loaders i) (hold_input setup (entries ++ e ∷ []) i (call_of e.event))) (fold_stays (keeps_unserved unserved) i)

    -- and leaves the others
    pub cache_other : (j : ℕ) → (i ≡ j → ⊥)
        → sequential_cache policy setup (entries ++ e ∷ []) j ≡ sequential_cache policy setup entries j
    unfolding sequential_cache
    cache_other j differ =
        ap (fold (λ cache call. cache_after policy (slice_get setup.loaders j) (hold_input setup (entries ++ e ∷ []) j call) cache) None) (served_by (order_after setup entries j e))
        ∙ fold_stays (keeps_unserved unserved) j
      where
        not_own : (b : CallId) → is_of_cache setup j b ≡ true → (s : Bool) → same_call b (call_of e.event) ≡ s
            → is_served (entries ++ e ∷ []) b ≡ is_served entries b
        not_own b o false s = is_served-other setup entries e b s
        not_own b o true s =
            let k : cache_of setup (call_of e.event) ≡ Some j = ap (cache_of setup) (sym (same_call-eq b (call_of e.event) s)) ∙ is_number-eq j (cache_of setup b) o in
            let bad : i ≡ j = cc in
            absurd (differ bad)

        served_by : OrderAfter setup entries j e
            → served_calls setup (entries ++ e ∷ []) j ≡ served_calls setup entries j
        served_by (stays o) =
            ap (filter (is_served (entries ++ e ∷ []))) o
            ∙ filter-same_on (is_served (entries ++ e ∷ [])) (is_served entries) (is_of_cache setup j) (λ b q. not_own b q (same_call b (call_of e.event)) refl) (poll_order setup entries j) (order_of_cache setup entries j)
        served_by (grows h _ _) =
            let k : cache_of setup (call_of e.event) ≡ Some j = is_number-eq j (cache_of setup (call_of e.event)) (and_right (is_fitting_poll e) (is_of_cache setup j (call_of e.event)) h) in
            let bad : i ≡ j = cc in
            absurd (differ bad)
