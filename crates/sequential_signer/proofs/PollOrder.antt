-- The order of first polls and the turn, after one more entry.
use Rattle.std.proofs.Common.{◌≡◌, ℕ, ℤ, Bool, true, false, cond, ◌||◌, List, [], ◌∷◌, ◌++◌, Option, Some, None, refl, sym, ◌∙◌, ap, filter, map, find, option_and_then}
use Rattle.std.specs.List.{list_any}
use Rattle.std.proofs.lemmas.List.{map-append}
use Rattle.sign_base.specs.declared.call_id.CallId.{CallId}
use Rattle.sequential_signer.specs.Setup.{Setup}
use Rattle.sign_base.specs.Calls.{same_call}
use Rattle.sign_base.specs.EachAfter.{each_after}
use Rattle.sequential_signer.specs.Transcript.{call_of, entries_of}
use Rattle.sequential_signer.specs.Turn.{before_call, is_poll_at, poll_order, calls_ahead, ends_hold, serves, hold_is_finished, is_served, has_turn}
use Rattle.sequential_signer.specs.Hold.{poll_moment, is_poll_at_turn, turn_moment}
use Rattle.sequential_signer.specs.declared.event.Entry.{Entry}
use Rattle.sequential_signer.proofs.Lists.{filter-more_yes, filter-more_no, list_any-more, list_all-by, each_after-more, find-more_found, find-more_no, find-more_yes, or_false, or_true}
use Rattle.sign_base.proofs.Calls.{same_call-refl}
use Rattle.sequential_signer.proofs.CallNames.{first_of_each-more, before_call-more_there, before_call-absent, before_call-last}
use Rattle.sequential_signer.proofs.OwnEntries.{entries_of-own, entries_of-other}

module _ {K D : Type 0} (setup : Setup D) where
  -- whether the call was polled at cache i
  abbrev pub is_polled : List (Entry K) → ℕ → CallId → Bool
  is_polled entries i call = list_any (same_call call) (poll_order setup entries i)

  -- the order of first polls grows by a poll at the cache, of a call that was not polled there, and by
  -- nothing else
  pub poll_order-same : (entries : List (Entry K)) (i : ℕ) (e : Entry K) → is_poll_at setup i e ≡ false
      → poll_order setup (entries ++ e ∷ []) i ≡ poll_order setup entries i
  unfolding poll_order
  poll_order-same entries i e h = rw (filter-more_no (is_poll_at setup i) entries e h) refl

  pub poll_order-poll : (entries : List (Entry K)) (i : ℕ) (e : Entry K) → is_poll_at setup i e ≡ true
      → poll_order setup (entries ++ e ∷ []) i
      ≡ cond (is_polled entries i (call_of e.event)) (poll_order setup entries i)
      (poll_order setup entries i ++ call_of e.event ∷ [])
  unfolding poll_order
  poll_order-poll entries i e h =
      rw (filter-more_yes (is_poll_at setup i) entries e h, map-append (λ (x : Entry K). call_of x.event) (filter (is_poll_at setup i) entries) (e ∷ []))
      (first_of_each-more (map (λ (x : Entry K). call_of x.event) (filter (is_poll_at setup i) entries)) (call_of e.event))

  -- the order stays, or its last call is the one of the entry, which was not polled before
  pub data OrderAfter (entries : List (Entry K)) (i : ℕ) (e : Entry K) : Type 0 where
    stays : poll_order setup (entries ++ e ∷ []) i ≡ poll_order setup entries i → OrderAfter entries i e
    grows : is_poll_at setup i e ≡ true → is_polled entries i (call_of e.event) ≡ false
        → poll_order setup (entries ++ e ∷ []) i ≡ poll_order setup entries i ++ call_of e.event ∷ []
        → OrderAfter entries i e

  order_by : (entries : List (Entry K)) (i : ℕ) (e : Entry K) → is_poll_at setup i e ≡ true → (p : Bool)
      → is_polled entries i (call_of e.event) ≡ p → OrderAfter entries i e
  order_by entries i e h true p = stays (poll_order-poll entries i e h ∙ ap (λ v. cond v (poll_order setup entries i) (poll_order setup entries i ++ call_of e.event ∷ [])) p)
  order_by entries i e h false p = grows h p (poll_order-poll entries i e h ∙ ap (λ v. cond v (poll_order setup entries i) (poll_order setup entries i ++ call_of e.event ∷ [])) p)

  order_cases : (entries : List (Entry K)) (i : ℕ) (e : Entry K) → (b : Bool) → is_poll_at setup i e ≡ b
      → OrderAfter entries i e
  order_cases entries i e true h = order_by entries i e h _ refl
  order_cases entries i e false h = stays (poll_order-same entries i e h)

  -- each entry leaves the order, or its call comes last in it
  pub order_after : (entries : List (Entry K)) (i : ℕ) (e : Entry K) → OrderAfter entries i e
  order_after entries i e = order_cases entries i e _ refl

  -- a call that was polled stays so
  pub is_polled-more : (entries : List (Entry K)) (i : ℕ) (e : Entry K) (call : CallId)
      → is_polled entries i call ≡ true → is_polled (entries ++ e ∷ []) i call ≡ true
  is_polled-more entries i e call h = polled_by (order_after entries i e)
    where
      polled_by : OrderAfter entries i e → is_polled (entries ++ e ∷ []) i call ≡ true
      polled_by (stays o) = rw o h
      polled_by (grows _ _ o) = rw (o, list_any-more (same_call call) (poll_order setup entries i) (call_of e.event), h) refl

  -- an entry of another call leaves whether a call was polled
  pub is_polled-other : (entries : List (Entry K)) (i : ℕ) (e : Entry K) (call : CallId)
      → same_call call (call_of e.event) ≡ false
      → is_polled (entries ++ e ∷ []) i call ≡ is_polled entries i call
  is_polled-other entries i e call h = polled_by (order_after entries i e)
    where
      polled_by : OrderAfter entries i e → is_polled (entries ++ e ∷ []) i call ≡ is_polled entries i call
      polled_by (stays o) = rw o refl
      polled_by (grows _ _ o) = rw (o, list_any-more (same_call call) (poll_order setup entries i) (call_of e.event), h) (or_false _)

  -- a poll that fits puts its call into the order
  pub is_polled-own : (entries : List (Entry K)) (i : ℕ) (e : Entry K) → is_poll_at setup i e ≡ true
      → is_polled (entries ++ e ∷ []) i (call_of e.event) ≡ true
  is_polled-own entries i e h =
      rw (poll_order-poll entries i e h)
      ((elim (is_polled entries i (call_of e.event)) as (λ v. is_polled entries i (call_of e.event) ≡ v → list_any (same_call (call_of e.event)) (cond v (poll_order setup entries i) (poll_order setup entries i ++ call_of e.event ∷ [])) ≡ true)
      [ true ↦ λ p. p | false ↦ λ p. rw (list_any-more (same_call (call_of e.event)) (poll_order setup entries i) (call_of e.event), same_call-refl (call_of e.event)) (or_true _) ]) refl)

  -- the calls ahead of one that was polled stay the same
  pub calls_ahead-more : (entries : List (Entry K)) (i : ℕ) (e : Entry K) (call : CallId)
      → is_polled entries i call ≡ true
      → calls_ahead setup (entries ++ e ∷ []) i call ≡ calls_ahead setup entries i call
  calls_ahead-more entries i e call h = ahead_by (order_after entries i e)
    where
      ahead_by : OrderAfter entries i e
          → calls_ahead setup (entries ++ e ∷ []) i call ≡ calls_ahead setup entries i call
      ahead_by (stays o) = ap (before_call call) o
      ahead_by (grows _ _ o) = ap (before_call call) o ∙ before_call-more_there call (poll_order setup entries i) (call_of e.event) h

  -- and so do those ahead of one that is polled now
  pub calls_ahead-own : (entries : List (Entry K)) (i : ℕ) (e : Entry K)
      → calls_ahead setup (entries ++ e ∷ []) i (call_of e.event)
      ≡ calls_ahead setup entries i (call_of e.event)
  calls_ahead-own entries i e = ahead_by (order_after entries i e)
    where
      ahead_by : OrderAfter entries i e
          → calls_ahead setup (entries ++ e ∷ []) i (call_of e.event)
          ≡ calls_ahead setup entries i (call_of e.event)
      ahead_by (stays o) = ap (before_call (call_of e.event)) o
      ahead_by (grows _ p o) =
          ap (before_call (call_of e.event)) o
          ∙ before_call-last (call_of e.event) (poll_order setup entries i) p
          ∙ sym (before_call-absent (call_of e.event) (poll_order setup entries i) p)

  -- an entry of another call leaves whether the hold is over and whether it served; one of the call itself
  -- adds what its reply says
  pub hold_is_finished-other : (entries : List (Entry K)) (e : Entry K) (call : CallId)
      → same_call call (call_of e.event) ≡ false
      → hold_is_finished (entries ++ e ∷ []) call ≡ hold_is_finished entries call
  unfolding hold_is_finished
  hold_is_finished-other entries e call h = rw (entries_of-other entries call e h) refl

  pub hold_is_finished-own : (entries : List (Entry K)) (e : Entry K) (call : CallId)
      → same_call call (call_of e.event) ≡ true
      → hold_is_finished (entries ++ e ∷ []) call ≡ (hold_is_finished entries call || ends_hold e.reply)
  unfolding hold_is_finished
  hold_is_finished-own entries e call h = rw (entries_of-own entries call e h) (list_any-more (λ (x : Entry K). ends_hold x.reply) (entries_of entries call) e)

  pub is_served-other : (entries : List (Entry K)) (e : Entry K) (call : CallId)
      → same_call call (call_of e.event) ≡ false → is_served (entries ++ e ∷ []) call ≡ is_served entries call
  unfolding is_served
  is_served-other entries e call h = rw (entries_of-other entries call e h) refl

  pub is_served-own : (entries : List (Entry K)) (e : Entry K) (call : CallId)
      → same_call call (call_of e.event) ≡ true
      → is_served (entries ++ e ∷ []) call ≡ (is_served entries call || serves e.reply)
  unfolding is_served
  is_served-own entries e call h = rw (entries_of-own entries call e h) (list_any-more (λ (x : Entry K). serves x.reply) (entries_of entries call) e)

  -- a finished hold stays finished
  finished_by : (entries : List (Entry K)) (e : Entry K) (call : CallId)
      → hold_is_finished entries call ≡ true → (s : Bool) → same_call call (call_of e.event) ≡ s
      → hold_is_finished (entries ++ e ∷ []) call ≡ true
  finished_by entries e call h true s = hold_is_finished-own entries e call s ∙ ap (λ v. v || ends_hold e.reply) h
  finished_by entries e call h false s = hold_is_finished-other entries e call s ∙ h

  pub hold_is_finished-more : (entries : List (Entry K)) (e : Entry K) (call : CallId)
      → hold_is_finished entries call ≡ true → hold_is_finished (entries ++ e ∷ []) call ≡ true
  hold_is_finished-more entries e call h = finished_by entries e call h _ refl

  -- a turn that came stays
  turn_by : (entries : List (Entry K)) (i : ℕ) (e : Entry K) (call : CallId)
      → calls_ahead setup (entries ++ e ∷ []) i call ≡ calls_ahead setup entries i call
      → has_turn setup entries i call ≡ true → has_turn setup (entries ++ e ∷ []) i call ≡ true
  unfolding has_turn
  turn_by entries i e call same h =
      rw same (list_all-by (hold_is_finished entries) (hold_is_finished (entries ++ e ∷ [])) (λ c f. hold_is_finished-more entries e c f) (calls_ahead setup entries i call) h)

  pub has_turn-more : (entries : List (Entry K)) (i : ℕ) (e : Entry K) (call : CallId)
      → is_polled entries i call ≡ true → has_turn setup entries i call ≡ true
      → has_turn setup (entries ++ e ∷ []) i call ≡ true
  has_turn-more entries i e call p h = turn_by entries i e call (calls_ahead-more entries i e call p) h

  pub has_turn-own : (entries : List (Entry K)) (i : ℕ) (e : Entry K)
      → has_turn setup entries i (call_of e.event) ≡ true
      → has_turn setup (entries ++ e ∷ []) i (call_of e.event) ≡ true
  has_turn-own entries i e h = turn_by entries i e (call_of e.event) (calls_ahead-own entries i e) h

  -- the moment of the turn, once it is there, stays
  pub turn_moment-found : (entries : List (Entry K)) (i : ℕ) (e : Entry K) (call : CallId) (m : ℤ)
      → turn_moment setup entries i call ≡ Some m → turn_moment setup (entries ++ e ∷ []) i call ≡ Some m
  unfolding turn_moment
  turn_moment-found entries i e call m h = moment_by (find (is_poll_at_turn setup i call) (each_after [] entries)) refl h
    where
      moment_by : (o : Option (List (Entry K) × Entry K))
          → find (is_poll_at_turn setup i call) (each_after [] entries) ≡ o
          → option_and_then (λ (p : List (Entry K) × Entry K). poll_moment p.1.event) o ≡ Some m
          → option_and_then (λ (p : List (Entry K) × Entry K). poll_moment p.1.event)
          (find (is_poll_at_turn setup i call) (each_after [] (entries ++ e ∷ [])))
          ≡ Some m
      moment_by None f g = cc
      moment_by (Some p) f g = rw (each_after-more [] entries e, find-more_found (is_poll_at_turn setup i call) (each_after [] entries) (entries, e) p f) g

  -- what is no poll of the call at its turn leaves the moment
  pub turn_moment-no : (entries : List (Entry K)) (i : ℕ) (e : Entry K) (call : CallId)
      → is_poll_at_turn setup i call (entries, e) ≡ false
      → turn_moment setup (entries ++ e ∷ []) i call ≡ turn_moment setup entries i call
  unfolding turn_moment
  turn_moment-no entries i e call h = rw (each_after-more [] entries e, find-more_no (is_poll_at_turn setup i call) (each_after [] entries) (entries, e) h) refl

  -- no poll of the call came at its turn yet
  pub record HadNoTurn (entries : List (Entry K)) (i : ℕ) (call : CallId) : Type 0 where
    pub none : find (is_poll_at_turn setup i call) (each_after [] entries) ≡ None

  -- nor does it bring the turn
  pub had_no_turn-more : (entries : List (Entry K)) (i : ℕ) (e : Entry K) (call : CallId)
      → is_poll_at_turn setup i call (entries, e) ≡ false → HadNoTurn entries i call
      → HadNoTurn (entries ++ e ∷ []) i call
  had_no_turn-more entries i e call h n =
      record { none = rw (each_after-more [] entries e, find-more_no (is_poll_at_turn setup i call) (each_after [] entries) (entries, e) h) n.none }

  -- the first poll of the call at its turn sets the moment
  pub turn_moment-yes : (entries : List (Entry K)) (i : ℕ) (e : Entry K) (call : CallId)
      → HadNoTurn entries i call → is_poll_at_turn setup i call (entries, e) ≡ true
      → turn_moment setup (entries ++ e ∷ []) i call ≡ poll_moment e.event
  unfolding turn_moment
  turn_moment-yes entries i e call n h =
      rw (each_after-more [] entries e, find-more_yes (is_poll_at_turn setup i call) (each_after [] entries) (entries, e) n.none h) refl
