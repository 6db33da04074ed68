-- Caches stand apart: the entries of one cache are a legal transcript by themselves.
use Rattle.std.proofs.Common.{◌≡◌, ℕ, Bool, true, false, not, ◌&&◌, ◌||◌, ◌==◌, nat_lt, List, [], ◌∷◌, ◌++◌, Option, Some, None, option_map, refl, sym, ◌∙◌, ap, subst, filter, find, fold, slice_get}
use Rattle.std.specs.List.{list_all}
use Rattle.std.proofs.lemmas.List.{append-nil, append_assoc}
use Rattle.sign_base.specs.declared.call_id.CallId.{CallId}
use Rattle.sequential_signer.specs.Policy.{Policy}
use Rattle.sequential_signer.specs.SequentialCall.{HoldInput}
use Rattle.sequential_signer.specs.Setup.{Setup, cache_of, is_of_cache, is_number}
use Rattle.sequential_signer.specs.Transcript.{call_of, is_about, entries_of, committed_entries, is_out_of_memory}
use Rattle.sequential_signer.specs.Phase.{is_begun, is_begin_under, is_new_number, phase_of, phase_in}
use Rattle.sequential_signer.specs.Turn.{is_fitting_poll, is_poll_at, poll_order, calls_ahead, before_call, hold_is_finished, is_served, has_turn}
use Rattle.sequential_signer.specs.Hold.{begin_in, begin_of, turn_moment, answers_of, answers_in, hold_input}
use Rattle.sequential_signer.specs.SequentialCache.{cache_after, served_calls, sequential_cache}
use Rattle.sequential_signer.specs.Wake.{gets_turn, call_to_wake}
use Rattle.sequential_signer.specs.Legal.{IsLegal, IsLegalAfter, IsLegalEntry}
use Rattle.sequential_signer.specs.LawsOfCaches.{entries_at, CachesAreIsolated}
use Rattle.sequential_signer.specs.declared.event.Entry.{Entry}
use Rattle.sequential_signer.specs.declared.event.Event.{Event}
use Rattle.sequential_signer.specs.declared.event.Reply.{Reply}
use Rattle.sign_base.proofs.Truth.{same_number, and_right}
use Rattle.sequential_signer.proofs.Lists.{filter-more_yes, filter-more_no, filter-within, filter-swap, list_all-left_out, fold-same, filter-same_on, list_all-same_on, find-same_on}
use Rattle.sign_base.proofs.Calls.{same_call-eq}
use Rattle.sequential_signer.proofs.Distinct.{list_all-filter_of}
use Rattle.sequential_signer.proofs.Run.{legal-more}
use Rattle.sequential_signer.proofs.CacheLaw.{order_of_cache, is_number-eq}
use Rattle.sequential_signer.proofs.SameReplies.{ReadsSame, IsLegalEntry-same}
use Rattle.sequential_signer.proofs.LeftOut.{turn_moment-stays}
use Rattle.sequential_signer.proofs.Wakings.{list_all-before}

module _ {K D : Type 0} (setup : Setup D) (i : ℕ) where
  -- whether an entry is of the cache
  abbrev pub is_here : Entry K → Bool
  is_here e = is_of_cache setup i (call_of e.event)

  -- the entries of a call of the cache are all here
  own_here : (b : CallId) → is_of_cache setup i b ≡ true → (e : Entry K) → is_about b e ≡ true
      → is_here e ≡ true
  own_here b here e own = ap (is_of_cache setup i) (sym (same_call-eq b (call_of e.event) own)) ∙ here

  entries_of-here : (entries : List (Entry K)) (b : CallId) → is_of_cache setup i b ≡ true
      → entries_of (entries_at setup i entries) b ≡ entries_of entries b
  unfolding entries_of
  entries_of-here entries b here = filter-within (is_about b) is_here (own_here b here) entries

  module _ (entries : List (Entry K)) (b : CallId) (here : is_of_cache setup i b ≡ true) where
    phase_of-here : phase_of (entries_at setup i entries) b ≡ phase_of entries b
    unfolding phase_of
    phase_of-here = ap phase_in (entries_of-here entries b here)

    begin_of-here : begin_of (entries_at setup i entries) b ≡ begin_of entries b
    begin_of-here = ap begin_in (entries_of-here entries b here)

    answers_of-here : answers_of (entries_at setup i entries) b ≡ answers_of entries b
    answers_of-here = ap answers_in (entries_of-here entries b here)

    hold_is_finished-here : hold_is_finished (entries_at setup i entries) b ≡ hold_is_finished entries b
    unfolding hold_is_finished
    hold_is_finished-here = rw (entries_of-here entries b here) refl

    is_served-here : is_served (entries_at setup i entries) b ≡ is_served entries b
    unfolding is_served
    is_served-here = rw (entries_of-here entries b here) refl

    -- a begin under the call's handle is of the call's cache
    other_begin : (e : Entry K) → is_here e ≡ false → is_begin_under b.handle e ≡ false
    other_begin e out = by_handle (is_begin_under b.handle e) refl
      where
        by_handle : (t : Bool) → is_begin_under b.handle e ≡ t → t ≡ false
        by_handle false t = refl
        by_handle true t =
            let same : (call_of e.event).handle ≡ b.handle = same_number (call_of e.event).handle b.handle (and_right (is_begun e.reply) ((call_of e.event).handle == b.handle) t) in
            let bad : is_here e ≡ true = ap (λ h. is_number i (option_map (λ r. r.cache) (slice_get setup.handles h))) same ∙ here in
            cc

    is_new_number-here : is_new_number (entries_at setup i entries) b ≡ is_new_number entries b
    unfolding is_new_number
    is_new_number-here =
        list_all-left_out (λ (e : Entry K). not (is_begin_under b.handle e) || nat_lt (call_of e.event).number b.number) is_here entries
        (each entries)
      where
        step : (e : Entry K) → (h : Bool) → is_here e ≡ h
            → (h || (not (is_begin_under b.handle e) || nat_lt (call_of e.event).number b.number)) ≡ true
        step e true h = refl
        step e false h = let out : is_begin_under b.handle e ≡ false = other_begin e h in rw out refl

        each : (es : List (Entry K))
            → list_all
            (λ (e : Entry K). is_here e ||
            (not (is_begin_under b.handle e) || nat_lt (call_of e.event).number b.number))
            es
            ≡ true
        each [] = refl
        each (e ∷ es) = let first : (is_here e || (not (is_begin_under b.handle e) || nat_lt (call_of e.event).number b.number)) ≡ true = step e (is_here e) refl in rw (first, each es) refl

  poll_order-here : (entries : List (Entry K))
      → poll_order setup (entries_at setup i entries) i ≡ poll_order setup entries i
  unfolding poll_order
  poll_order-here entries = rw (filter-within (is_poll_at setup i) is_here (λ e h. and_right (is_fitting_poll e) (is_of_cache setup i (call_of e.event)) h) entries) refl

  has_turn-here : (entries : List (Entry K)) (b : CallId)
      → has_turn setup (entries_at setup i entries) i b ≡ has_turn setup entries i b
  unfolding has_turn
  has_turn-here entries b =
      ap (λ order. list_all (hold_is_finished (entries_at setup i entries)) (before_call b order)) (poll_order-here entries)
      ∙ list_all-same_on (hold_is_finished (entries_at setup i entries)) (hold_is_finished entries) (is_of_cache setup i) (λ x here. hold_is_finished-here entries x here) (calls_ahead setup entries i b)
      (list_all-before (is_of_cache setup i) b (poll_order setup entries i) (order_of_cache setup entries i))

  turn_moment-here : (entries : List (Entry K)) (b : CallId) → is_of_cache setup i b ≡ true
      → turn_moment setup (entries_at setup i entries) i b ≡ turn_moment setup entries i b
  turn_moment-here entries b here =
      turn_moment-stays setup is_here (λ _. true) i b (λ before _. has_turn-here before b)
      (λ before x s. ap (λ v. (v && is_fitting_poll x) && has_turn setup before i b) (not_about x s (is_about b x) refl))
      entries (all_true entries)
    where
      not_about : (x : Entry K) → is_here x ≡ false → (t : Bool) → is_about b x ≡ t → t ≡ false
      not_about x s false t = refl
      not_about x s true t = let bad : is_here x ≡ true = own_here b here x t in cc

      all_true : (es : List (Entry K)) → list_all (λ _. true) es ≡ true
      all_true [] = refl
      all_true (e ∷ es) = all_true es

  hold_input-here : (entries : List (Entry K)) (b : CallId) → is_of_cache setup i b ≡ true
      → hold_input {K = K} setup (entries_at setup i entries) i b ≡ hold_input setup entries i b
  hold_input-here entries b here = rw (begin_of-here entries b here, turn_moment-here entries b here, answers_of-here entries b here) refl

  sequential_cache-here : (policy : Policy K D) (entries : List (Entry K))
      → sequential_cache policy setup (entries_at setup i entries) i ≡ sequential_cache policy setup entries i
  unfolding sequential_cache
  sequential_cache-here policy entries =
      ap (fold (λ cache b. cache_after policy (slice_get setup.loaders i) (hold_input setup (entries_at setup i entries) i b) cache) None) served_same
      ∙ fold-same
      (λ cache b. cache_after policy (slice_get setup.loaders i) (hold_input setup (entries_at setup i entries) i b) cache)
      (λ cache b. cache_after policy (slice_get setup.loaders i) (hold_input setup entries i b) cache)
      (is_of_cache setup i)
      (λ b here cache. ap (λ (o : Option (HoldInput K D)). cache_after policy (slice_get setup.loaders i) o cache) (hold_input-here entries b here))
      (served_calls setup entries i)
      (list_all-filter_of (is_of_cache setup i) (is_served entries) (poll_order setup entries i) (order_of_cache setup entries i))
      None
    where
      served_same : served_calls setup (entries_at setup i entries) i ≡ served_calls setup entries i
      served_same =
          ap (filter (is_served (entries_at setup i entries))) (poll_order-here entries)
          ∙ filter-same_on (is_served (entries_at setup i entries)) (is_served entries) (is_of_cache setup i) (λ b here. is_served-here entries b here) (poll_order setup entries i) (order_of_cache setup entries i)

-- the expected reply to an event of the cache depends on the entries of the cache alone
module _ {K D : Type 0} (policy : Policy K D) (setup : Setup D) (i : ℕ) (entries : List (Entry K)) where
  module _ (event : Event K) (here : is_of_cache setup i (call_of event) ≡ true) where
    wake_here : (r : Reply K)
        → call_to_wake setup (entries_at setup i entries) i (record { event = event; reply = r })
        ≡ call_to_wake setup entries i (record { event = event; reply = r })
    unfolding call_to_wake
    wake_here r =
        ap (find (gets_turn setup (entries_at setup i entries) i (record { event = event; reply = r }))) (poll_order-here setup i entries)
        ∙ find-same_on (gets_turn setup (entries_at setup i entries) i (record { event = event; reply = r })) (gets_turn setup entries i (record { event = event; reply = r })) (is_of_cache setup i) gets_here (poll_order setup entries i) (order_of_cache setup entries i)
      where
        gets_here : (b : CallId) → is_of_cache setup i b ≡ true
            → gets_turn setup (entries_at setup i entries) i (record { event = event; reply = r }) b
            ≡ gets_turn setup entries i (record { event = event; reply = r }) b
        gets_here b own =
            let e : Entry K = record { event = event; reply = r } in
            let after : has_turn setup (entries_at setup i entries ++ record { event = event; reply = r } ∷ []) i b ≡ has_turn setup (entries ++ record { event = event; reply = r } ∷ []) i b =
            ap (λ v. has_turn setup v i b) (sym (filter-more_yes (is_here setup i) entries e here)) ∙ has_turn-here setup i (entries ++ e ∷ []) b in
            rw (phase_of-here setup i entries b own, after, has_turn-here setup i entries b) refl

  reads_here : (event : Event K) → is_of_cache setup i (call_of event) ≡ true
      → ReadsSame policy setup (entries_at setup i entries) entries event
  reads_here event here = record {
    phase = phase_of-here setup i entries (call_of event) here;
    new = is_new_number-here setup i entries (call_of event) here;
    begin = begin_of-here setup i entries (call_of event) here;
    answers = λ _. answers_of-here setup i entries (call_of event) here;
    turn = λ j at. here_alone j at (λ n. has_turn setup (entries_at setup i entries) n (call_of event) ≡ has_turn setup entries n (call_of event)) (has_turn-here setup i entries (call_of event));
    moment = λ j at. here_alone j at (λ n. turn_moment setup (entries_at setup i entries) n (call_of event) ≡ turn_moment setup entries n (call_of event)) (turn_moment-here setup i entries (call_of event) here);
    cache = λ j at. here_alone j at (λ n. sequential_cache policy setup (entries_at setup i entries) n ≡ sequential_cache policy setup entries n) (sequential_cache-here setup i policy entries);
    wake = λ j at r. here_alone j at (λ n. call_to_wake setup (entries_at setup i entries) n (record { event = event; reply = r }) ≡ call_to_wake setup entries n (record { event = event; reply = r })) (wake_here event here r);
  }
    where
      here_alone : (j : ℕ) → cache_of setup (call_of event) ≡ Some j → (P : ℕ → Type 0) → P i → P j
      here_alone j at P p =
          let own : cache_of setup (call_of event) ≡ Some i = is_number-eq i (cache_of setup (call_of event)) here in
          let same : i ≡ j = cc in
          subst P same p

  legal_here : (e : Entry K) → is_of_cache setup i (call_of e.event) ≡ true
      → IsLegalEntry policy setup entries e → IsLegalEntry policy setup (entries_at setup i entries) e
  legal_here e here legal = IsLegalEntry-same policy setup (entries_at setup i entries) entries e (reads_here e.event here) legal

committed_entries-here : {K D : Type 0} (setup : Setup D) (i : ℕ) (entries : List (Entry K))
    → committed_entries (entries_at setup i entries) ≡ entries_at setup i (committed_entries entries)
unfolding committed_entries
committed_entries-here {K = K} setup i entries = filter-swap (λ (e : Entry K). not (is_out_of_memory e.reply)) (is_here setup i) entries

module _ {K D : Type 0} (policy : Policy K D) (setup : Setup D) (i : ℕ) where
  legal_at_step : (before : List (Entry K)) (e : Entry K) → IsLegal policy setup (entries_at setup i before)
      → IsLegalEntry policy setup (committed_entries before) e → (s : Bool) → is_here setup i e ≡ s
      → IsLegal policy setup (entries_at setup i (before ++ e ∷ []))
  legal_at_step before e l legal true s =
      subst (λ v. IsLegal policy setup v) (sym (filter-more_yes (is_here setup i) before e s))
      (legal-more policy setup (entries_at setup i before) e l
      (subst (λ v. IsLegalEntry policy setup v e) (sym (committed_entries-here setup i before)) (legal_here policy setup i (committed_entries before) e s legal)))
  legal_at_step before e l legal false s = subst (λ v. IsLegal policy setup v) (sym (filter-more_no (is_here setup i) before e s)) l

  legal_at_after : (before rest : List (Entry K)) → IsLegal policy setup (entries_at setup i before)
      → IsLegalAfter policy setup before rest → IsLegal policy setup (entries_at setup i (before ++ rest))
  legal_at_after before [] l after = subst (λ v. IsLegal policy setup (entries_at setup i v)) (sym (append-nil before)) l
  legal_at_after before (e ∷ rest) l after =
      subst (λ v. IsLegal policy setup (entries_at setup i v)) (append_assoc before (e ∷ []) rest)
      (legal_at_after (before ++ e ∷ []) rest (legal_at_step before e l after.0 (is_here setup i e) refl) after.1)

-- the entries of one cache are a legal transcript by themselves
pub caches_are_isolated : (K D : Type 0) → CachesAreIsolated K D
unfolding IsLegal
caches_are_isolated K D policy setup entries i l = legal_at_after policy setup i [] entries tt l
