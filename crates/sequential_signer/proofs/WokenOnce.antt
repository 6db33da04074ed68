-- A queued call that has its turn was named by exactly one reply, and no call is named that is not queued.
use Rattle.std.proofs.Common.{◌≡◌, ℕ, ◌+◌, Bool, true, false, not, cond, ◌&&◌, ◌||◌, List, [], ◌∷◌, ◌++◌, Some, None, refl, sym, ◌∙◌, ap, subst, filter, length, length-append, inl, inr, arith}
use Rattle.std.specs.List.{list_any, list_all}
use Rattle.sign_base.specs.declared.call_id.CallId.{CallId}
use Rattle.sequential_signer.specs.Lookup.{HandOut, Refuse}
use Rattle.sequential_signer.specs.Policy.{Policy}
use Rattle.sequential_signer.specs.SequentialCall.{Asking, Over}
use Rattle.sequential_signer.specs.Setup.{Setup, cache_of}
use Rattle.sign_base.specs.Calls.{same_call}
use Rattle.sequential_signer.specs.Transcript.{committed_entries, call_of, is_out_of_memory, entries_of}
use Rattle.sequential_signer.specs.Phase.{Phase, Unknown, Unpolled, Queued, Loading, Signing, Ended, phase_of, phase_in, is_waiting, is_queued, is_waiting_poll}
use Rattle.sequential_signer.specs.Turn.{has_turn, hold_is_finished, calls_ahead, ends_hold}
use Rattle.sequential_signer.specs.Hold.{begin_of}
use Rattle.sequential_signer.specs.ExpectedReply.{expected_reply}
use Rattle.sequential_signer.specs.Legal.{IsLegal, IsLegalEntry}
use Rattle.sequential_signer.specs.LawsOfHandOver.{wake_of, is_call, times_woken, QueuedAtTurnWasWokenOnce, OnlyQueuedCallsAreWoken}
use Rattle.sequential_signer.specs.declared.event.Entry.{Entry}
use Rattle.sequential_signer.specs.declared.event.Event.{Event}
use Rattle.sequential_signer.specs.declared.event.Event.TheVariants.{Poll}
use Rattle.sequential_signer.specs.declared.event.Reply.{Reply}
use Rattle.sequential_signer.specs.declared.event.Reply.TheVariants.{NotNow, Pending}
use Rattle.sequential_signer.proofs.Lists.{filter-more_yes, filter-more_no, filter-within, list_all-same}
use Rattle.sign_base.proofs.Calls.{same_call-eq, same_call-refl, same_call-comm}
use Rattle.sequential_signer.proofs.OwnEntries.{to_queued}
use Rattle.sequential_signer.proofs.PollOrder.{has_turn-more, calls_ahead-own}
use Rattle.sequential_signer.proofs.LegalStep.{LegalStep, is_busy, not_now, begins, waits, pending, looks, takes_effect, accepts, fails, cancels, expected_step}
use Rattle.sequential_signer.proofs.Run.{IsRun, start, more, legal_run, legal_keeps, out_of_memory-is}
use Rattle.sequential_signer.proofs.NewNumbers.{new_is_unbegun}
use Rattle.sequential_signer.proofs.CallInvariant.{CallInvariant, unpolled_call, queued_call, loading_call, signing_call, over_call, cancelled_call, phase-other, phase-own_mark, refused_phase}
use Rattle.sequential_signer.proofs.CallInvariantSteps.{stands, unbegun, unbegun_blank, pending_phase}
use Rattle.sequential_signer.proofs.Queue.{finished_same}
use Rattle.sequential_signer.proofs.ExpectedReplies.{legal_before, legal_last}
use Rattle.sequential_signer.proofs.HandOver.{queued_is_in_queue}
use Rattle.sequential_signer.proofs.Wakings.{expected_names_turn, expected_names_queued}

-- how often a call in this phase was woken: while it is queued, once where it has its turn, and before not at
-- all
abbrev pub WokenSoFar : Phase → Bool → ℕ → Type 0
WokenSoFar Unknown turn times = times ≡ 0
WokenSoFar Unpolled turn times = times ≡ 0
WokenSoFar Queued turn times = times ≡ cond turn 1 0
WokenSoFar Loading turn times = Unit {0}
WokenSoFar Signing turn times = Unit {0}
WokenSoFar Ended turn times = Unit {0}

module _ {K : Type 0} (entries : List (Entry K)) (e : Entry K) (call : CallId) where
  woken-more : is_call call (wake_of e.reply) ≡ true
      → times_woken (entries ++ e ∷ []) call ≡ times_woken entries call + 1
  woken-more h =
      ap length (filter-more_yes (λ (x : Entry K). is_call call (wake_of x.reply)) entries e h)
      ∙ length-append (filter (λ (x : Entry K). is_call call (wake_of x.reply)) entries) (e ∷ [])

  woken-same : is_call call (wake_of e.reply) ≡ false
      → times_woken (entries ++ e ∷ []) call ≡ times_woken entries call
  woken-same h = ap length (filter-more_no (λ (x : Entry K). is_call call (wake_of x.reply)) entries e h)

plus_none : (n m : ℕ) → n ≡ m → n + 0 ≡ m
plus_none n m h = omega arith

-- another call's entry: the call is woken where it gets its turn
other_woken : (p : Phase) (was now : Bool) (times : ℕ) → (is_queued p ≡ true → was ≡ true → now ≡ true)
    → WokenSoFar p was times → (wakes : Bool) → (is_queued p && (now && not was)) ≡ wakes
    → WokenSoFar p now (times + cond wakes 1 0)
other_woken Unknown was now times m w false h = plus_none times 0 w
other_woken Unknown was now times m w true h = absurd (cc)
other_woken Unpolled was now times m w false h = plus_none times 0 w
other_woken Unpolled was now times m w true h = absurd (cc)
other_woken Queued true true times m w false h = plus_none times 1 w
other_woken Queued true true times m w true h = absurd (cc)
other_woken Queued true false times m w wakes h = let bad : false ≡ true = m refl refl in absurd (cc)
other_woken Queued false true times m w true h = let none : times ≡ 0 = w in omega arith
other_woken Queued false true times m w false h = absurd (cc)
other_woken Queued false false times m w false h = plus_none times 0 w
other_woken Queued false false times m w true h = absurd (cc)
other_woken Loading was now times m w wakes h = tt
other_woken Signing was now times m w wakes h = tt
other_woken Ended was now times m w wakes h = tt

-- a call whose turn is not there was not woken
waiting_unwoken : (p : Phase) (times : ℕ) → is_waiting p ≡ true → WokenSoFar p false times → times ≡ 0
waiting_unwoken Unpolled times h w = w
waiting_unwoken Queued times h w = w
waiting_unwoken Unknown times h w = cc
waiting_unwoken Loading times h w = cc
waiting_unwoken Signing times h w = cc
waiting_unwoken Ended times h w = cc

queued_unwoken : (p : Phase) (times : ℕ) → is_waiting p ≡ true → times ≡ 0
    → WokenSoFar (to_queued p) false times
queued_unwoken Unpolled times h n = n
queued_unwoken Queued times h n = n
queued_unwoken Unknown times h n = absurd (cc)
queued_unwoken Loading times h n = absurd (cc)
queued_unwoken Signing times h n = absurd (cc)
queued_unwoken Ended times h n = absurd (cc)

busy_free : (p : Phase) (turn : Bool) (times : ℕ) → is_busy p ≡ true → WokenSoFar (to_queued p) turn times
busy_free Loading turn times h = tt
busy_free Signing turn times h = tt
busy_free Unknown turn times h = absurd (cc)
busy_free Unpolled turn times h = absurd (cc)
busy_free Queued turn times h = absurd (cc)
busy_free Ended turn times h = absurd (cc)

module _ {K D : Type 0} (policy : Policy K D) (setup : Setup D) where
  -- how often the call was woken after these entries
  abbrev pub IsWokenSoFar : List (Entry K) → ℕ → CallId → Type 0
  IsWokenSoFar entries i call = WokenSoFar (phase_of entries call) (has_turn setup entries i call) (times_woken entries call)

  -- a call that was never begun is unknown
  pub unbegun_unknown : (entries : List (Entry K)) (i : ℕ) (call : CallId) (p : Phase)
      → begin_of entries call ≡ None → CallInvariant setup entries i call p → p ≡ Unknown
  unbegun_unknown entries i call Unknown n s = refl
  unbegun_unknown entries i call Unpolled n (unpolled_call w _ _) = let h = w.begun in absurd (cc)
  unbegun_unknown entries i call Queued n (queued_call w _) = let h = w.begun in absurd (cc)
  unbegun_unknown entries i call Loading n (loading_call l) = let h = l.begun in absurd (cc)
  unbegun_unknown entries i call Signing n (signing_call s) = let h = s.begun in absurd (cc)
  unbegun_unknown entries i call Ended n (over_call s) = let h = s.begun in absurd (cc)
  unbegun_unknown entries i call Ended n (cancelled_call c) = let h = c.begun in absurd (cc)

  module _ (entries : List (Entry K)) (run : IsRun policy setup entries) (i : ℕ) where
    -- an entry of the call itself that ends no hold leaves its turn
    own_turn_same : (e : Entry K) → ends_hold e.reply ≡ false
        → has_turn setup (entries ++ e ∷ []) i (call_of e.event) ≡ has_turn setup entries i (call_of e.event)
    unfolding has_turn
    own_turn_same e f =
        ap (list_all (hold_is_finished (entries ++ e ∷ []))) (calls_ahead-own setup entries i e)
        ∙ list_all-same (hold_is_finished (entries ++ e ∷ [])) (hold_is_finished entries) (λ x. finished_same setup entries i e f x) (calls_ahead setup entries i (call_of e.event))

    begun_unwoken : (p : Phase) (turn : Bool) (times : ℕ) → p ≡ Unknown → WokenSoFar p turn times → times ≡ 0
    begun_unwoken Unknown turn times h w = w
    begun_unwoken Unpolled turn times h w = w
    begun_unwoken Queued turn times h w = cc
    begun_unwoken Loading turn times h w = cc
    begun_unwoken Signing turn times h w = cc
    begun_unwoken Ended turn times h w = cc

    unpolled_or_queued : (b turn : Bool) (times : ℕ) → b ≡ false → times ≡ 0
        → WokenSoFar (cond b Queued Unpolled) turn times
    unpolled_or_queued false turn times h n = n
    unpolled_or_queued true turn times h n = absurd (cc)

    -- an entry of the call itself
    own_woken : (event : Event K) (reply : Reply K) → LegalStep policy setup entries event reply
        → cache_of setup (call_of event) ≡ Some i
        → times_woken (entries ++ record { event = event; reply = reply } ∷ []) (call_of event)
        ≡ times_woken entries (call_of event)
        → IsWokenSoFar entries i (call_of event)
        → IsWokenSoFar (entries ++ record { event = event; reply = reply } ∷ []) i (call_of event)
    own_woken event reply (not_now e) at n w =
        rw (refused_phase setup entries i e (call_of e) (same_call-refl (call_of e)), own_turn_same (record { event = e; reply = NotNow }) refl, n) w
    own_woken event reply (begins call head expires_in j atj new) at n w =
        let s : CallInvariant setup entries i call (phase_of entries call) = stands policy setup entries run call i at in
        let none : begin_of entries call ≡ None = unbegun policy setup (entries_of entries call) (new_is_unbegun call entries new) in
        let blank = unbegun_blank policy setup entries i call (phase_of entries call) none s in
        let zero_times : times_woken entries call ≡ 0 = begun_unwoken (phase_of entries call) (has_turn setup entries i call) (times_woken entries call) (unbegun_unknown entries i call (phase_of entries call) none s) w in
        rw (phase-own_mark setup entries i (record { event = event; reply = reply }) call (same_call-refl call) refl, n)
        (unpolled_or_queued (list_any is_waiting_poll (entries_of entries call) || false) _ (times_woken entries call) (ap (λ v. v || false) blank.waited) zero_times)
    own_woken event reply (waits call now j atj waiting t) at n w =
        let same : j ≡ i = cc in
        let no_turn : has_turn setup entries i call ≡ false = subst (λ k. has_turn setup entries k call ≡ false) same t in
        let none : times_woken entries call ≡ 0 = waiting_unwoken (phase_of entries call) (times_woken entries call) waiting (subst (λ v. WokenSoFar (phase_of entries call) v (times_woken entries call)) no_turn w) in
        rw (pending_phase policy setup entries i call at now (phase_of entries call) refl, own_turn_same (record { event = Poll call now; reply = Pending }) refl, no_turn, n)
        (queued_unwoken (phase_of entries call) (times_woken entries call) waiting none)
    own_woken event reply (pending call now busy) at n w =
        rw (pending_phase policy setup entries i call at now (phase_of entries call) refl) (busy_free (phase_of entries call) _ _ busy)
    own_woken event reply (looks call now j (Asking k) wake waiting t g) at n w = rw (phase-own_mark setup entries i (record { event = event; reply = reply }) call (same_call-refl call) refl) tt
    own_woken event reply (looks call now j (Over (HandOut c) left) wake waiting t g) at n w = rw (phase-own_mark setup entries i (record { event = event; reply = reply }) call (same_call-refl call) refl) tt
    own_woken event reply (looks call now j (Over (Refuse cause) left) wake waiting t g) at n w = rw (phase-own_mark setup entries i (record { event = event; reply = reply }) call (same_call-refl call) refl) tt
    own_woken event reply (takes_effect call now answer j (Asking k) wake loading g) at n w = rw (phase-own_mark setup entries i (record { event = event; reply = reply }) call (same_call-refl call) refl) tt
    own_woken event reply (takes_effect call now answer j (Over (HandOut c) left) wake loading g) at n w = rw (phase-own_mark setup entries i (record { event = event; reply = reply }) call (same_call-refl call) refl) tt
    own_woken event reply (takes_effect call now answer j (Over (Refuse cause) left) wake loading g) at n w = rw (phase-own_mark setup entries i (record { event = event; reply = reply }) call (same_call-refl call) refl) tt
    own_woken event reply (accepts call candidate s) at n w = rw (phase-own_mark setup entries i (record { event = event; reply = reply }) call (same_call-refl call) refl) tt
    own_woken event reply (fails call x j atj s) at n w = rw (phase-own_mark setup entries i (record { event = event; reply = reply }) call (same_call-refl call) refl) tt
    own_woken event reply (cancels call wake l) at n w = rw (phase-own_mark setup entries i (record { event = event; reply = reply }) call (same_call-refl call) refl) tt

    -- an entry with the expected reply
    woken_step : (event : Event K) (call : CallId) → cache_of setup call ≡ Some i
        → IsWokenSoFar entries i call → (s : Bool) → same_call call (call_of event) ≡ s
        → IsWokenSoFar
        (entries ++ record { event = event; reply = expected_reply policy setup entries event } ∷ []) i call
    woken_step event call at w true s =
        let e : Entry K = record { event = event; reply = expected_reply policy setup entries event } in
        let same : call_of event ≡ call = sym (same_call-eq call (call_of event) s) in
        let none : is_call call (wake_of (expected_reply policy setup entries event)) ≡ false =
        expected_names_turn policy setup entries run call i at event
        ∙ ap (λ v. (not v && is_queued (phase_of entries call)) && (has_turn setup (entries ++ record { event = event; reply = expected_reply policy setup entries event } ∷ []) i call && not (has_turn setup entries i call))) (same_call-comm (call_of event) call ∙ s) in
        subst (λ c. IsWokenSoFar (entries ++ record { event = event; reply = expected_reply policy setup entries event } ∷ []) i c) same
        (own_woken event (expected_reply policy setup entries event) (expected_step policy setup entries event) (ap (cache_of setup) same ∙ at)
        (subst (λ c. times_woken (entries ++ record { event = event; reply = expected_reply policy setup entries event } ∷ []) c ≡ times_woken entries c) (sym same) (woken-same entries e call none))
        (subst (λ c. IsWokenSoFar entries i c) (sym same) w))
    woken_step event call at w false s =
        let e : Entry K = record { event = event; reply = expected_reply policy setup entries event } in
        rw (phase-other setup entries i e call s)
        (by_name (is_call call (wake_of (expected_reply policy setup entries event))) refl)
      where
        keeps : is_queued (phase_of entries call) ≡ true → has_turn setup entries i call ≡ true
            → has_turn setup
            (entries ++ record { event = event; reply = expected_reply policy setup entries event } ∷ []) i
            call
            ≡ true
        keeps q t = has_turn-more setup entries i (record { event = event; reply = expected_reply policy setup entries event }) call (queued_is_in_queue policy setup entries run call i at q).polled t

        counted : (b : Bool) → is_call call (wake_of (expected_reply policy setup entries event)) ≡ b
            → times_woken
            (entries ++ record { event = event; reply = expected_reply policy setup entries event } ∷ []) call
            ≡ times_woken entries call + cond b 1 0
        counted true h = woken-more entries (record { event = event; reply = expected_reply policy setup entries event }) call h
        counted false h =
            woken-same entries (record { event = event; reply = expected_reply policy setup entries event }) call h
            ∙ sym (plus_none (times_woken entries call) (times_woken entries call) refl)

        by_name : (b : Bool) → is_call call (wake_of (expected_reply policy setup entries event)) ≡ b
            → WokenSoFar (phase_of entries call)
            (has_turn setup (entries
            ++ record { event = event; reply = expected_reply policy setup entries event } ∷ []) i call)
            (times_woken (entries
            ++ record { event = event; reply = expected_reply policy setup entries event } ∷ []) call)
        by_name b h =
            rw (counted b h)
            (other_woken (phase_of entries call) (has_turn setup entries i call) (has_turn setup (entries ++ record { event = event; reply = expected_reply policy setup entries event } ∷ []) i call) (times_woken entries call) keeps w b
            (ap (λ v. (not v && is_queued (phase_of entries call)) && (has_turn setup (entries ++ record { event = event; reply = expected_reply policy setup entries event } ∷ []) i call && not (has_turn setup entries i call))) (sym (same_call-comm (call_of event) call ∙ s))
            ∙ sym (expected_names_turn policy setup entries run call i at event)
            ∙ h))

  start_woken : (i : ℕ) (call : CallId) → IsWokenSoFar [] i call
  unfolding phase_of phase_in entries_of
  start_woken i call = refl

  record IsWokenRun (call : CallId) (i : ℕ) (entries : List (Entry K)) : Type 0 where
    pub run : IsRun policy setup entries
    pub woken : IsWokenSoFar entries i call

  -- the committed entries of a legal transcript woke a call as often as its phase says
  legal_woken : (entries : List (Entry K)) → IsLegal policy setup entries → (call : CallId) (i : ℕ)
      → cache_of setup call ≡ Some i → IsWokenSoFar (committed_entries entries) i call
  legal_woken entries l call i at =
      (legal_keeps policy setup (IsWokenRun call i)
      (λ before event w. record {
        run = more before event _ w.run (expected_step policy setup before event);
        woken = woken_step before w.run i event call at w.woken (same_call call (call_of event)) refl;
      })
      (record { run = start; woken = start_woken i call }) entries l).woken

-- an entry that ran out of memory wakes nobody
lost_names_nobody : {K : Type 0} (call : CallId) (r : Reply K) → is_call call (wake_of r) ≡ true
    → not (is_out_of_memory r) ≡ true
lost_names_nobody {K = K} call r h = by_memory (is_out_of_memory r) refl
  where
    by_memory : (m : Bool) → is_out_of_memory r ≡ m → not m ≡ true
    by_memory false m = refl
    by_memory true m = let none : is_call call (wake_of r) ≡ false = ap (λ (x : Reply K). is_call call (wake_of x)) (out_of_memory-is r m) in cc

times_woken-committed_entries : {K : Type 0} (entries : List (Entry K)) (call : CallId)
    → times_woken (committed_entries entries) call ≡ times_woken entries call
unfolding committed_entries
times_woken-committed_entries {K = K} entries call =
    ap length (filter-within (λ (e : Entry K). is_call call (wake_of e.reply)) (λ (e : Entry K). not (is_out_of_memory e.reply)) (λ e h. lost_names_nobody call e.reply h) entries)

once_by : (p : Phase) (turn : Bool) (times : ℕ) → is_queued p ≡ true → turn ≡ true → WokenSoFar p turn times
    → times ≡ 1
once_by Queued true times q t w = w
once_by Queued false times q t w = cc
once_by Unknown turn times q t w = cc
once_by Unpolled turn times q t w = cc
once_by Loading turn times q t w = cc
once_by Signing turn times q t w = cc
once_by Ended turn times q t w = cc

-- a queued call that has its turn was named once, and no call was named that was not queued
pub queued_at_turn_was_woken_once : (K D : Type 0) → QueuedAtTurnWasWokenOnce K D
queued_at_turn_was_woken_once K D policy setup entries call i l at q t =
    sym (times_woken-committed_entries entries call)
    ∙ once_by (phase_of (committed_entries entries) call) (has_turn setup (committed_entries entries) i call) (times_woken (committed_entries entries) call) q t (legal_woken policy setup entries l call i at)

only_queued_by : {K D : Type 0} (policy : Policy K D) (setup : Setup D) (before : List (Entry K))
    → IsRun policy setup before → (entry : Entry K) (call : CallId) → IsLegalEntry policy setup before entry
    → wake_of entry.reply ≡ Some call → is_queued (phase_of before call) ≡ true
only_queued_by policy setup before run entry call (inl due) h = expected_names_queued policy setup before run entry.event call (ap wake_of (sym due) ∙ h)
only_queued_by policy setup before run entry call (inr lost) h = let none : wake_of entry.reply ≡ None = ap wake_of lost.0 in cc

pub only_queued_calls_are_woken : (K D : Type 0) → OnlyQueuedCallsAreWoken K D
only_queued_calls_are_woken K D policy setup before entry call l h =
    only_queued_by policy setup (committed_entries before) (legal_run policy setup before (legal_before policy setup before entry l)) entry call (legal_last policy setup before entry l) h
