-- Whom replies wake: each reply names exactly the call that gets its turn by it.
use Rattle.std.proofs.Common.{◌≡◌, ℕ, ℤ, Bool, true, false, not, cond, ◌&&◌, ◌||◌, ◌==◌, List, [], ◌∷◌, ◌++◌, Option, Some, None, refl, sym, ◌∙◌, ap, subst, find, if◌then◌else◌}
use Rattle.std.specs.List.{list_any, list_all}
use Rattle.sign_base.specs.declared.call_id.CallId.{CallId}
use Rattle.sequential_signer.specs.Lookup.{HandOut, Refuse}
use Rattle.sequential_signer.specs.Policy.{Policy}
use Rattle.sequential_signer.specs.SequentialCall.{HoldInput, Progress, Asking, Over, sequential_call}
use Rattle.sequential_signer.specs.Setup.{Setup, cache_of, is_of_cache}
use Rattle.sign_base.specs.Calls.{same_call}
use Rattle.sequential_signer.specs.Transcript.{call_of}
use Rattle.sequential_signer.specs.Phase.{phase_of, is_waiting, is_queued, is_signing, is_not_now, event_fits}
use Rattle.sequential_signer.specs.Turn.{poll_order, hold_is_finished, has_turn, calls_ahead, before_call, ends_hold, is_poll_at}
use Rattle.sequential_signer.specs.Hold.{look_input}
use Rattle.sequential_signer.specs.SequentialCache.{sequential_cache}
use Rattle.sequential_signer.specs.Wake.{gets_turn, call_to_wake}
use Rattle.sequential_signer.specs.ExpectedReply.{progress_reply, with_wake, hold_progress, hold_reply, progress_at, waking, fitting_reply, reply_at, expected_reply}
use Rattle.sequential_signer.specs.LawsOfHandOver.{wake_of, is_call}
use Rattle.sequential_signer.specs.declared.event.Entry.{Entry}
use Rattle.sequential_signer.specs.declared.event.Event.{Event}
use Rattle.sequential_signer.specs.declared.event.Event.TheVariants.{Begin, Poll, Provided, Signed, Cancel}
use Rattle.sequential_signer.specs.declared.event.Loader.{Loader}
use Rattle.sequential_signer.specs.declared.event.Reply.{Reply}
use Rattle.sequential_signer.specs.declared.event.Reply.TheVariants.{Begun, Pending, NotNow, Ask, Sign, Refused, Done, Cancelled}
use Rattle.sequential_signer.specs.declared.event.Verdict.TheVariants.{Accepted, Failed}
use Rattle.sequential_signer.specs.declared.event.Why.{Why}
use Rattle.sequential_signer.specs.declared.event.Why.TheVariants.{Service}
use Rattle.sequential_signer.proofs.Lists.{or_true, and_false, and_not, and_false_and, not_true, list_all-same, list_all-same_on}
use Rattle.sign_base.proofs.Calls.{same_call-eq, same_call-refl, same_call-comm}
use Rattle.sign_base.proofs.Truth.{and_left, and_right, same_number, other_number}
use Rattle.sequential_signer.proofs.PollOrder.{is_polled, is_polled-more, poll_order-same, poll_order-poll, calls_ahead-more, hold_is_finished-own, hold_is_finished-other}
use Rattle.sequential_signer.proofs.Run.{IsRun}
use Rattle.sequential_signer.proofs.CallInvariantSteps.{run_signs}
use Rattle.sequential_signer.proofs.CacheLaw.{list_all-member, is_number-eq, order_of_cache}
use Rattle.sequential_signer.proofs.CacheRows.{one_turn}
use Rattle.sequential_signer.proofs.Queue.{finished_same}
use Rattle.sequential_signer.proofs.HandOver.{IsInQueue, queued_is_in_queue}

-- what is found passes the test, and stands in the list
pub record FoundCall (p : CallId → Bool) (xs : List CallId) (call : CallId) : Type 0 where
  pub passes : p call ≡ true
  pub there : list_any (same_call call) xs ≡ true

find-passes : (p : CallId → Bool) (xs : List CallId) (call : CallId) → find p xs ≡ Some call
    → FoundCall p xs call
find-passes p [] call h = absurd (cc)
find-passes p (x ∷ xs) call h =
    (elim (p x) as (λ v. p x ≡ v → cond v (Some x) (find p xs) ≡ Some call → FoundCall p (x ∷ xs) call) [
      | true ↦ λ t k. let e : x ≡ call = cc in subst (λ y. FoundCall p (x ∷ xs) y) e (record { passes = t; there = ap (λ v. v || list_any (same_call x) xs) (same_call-refl x) })
      | false ↦ λ t k. let f = find-passes p xs call k in record { passes = f.passes; there = ap (λ v. same_call call x || v) f.there ∙ or_true _ }
    ]) refl h

find-absent : (p : CallId → Bool) (xs : List CallId) (call : CallId) → find p xs ≡ None
    → list_any (same_call call) xs ≡ true → p call ≡ false
find-absent p [] call h m = cc
find-absent p (x ∷ xs) call h m = by_place (same_call call x) refl (p x) refl m (λ k n. find-absent p xs call k n) h
  where
    by_place : (s : Bool) → same_call call x ≡ s → (t : Bool) → p x ≡ t
        → (s || list_any (same_call call) xs) ≡ true
        → (find p xs ≡ None → list_any (same_call call) xs ≡ true → p call ≡ false)
        → cond t (Some x) (find p xs) ≡ None → p call ≡ false
    by_place s e true t m later k = cc
    by_place true e false t m later k = ap p (same_call-eq call x e) ∙ t
    by_place false e false t m later k = later k m

-- a test that one call of the list passes at most finds exactly that call
find-only : (p : CallId → Bool) (xs : List CallId) (call : CallId)
    → ((a b : CallId) → list_any (same_call a) xs ≡ true → list_any (same_call b) xs ≡ true → p a ≡ true
    → p b ≡ true → same_call a b ≡ true)
    → (p call ≡ true → list_any (same_call call) xs ≡ true) → is_call call (find p xs) ≡ p call
find-only p xs call only there = by_result (find p xs) refl (p call) refl
  where
    by_result : (o : Option CallId) → find p xs ≡ o → (t : Bool) → p call ≡ t → is_call call o ≡ t
    by_result None h false t = refl
    by_result None h true t = let bad : p call ≡ false = find-absent p xs call h (there t) in cc
    by_result (Some first) h true t = let f = find-passes p xs first h in only call first (there t) f.there t f.passes
    by_result (Some first) h false t = not_it (same_call call first) refl
      where
        not_it : (s : Bool) → same_call call first ≡ s → s ≡ false
        not_it false s = refl
        not_it true s = let f = find-passes p xs first h in let bad : p call ≡ true = ap p (same_call-eq call first s) ∙ f.passes in cc

-- what holds of all calls of a list holds of those before one of them
pub list_all-before : (r : CallId → Bool) (call : CallId) (xs : List CallId) → list_all r xs ≡ true
    → list_all r (before_call call xs) ≡ true
list_all-before r call [] h = refl
list_all-before r call (x ∷ xs) h =
    (elim (same_call call x) as (λ v. list_all r (cond v [] (x ∷ before_call call xs)) ≡ true)
    [ true ↦ refl | false ↦ let here : r x ≡ true = and_left _ _ h in let later : list_all r (before_call call xs) ≡ true = list_all-before r call xs (and_right _ _ h) in rw (here, later) refl ])

-- who gets the turn is another call, queued, and has its turn from then on
pub record GetsTurn {K D : Type 0} (setup : Setup D) (entries : List (Entry K)) (i : ℕ) (e : Entry K) (call : CallId) : Type 0 where
  pub other : same_call (call_of e.event) call ≡ false
  pub queued : is_queued (phase_of entries call) ≡ true
  pub turn : has_turn setup (entries ++ e ∷ []) i call ≡ true

module _ {K D : Type 0} (policy : Policy K D) (setup : Setup D) (entries : List (Entry K))
    (run : IsRun policy setup entries) (i : ℕ) where
  -- a call of the cache that is not queued gets no turn
  unqueued : (e : Entry K) (call : CallId) → is_queued (phase_of entries call) ≡ false
      → gets_turn setup entries i e call ≡ false
  unqueued e call q = rw q (and_false_and (not (same_call (call_of e.event) call)) (has_turn setup (entries ++ e ∷ []) i call && not (has_turn setup entries i call)))

  module _ (e : Entry K)
      (same : (x : CallId) → is_of_cache setup i x ≡ true
      → hold_is_finished (entries ++ e ∷ []) x ≡ hold_is_finished entries x) where
    turn_same : (call : CallId) → is_polled setup entries i call ≡ true
        → has_turn setup (entries ++ e ∷ []) i call ≡ has_turn setup entries i call
    unfolding has_turn
    turn_same call m =
        ap (list_all (hold_is_finished (entries ++ e ∷ []))) (calls_ahead-more setup entries i e call m)
        ∙ list_all-same_on (hold_is_finished (entries ++ e ∷ [])) (hold_is_finished entries) (is_of_cache setup i) same (calls_ahead setup entries i call)
        (list_all-before (is_of_cache setup i) call (poll_order setup entries i) (order_of_cache setup entries i))

    -- where no hold of the cache ends, nobody gets a turn
    nobody_gets_turn : (call : CallId) → cache_of setup call ≡ Some i
        → gets_turn setup entries i e call ≡ false
    nobody_gets_turn call at = by_queue (is_queued (phase_of entries call)) refl
      where
        by_queue : (q : Bool) → is_queued (phase_of entries call) ≡ q
            → gets_turn setup entries i e call ≡ false
        by_queue false q = unqueued e call q
        by_queue true q =
            let w : IsInQueue setup entries i call = queued_is_in_queue policy setup entries run call i at q in
            rw (turn_same call w.polled, and_not (has_turn setup entries i call)) (and_false (not (same_call (call_of e.event) call) && is_queued (phase_of entries call)))

  gets_turn-is : (e : Entry K) (call : CallId) → gets_turn setup entries i e call ≡ true
      → GetsTurn setup entries i e call
  gets_turn-is e call h = record {
    other = not_true (same_call (call_of e.event) call) (and_left _ _ (and_left _ _ h));
    queued = and_right _ _ (and_left _ _ h);
    turn = and_left _ _ (and_right _ _ h);
  }

  -- of two calls of the cache that get their turn by one entry, the first is the second
  one_gets_turn : (e : Entry K) (a b : CallId) → cache_of setup a ≡ Some i → cache_of setup b ≡ Some i
      → gets_turn setup entries i e a ≡ true → gets_turn setup entries i e b ≡ true → same_call a b ≡ true
  one_gets_turn e a b ata atb ha hb = by_name (same_call a b) refl
    where
      ga : GetsTurn setup entries i e a
      ga = gets_turn-is e a ha

      gb : GetsTurn setup entries i e b
      gb = gets_turn-is e b hb

      wa : IsInQueue setup entries i a
      wa = queued_is_in_queue policy setup entries run a i ata ga.queued

      wb : IsInQueue setup entries i b
      wb = queued_is_in_queue policy setup entries run b i atb gb.queued

      by_name : (s : Bool) → same_call a b ≡ s → s ≡ true
      by_name true s = refl
      by_name false s =
          absurd (one_turn setup (entries ++ e ∷ []) i a b s (is_polled-more setup entries i e a wa.polled)
          ga.turn (hold_is_finished-other setup entries e a (same_call-comm a (call_of e.event) ∙ ga.other) ∙ wa.unfinished)
          gb.turn (hold_is_finished-other setup entries e b (same_call-comm b (call_of e.event) ∙ gb.other) ∙ wb.unfinished))

  of_cache : (call : CallId) → list_any (same_call call) (poll_order setup entries i) ≡ true
      → cache_of setup call ≡ Some i
  of_cache call m = is_number-eq i (cache_of setup call) (list_all-member (is_of_cache setup i) call (poll_order setup entries i) (order_of_cache setup entries i) m)

  -- the call to wake is exactly the one that gets its turn
  woken_gets_turn : (e : Entry K) (call : CallId) → cache_of setup call ≡ Some i
      → is_call call (call_to_wake setup entries i e) ≡ gets_turn setup entries i e call
  unfolding call_to_wake
  woken_gets_turn e call at =
      find-only (gets_turn setup entries i e) (poll_order setup entries i) call
      (λ a b ma mb ha hb. one_gets_turn e a b (of_cache a ma) (of_cache b mb) ha hb)
      (λ h. (queued_is_in_queue policy setup entries run call i at (gets_turn-is e call h).queued).polled)

  -- and a call of the cache
  woken_of_cache : (e : Entry K) (call : CallId) → call_to_wake setup entries i e ≡ Some call
      → (cache_of setup call ≡ Some i) × GetsTurn setup entries i e call
  unfolding call_to_wake
  woken_of_cache e call h =
      let f = find-passes (gets_turn setup entries i e) (poll_order setup entries i) call h in
      (of_cache call f.there, gets_turn-is e call f.passes)

-- two replies to one event give the same turns where they agree on whether it fits and whether it ends a hold
module _ {K D : Type 0} (setup : Setup D) (entries : List (Entry K)) (i : ℕ) (event : Event K) (r s : Reply K)
    (fits : is_not_now r ≡ is_not_now s) (ends : ends_hold r ≡ ends_hold s) where
  order_alike : poll_order setup (entries ++ record { event = event; reply = r } ∷ []) i
      ≡ poll_order setup (entries ++ record { event = event; reply = s } ∷ []) i
  order_alike = by_poll (is_poll_at setup i (record { event = event; reply = s })) refl
    where
      alike : is_poll_at setup i (record { event = event; reply = r })
          ≡ is_poll_at setup i (record { event = event; reply = s })
      alike = rw fits refl

      by_poll : (p : Bool) → is_poll_at setup i (record { event = event; reply = s }) ≡ p
          → poll_order setup (entries ++ record { event = event; reply = r } ∷ []) i
          ≡ poll_order setup (entries ++ record { event = event; reply = s } ∷ []) i
      by_poll true p =
          poll_order-poll setup entries i (record { event = event; reply = r }) (alike ∙ p)
          ∙ sym (poll_order-poll setup entries i (record { event = event; reply = s }) p)
      by_poll false p =
          poll_order-same setup entries i (record { event = event; reply = r }) (alike ∙ p)
          ∙ sym (poll_order-same setup entries i (record { event = event; reply = s }) p)

  finished_alike : (call : CallId)
      → hold_is_finished (entries ++ record { event = event; reply = r } ∷ []) call
      ≡ hold_is_finished (entries ++ record { event = event; reply = s } ∷ []) call
  finished_alike call = by_name (same_call call (call_of event)) refl
    where
      by_name : (b : Bool) → same_call call (call_of event) ≡ b
          → hold_is_finished (entries ++ record { event = event; reply = r } ∷ []) call
          ≡ hold_is_finished (entries ++ record { event = event; reply = s } ∷ []) call
      by_name true b =
          hold_is_finished-own setup entries (record { event = event; reply = r }) call b
          ∙ ap (λ v. hold_is_finished entries call || v) ends
          ∙ sym (hold_is_finished-own setup entries (record { event = event; reply = s }) call b)
      by_name false b =
          hold_is_finished-other setup entries (record { event = event; reply = r }) call b
          ∙ sym (hold_is_finished-other setup entries (record { event = event; reply = s }) call b)

  turn_alike : (call : CallId)
      → has_turn setup (entries ++ record { event = event; reply = r } ∷ []) i call
      ≡ has_turn setup (entries ++ record { event = event; reply = s } ∷ []) i call
  unfolding has_turn
  turn_alike call =
      ap (λ order. list_all (hold_is_finished (entries ++ record { event = event; reply = r } ∷ [])) (before_call call order)) order_alike
      ∙ list_all-same (hold_is_finished (entries ++ record { event = event; reply = r } ∷ [])) (hold_is_finished (entries ++ record { event = event; reply = s } ∷ [])) finished_alike (before_call call (poll_order setup (entries ++ record { event = event; reply = s } ∷ []) i))

  gets_turn-alike : (call : CallId)
      → gets_turn setup entries i (record { event = event; reply = r }) call
      ≡ gets_turn setup entries i (record { event = event; reply = s }) call
  gets_turn-alike call = rw (turn_alike call) refl

-- a reply that can name a call to wake
pub record CanWake {K : Type 0} (r : Reply K) : Type 0 where
  pub says : (wake : Option CallId) → wake_of (with_wake r wake) ≡ wake
  pub fits : (wake : Option CallId) → is_not_now (with_wake r wake) ≡ is_not_now r
  pub ends : (wake : Option CallId) → ends_hold (with_wake r wake) ≡ ends_hold r

sign_wakes : {K : Type 0} (c : K) → CanWake (Sign c None)
sign_wakes c = record { says = λ wake. refl; fits = λ wake. refl; ends = λ wake. refl }

refused_wakes : {K : Type 0} (cause : Why) → CanWake {K = K} (Refused cause None)
refused_wakes cause = record { says = λ wake. refl; fits = λ wake. refl; ends = λ wake. refl }

cancelled_wakes : {K : Type 0} → CanWake {K = K} (Cancelled None)
cancelled_wakes = record { says = λ wake. refl; fits = λ wake. refl; ends = λ wake. refl }

-- an expected reply wakes nobody and ends no hold, or names the call to wake of the event's cache
pub data Names {K D : Type 0} (setup : Setup D) (entries : List (Entry K)) (event : Event K) : Reply K → Type 0 where
  names_nobody : (reply : Reply K) → wake_of reply ≡ None
      → ((x : CallId)
      → hold_is_finished (entries ++ record { event = event; reply = reply }
      ∷ []) x ≡ hold_is_finished entries x)
      → Names setup entries event reply
  names_next : (j : ℕ) → cache_of setup (call_of event) ≡ Some j → (r : Reply K) → CanWake r
      → Names setup entries event
      (with_wake r (call_to_wake setup entries j (record { event = event; reply = r })))

module _ {K D : Type 0} (policy : Policy K D) (setup : Setup D) (entries : List (Entry K))
    (run : IsRun policy setup entries) (event : Event K) where
  unending : (reply : Reply K) → wake_of reply ≡ None → ends_hold reply ≡ false
      → Names setup entries event reply
  unending reply n f = names_nobody reply n (λ x. finished_same setup entries 0 (record { event = event; reply = reply }) f x)

  progress_names : (j : ℕ) → cache_of setup (call_of event) ≡ Some j → (progress : Progress K)
      → Names setup entries event (waking setup entries j event (progress_reply progress))
  progress_names j at (Asking k) = unending (Ask k) refl refl
  progress_names j at (Over (HandOut c) left) = names_next j at (Sign c None) (sign_wakes c)
  progress_names j at (Over (Refuse cause) left) = names_next j at (Refused cause None) (refused_wakes cause)

  hold_names : (j : ℕ) → cache_of setup (call_of event) ≡ Some j
      → (loader : Option Loader) (input : Option (HoldInput K D))
      → Names setup entries event
      (hold_reply setup entries j event
      (hold_progress policy (sequential_cache policy setup entries j) loader input))
  hold_names j at None input = unending NotNow refl refl
  hold_names j at (Some loader) None = unending NotNow refl refl
  hold_names j at (Some loader) (Some input) = progress_names j at (sequential_call policy (sequential_cache policy setup entries j) loader input)

module _ {K D : Type 0} (policy : Policy K D) (setup : Setup D) (entries : List (Entry K))
    (run : IsRun policy setup entries) where
  poll_names : (call : CallId) (now : ℤ) (j : ℕ) → cache_of setup call ≡ Some j → (b : Bool)
      → Names setup entries (Poll call now)
      (if b then hold_reply setup entries j (Poll call now)
      (progress_at policy setup entries j (look_input setup entries call now)) else Pending)
  poll_names call now j at true = hold_names policy setup entries run (Poll call now) j at _ _
  poll_names call now j at false = unending policy setup entries run (Poll call now) Pending refl refl

  -- the hold of a call that the service refuses was finished before
  refused_names : (call : CallId) (x j : ℕ) → cache_of setup call ≡ Some j
      → is_signing (phase_of entries call) ≡ true
      → Names setup entries (Signed call (Failed x)) (Refused (Service x) None)
  refused_names call x j at s = names_nobody (Refused (Service x) None) refl (λ b. by_name b (same_call b call) refl)
    where
      done : hold_is_finished entries call ≡ true
      done = (run_signs policy setup entries run call j at s).finished

      by_name : (b : CallId) (s : Bool) → same_call b call ≡ s
          → hold_is_finished
          (entries ++ record { event = Signed call (Failed x); reply = Refused (Service x) None } ∷ []) b
          ≡ hold_is_finished entries b
      by_name b true s =
          let here : hold_is_finished entries b ≡ true = ap (hold_is_finished entries) (same_call-eq b call s) ∙ done in
          hold_is_finished-own setup entries (record { event = Signed call (Failed x); reply = Refused (Service x) None }) b s
          ∙ or_true (hold_is_finished entries b) ∙ sym here
      by_name b false s = hold_is_finished-other setup entries (record { event = Signed call (Failed x); reply = Refused (Service x) None }) b s

  fitting_names : (event : Event K) (j : ℕ) → cache_of setup (call_of event) ≡ Some j
      → event_fits setup entries event ≡ true
      → Names setup entries event (fitting_reply policy setup entries j event)
  fitting_names (Begin call head expires_in) j at fits = unending policy setup entries run (Begin call head expires_in) Begun refl refl
  fitting_names (Poll call now) j at fits = poll_names call now j at (is_waiting (phase_of entries call) && has_turn setup entries j call)
  fitting_names (Provided call now answer) j at fits = hold_names policy setup entries run (Provided call now answer) j at _ _
  fitting_names (Signed call (Accepted candidate)) j at fits = unending policy setup entries run (Signed call (Accepted candidate)) (Done _) refl refl
  fitting_names (Signed call (Failed x)) j at fits = refused_names call x j at fits
  fitting_names (Cancel call) j at fits = names_next j at (Cancelled None) cancelled_wakes

  at_names : (event : Event K) (o : Option ℕ) → cache_of setup (call_of event) ≡ o → (f : Bool)
      → event_fits setup entries event ≡ f → Names setup entries event (reply_at policy setup entries event o)
  at_names event None _ f _ = unending policy setup entries run event NotNow refl refl
  at_names event (Some j) at true fits = rw fits (fitting_names event j at fits)
  at_names event (Some j) at false fits = rw fits (unending policy setup entries run event NotNow refl refl)

  expected_names : (event : Event K) → Names setup entries event (expected_reply policy setup entries event)
  unfolding expected_reply
  expected_names event = at_names event _ refl _ refl

  -- a call that a reply names is queued
  named_queued : (event : Event K) (reply : Reply K) → Names setup entries event reply → (call : CallId)
      → wake_of reply ≡ Some call → is_queued (phase_of entries call) ≡ true
  named_queued event reply (names_nobody _ n f) call h = cc
  named_queued event reply (names_next j at r can) call h =
      let w = can.says (call_to_wake setup entries j (record { event = event; reply = r })) in
      (woken_of_cache policy setup entries run j (record { event = event; reply = r }) call (sym w ∙ h)).1.queued

  -- a call that an expected reply names is queued
  pub expected_names_queued : (event : Event K) (call : CallId)
      → wake_of (expected_reply policy setup entries event) ≡ Some call
      → is_queued (phase_of entries call) ≡ true
  expected_names_queued event call h = named_queued event _ (expected_names event) call h

  module _ (call : CallId) (i : ℕ) (at : cache_of setup call ≡ Some i) where
    -- an entry of another cache gives no turn here
    no_turn_elsewhere : (event : Event K) (reply : Reply K) (j : ℕ) → cache_of setup (call_of event) ≡ Some j
        → (j ≡ i → ⊥) → gets_turn setup entries i (record { event = event; reply = reply }) call ≡ false
    no_turn_elsewhere event reply j atj differ = nobody_gets_turn policy setup entries run i (record { event = event; reply = reply }) (λ x q. by_name x q (same_call x (call_of event)) refl) call at
      where
        by_name : (x : CallId) → is_of_cache setup i x ≡ true → (s : Bool) → same_call x (call_of event) ≡ s
            → hold_is_finished (entries ++ record { event = event; reply = reply } ∷ []) x
            ≡ hold_is_finished entries x
        by_name x q false s = hold_is_finished-other setup entries (record { event = event; reply = reply }) x s
        by_name x q true s =
            let here : cache_of setup (call_of event) ≡ Some i = ap (cache_of setup) (sym (same_call-eq x (call_of event) s)) ∙ is_number-eq i (cache_of setup x) q in
            let bad : j ≡ i = cc in
            absurd (differ bad)

    -- and names no call of this cache
    unnamed : (e : Entry K) (j : ℕ) → (j ≡ i → ⊥) → (o : Option CallId) → call_to_wake setup entries j e ≡ o
        → is_call call o ≡ false
    unnamed e j differ None h = refl
    unnamed e j differ (Some named) h = by_name (same_call call named) refl
      where
        by_name : (s : Bool) → same_call call named ≡ s → s ≡ false
        by_name false s = refl
        by_name true s =
            let k : cache_of setup named ≡ Some j = (woken_of_cache policy setup entries run j e named h).0 in
            let m : cache_of setup named ≡ Some i = ap (cache_of setup) (sym (same_call-eq call named s)) ∙ at in
            let bad : j ≡ i = cc in
            absurd (differ bad)

    named_gets_turn : (event : Event K) (reply : Reply K) → Names setup entries event reply
        → is_call call (wake_of reply)
        ≡ gets_turn setup entries i (record { event = event; reply = reply }) call
    named_gets_turn event reply (names_nobody _ n f) =
        ap (is_call call) n
        ∙ sym (nobody_gets_turn policy setup entries run i (record { event = event; reply = reply }) (λ x _. f x) call at)
    named_gets_turn event reply (names_next j atj r can) = by_number (j == i) refl
      where
        by_number : (b : Bool) → (j == i) ≡ b
            → is_call call
            (wake_of (with_wake r (call_to_wake setup entries j (record { event = event; reply = r }))))
            ≡ gets_turn setup entries i
            (record { event = event; reply = with_wake r (call_to_wake setup entries j (record { event = event; reply = r })) })
            call
        by_number true b =
            let same : j ≡ i = same_number j i b in
            ap (is_call call) (can.says (call_to_wake setup entries j (record { event = event; reply = r })))
            ∙ ap (λ n. is_call call (call_to_wake setup entries n (record { event = event; reply = r }))) same
            ∙ woken_gets_turn policy setup entries run i (record { event = event; reply = r }) call at
            ∙ sym (gets_turn-alike setup entries i event (with_wake r (call_to_wake setup entries j (record { event = event; reply = r }))) r (can.fits _) (can.ends _) call)
        by_number false b =
            ap (is_call call) (can.says (call_to_wake setup entries j (record { event = event; reply = r })))
            ∙ unnamed (record { event = event; reply = r }) j (other_number j i b) _ refl
            ∙ sym (no_turn_elsewhere event (with_wake r (call_to_wake setup entries j (record { event = event; reply = r }))) j atj (other_number j i b))

    -- the expected reply names the call exactly where the call gets its turn by it
    pub expected_names_turn : (event : Event K)
        → is_call call (wake_of (expected_reply policy setup entries event))
        ≡ gets_turn setup entries i
        (record { event = event; reply = expected_reply policy setup entries event }) call
    expected_names_turn event = named_gets_turn event _ (expected_names event)
