-- How the duration of a begin is stored makes no difference: events that differ in nothing else get the same
-- replies, and leave
-- the same caches.
use Rattle.std.proofs.Common.{◌≡◌, ℕ, not, ◌||◌, nat_lt, List, [], ◌∷◌, ◌++◌, Option, Some, None, find, option_map, option_and_then, refl, sym, ◌∙◌, ap, filter, fold, map, slice_get}
use Rattle.std.specs.Duration.{as_nanos}
use Rattle.std.specs.List.{list_any, list_all}
use Rattle.std.specs.declared.time.Duration.{Duration}
use Rattle.std.proofs.lemmas.List.{map-append}
use Rattle.sign_base.specs.declared.head.Head.{Head}
use Rattle.sign_base.specs.declared.call_id.CallId.{CallId}
use Rattle.sign_base.specs.Calls.{same_call}
use Rattle.sequential_signer.specs.Policy.{Policy}
use Rattle.sequential_signer.specs.SequentialCall.{HoldInput}
use Rattle.sequential_signer.specs.Setup.{Setup}
use Rattle.sequential_signer.specs.Transcript.{call_of, last_of, is_about, entries_of}
use Rattle.sequential_signer.specs.Phase.{is_poll, moves_call, is_begun, is_not_now, is_waiting_poll, is_begin_under, is_new_number, phase_at, phase_by, phase_in, phase_of}
use Rattle.sequential_signer.specs.Turn.{first_of_each, before_call, is_fitting_poll, is_poll_at, poll_order, calls_ahead, ends_hold, serves, hold_is_finished, is_served, has_turn}
use Rattle.sequential_signer.specs.Hold.{BeginInput, begun_with, begin_in, begin_of, poll_moment, is_poll_at_turn, turn_moment, answer_in, answers_in, answers_of, hold_input}
use Rattle.sequential_signer.specs.SequentialCache.{cache_after, served_calls, sequential_cache}
use Rattle.sequential_signer.specs.Wake.{gets_turn, call_to_wake}
use Rattle.sequential_signer.specs.ExpectedReply.{expected_reply}
use Rattle.sequential_signer.specs.Legal.{with_expected_reply, expected_entries}
use Rattle.sequential_signer.specs.declared.event.Entry.{Entry}
use Rattle.sequential_signer.specs.declared.event.Event.{Event}
use Rattle.sequential_signer.specs.declared.event.Event.TheVariants.{Begin}
use Rattle.sequential_signer.specs.declared.event.Reply.{Reply}
use Rattle.sequential_signer.proofs.Lists.{filter-same, find-same, list_all-same, list_all-filter, fold-same}
use Rattle.sequential_signer.proofs.Pairwise.{Pairwise, none, more, pairwise-more, each_after-pairwise, map-pairwise, filter_map-pairwise, last_of-pairwise, filter-pairwise, list_any-pairwise, list_all-pairwise, find-pairwise}
use Rattle.sequential_signer.proofs.SameReplies.{expected_reply-same}

-- the events differ at most in how the duration of a begin is stored
pub data AreAlike {K : Type 0} : Event K → Event K → Type 0 where
  begins : (call : CallId) (head : Head) (a b : Option Duration)
      → option_map as_nanos a ≡ option_map as_nanos b → AreAlike (Begin call head a) (Begin call head b)
  equal : (event : Event K) → AreAlike event event

-- the entries have alike events, and one reply
pub record AlikeEntries {K : Type 0} (a b : Entry K) : Type 0 where
  pub event : AreAlike a.event b.event
  pub reply : a.reply ≡ b.reply

-- the entries, with each event changed by f
abbrev pub with_events : {K : Type 0} → (Event K → Event K) → List (Entry K) → List (Entry K)
with_events f entries = map (λ e. record { event = f e.event; reply = e.reply }) entries

-- alike events are of one call, and are read the same; and so are alike entries
module _ {K : Type 0} where
  call_of-alike : {a b : Event K} → AreAlike a b → call_of a ≡ call_of b
  call_of-alike (begins _ _ _ _ _) = refl
  call_of-alike (equal _) = refl

  is_poll-alike : {a b : Event K} → AreAlike a b → is_poll a ≡ is_poll b
  is_poll-alike (begins _ _ _ _ _) = refl
  is_poll-alike (equal _) = refl

  begun_with-alike : {a b : Event K} → AreAlike a b → begun_with a ≡ begun_with b
  begun_with-alike (begins _ head _ _ same) = ap (λ v. let begin : BeginInput = record { head = head; duration = v } in Some begin) same
  begun_with-alike (equal _) = refl

  poll_moment-alike : {a b : Event K} → AreAlike a b → poll_moment a ≡ poll_moment b
  poll_moment-alike (begins _ _ _ _ _) = refl
  poll_moment-alike (equal _) = refl

  answer_in-alike : {a b : Event K} → AreAlike a b → answer_in a ≡ answer_in b
  answer_in-alike (begins _ _ _ _ _) = refl
  answer_in-alike (equal _) = refl

  -- what is read of the reply alone
  of_reply : {Y : Type 0} (g : Reply K → Y) (a b : Entry K) → AlikeEntries a b → g a.reply ≡ g b.reply
  of_reply g a b h = ap g h.reply

  is_about-alike : (call : CallId) (a b : Entry K) → AlikeEntries a b → is_about call a ≡ is_about call b
  is_about-alike call a b h = ap (same_call call) (call_of-alike h.event)

  is_fitting_poll-alike : (a b : Entry K) → AlikeEntries a b → is_fitting_poll a ≡ is_fitting_poll b
  is_fitting_poll-alike a b h = rw (is_poll-alike h.event, h.reply) refl

  is_waiting_poll-alike : (a b : Entry K) → AlikeEntries a b → is_waiting_poll a ≡ is_waiting_poll b
  is_waiting_poll-alike a b h = rw (is_poll-alike h.event, h.reply) refl

-- the transcripts are alike, entry by entry
abbrev pub AlikeTranscripts : {K : Type 0} → List (Entry K) → List (Entry K) → Type 0
AlikeTranscripts a b = Pairwise AlikeEntries a b

-- and stay so by one more entry
alike-more : {K : Type 0} {a b : List (Entry K)} → AlikeTranscripts a b → (e : Entry K)
    → AlikeTranscripts (a ++ e ∷ []) (b ++ e ∷ [])
alike-more alike e = pairwise-more {x = e} {y = e} alike (record { event = equal e.event; reply = refl })

-- in alike transcripts a call has alike entries: it is as far, began with the same, and got the same answers
module _ {K : Type 0} {a b : List (Entry K)} (alike : AlikeTranscripts a b) (call : CallId) where
  entries_of-alike : AlikeTranscripts (entries_of a call) (entries_of b call)
  unfolding entries_of
  entries_of-alike = filter-pairwise (is_about call) (is_about-alike call) alike

  hold_is_finished-alike : hold_is_finished a call ≡ hold_is_finished b call
  unfolding hold_is_finished
  hold_is_finished-alike = list_any-pairwise (λ (e : Entry K). ends_hold e.reply) (of_reply ends_hold) entries_of-alike

  is_served-alike : is_served a call ≡ is_served b call
  unfolding is_served
  is_served-alike = list_any-pairwise (λ (e : Entry K). serves e.reply) (of_reply serves) entries_of-alike

  pub phase_of-alike : phase_of a call ≡ phase_of b call
  unfolding phase_of phase_in
  phase_of-alike =
      ap (λ waited. phase_at waited (last_of (filter (λ (e : Entry K). moves_call e.reply) (entries_of a call))))
      (list_any-pairwise is_waiting_poll is_waiting_poll-alike entries_of-alike)
      ∙ last_of-pairwise (phase_at (list_any is_waiting_poll (entries_of b call))) (of_reply (phase_by (list_any is_waiting_poll (entries_of b call))))
      (filter-pairwise (λ (e : Entry K). moves_call e.reply) (of_reply moves_call) entries_of-alike)

  pub is_new_number-alike : is_new_number a call ≡ is_new_number b call
  unfolding is_new_number
  is_new_number-alike =
      list_all-pairwise (λ (e : Entry K). not (is_begin_under call.handle e) || nat_lt (call_of e.event).number call.number)
      (λ x y h. rw (call_of-alike h.event, h.reply) refl) alike

  pub begin_of-alike : begin_of a call ≡ begin_of b call
  unfolding begin_in
  begin_of-alike =
      find-pairwise (λ (e : Entry K). is_begun e.reply) (of_reply is_begun) (option_and_then (λ (e : Entry K). begun_with e.event))
      (λ x y h. begun_with-alike h.event) entries_of-alike

  pub answers_of-alike : answers_of a call ≡ answers_of b call
  unfolding answers_in
  answers_of-alike =
      filter_map-pairwise (λ (e : Entry K). answer_in e.event) (λ x y h. answer_in-alike h.event)
      (filter-pairwise (λ (e : Entry K). not (is_not_now e.reply)) (of_reply (λ r. not (is_not_now r))) entries_of-alike)

-- and at a cache the polls came in one order: each call has its turn, and wakes, at the same entries
module _ {K D : Type 0} (setup : Setup D) (i : ℕ) where
  poll_order-alike : {a b : List (Entry K)} → AlikeTranscripts a b
      → poll_order setup a i ≡ poll_order setup b i
  unfolding poll_order
  poll_order-alike alike =
      ap first_of_each
      (map-pairwise (λ (e : Entry K). call_of e.event) (λ x y h. call_of-alike h.event)
      (filter-pairwise (is_poll_at setup i) (λ x y h. rw (is_fitting_poll-alike x y h, call_of-alike h.event) refl) alike))

  has_turn-alike : {a b : List (Entry K)} → AlikeTranscripts a b → (call : CallId)
      → has_turn setup a i call ≡ has_turn setup b i call
  unfolding has_turn
  has_turn-alike {a = a} {b = b} alike call =
      ap (λ order. list_all (hold_is_finished a) (before_call call order)) (poll_order-alike alike)
      ∙ list_all-same (hold_is_finished a) (hold_is_finished b) (hold_is_finished-alike alike) (calls_ahead setup b i call)

  turn_moment-alike : {a b : List (Entry K)} → AlikeTranscripts a b → (call : CallId)
      → turn_moment setup a i call ≡ turn_moment setup b i call
  unfolding turn_moment
  turn_moment-alike alike call =
      find-pairwise (is_poll_at_turn setup i call)
      (λ p q h. rw (is_about-alike call p.1 q.1 h.item, is_fitting_poll-alike p.1 q.1 h.item, has_turn-alike h.before call) refl)
      (option_and_then (λ (p : List (Entry K) × Entry K). poll_moment p.1.event)) (λ p q h. poll_moment-alike h.item.event)
      (each_after-pairwise alike [] [] none)

  hold_input-alike : {a b : List (Entry K)} → AlikeTranscripts a b → (call : CallId)
      → hold_input {K = K} setup a i call ≡ hold_input setup b i call
  hold_input-alike alike call = rw (begin_of-alike alike call, turn_moment-alike alike call, answers_of-alike alike call) refl

  call_to_wake-alike : {a b : List (Entry K)} → AlikeTranscripts a b → (e : Entry K)
      → call_to_wake setup a i e ≡ call_to_wake setup b i e
  unfolding call_to_wake
  call_to_wake-alike {a = a} {b = b} alike e =
      ap (find (gets_turn setup a i e)) (poll_order-alike alike)
      ∙ find-same (gets_turn setup a i e) (gets_turn setup b i e)
      (λ call. rw (phase_of-alike alike call, has_turn-alike (alike-more alike e) call, has_turn-alike alike call) refl)
      (poll_order setup b i)

  served_calls-alike : {a b : List (Entry K)} → AlikeTranscripts a b
      → served_calls setup a i ≡ served_calls setup b i
  served_calls-alike {a = a} {b = b} alike =
      ap (filter (is_served a)) (poll_order-alike alike)
      ∙ filter-same (is_served a) (is_served b) (is_served-alike alike) (poll_order setup b i)

module _ {K D : Type 0} (policy : Policy K D) (setup : Setup D) where
  -- alike transcripts leave the same caches
  pub sequential_cache-alike : {a b : List (Entry K)} → AlikeTranscripts a b → (i : ℕ)
      → sequential_cache policy setup a i ≡ sequential_cache policy setup b i
  unfolding sequential_cache
  sequential_cache-alike {a = a} {b = b} alike i =
      ap (fold (λ cache call. cache_after policy (slice_get setup.loaders i) (hold_input setup a i call) cache) None) (served_calls-alike setup i alike)
      ∙ fold-same
      (λ cache call. cache_after policy (slice_get setup.loaders i) (hold_input setup a i call) cache)
      (λ cache call. cache_after policy (slice_get setup.loaders i) (hold_input setup b i call) cache)
      (is_served b)
      (λ call _ cache. ap (λ (o : Option (HoldInput K D)). cache_after policy (slice_get setup.loaders i) o cache) (hold_input-alike setup i alike call))
      (served_calls setup b i) (list_all-filter (is_served b) (poll_order setup b i)) None

  -- an event gets the same reply after alike transcripts
  expected_reply-after : {a b : List (Entry K)} → AlikeTranscripts a b → (event : Event K)
      → expected_reply policy setup a event ≡ expected_reply policy setup b event
  expected_reply-after {a = a} {b = b} alike event =
      expected_reply-same policy setup a b event
      (record {
        phase = phase_of-alike alike (call_of event);
        new = is_new_number-alike alike (call_of event);
        begin = begin_of-alike alike (call_of event);
        answers = λ _. answers_of-alike alike (call_of event);
        turn = λ i _. has_turn-alike setup i alike (call_of event);
        moment = λ i _. turn_moment-alike setup i alike (call_of event);
        cache = λ i _. sequential_cache-alike alike i;
        wake = λ i _ r. call_to_wake-alike setup i alike (record { event = event; reply = r });
      })

  -- and alike events get the same reply after one transcript
  expected_reply-to : (entries : List (Entry K)) {x y : Event K} → AreAlike x y
      → expected_reply policy setup entries x ≡ expected_reply policy setup entries y
  unfolding expected_reply
  expected_reply-to entries (begins _ _ _ _ _) = refl
  expected_reply-to entries (equal _) = refl

  -- alike events get the same reply after alike transcripts
  pub expected_reply-alike : {a b : List (Entry K)} {x y : Event K} → AlikeTranscripts a b → AreAlike x y
      → expected_reply policy setup a x ≡ expected_reply policy setup b y
  expected_reply-alike {a = a} {y = y} alike h = expected_reply-to a h ∙ expected_reply-after alike y

-- where each event is changed into one that is alike
module _ {K D : Type 0} (policy : Policy K D) (setup : Setup D) (f : Event K → Event K)
    (alike : (event : Event K) → AreAlike (f event) event) where
  -- the changed transcript is alike
  with_events-alike : (entries : List (Entry K)) → AlikeTranscripts (with_events f entries) entries
  with_events-alike [] = none
  with_events-alike (e ∷ rest) = more (record { event = alike e.event; reply = refl }) (with_events-alike rest)

  -- the reply is the same
  pub expected_reply-with_events : (entries : List (Entry K)) (event : Event K)
      → expected_reply policy setup (with_events f entries) (f event)
      ≡ expected_reply policy setup entries event
  expected_reply-with_events entries event = expected_reply-alike policy setup (with_events-alike entries) (alike event)

  -- and so is each cache
  pub sequential_cache-with_events : (entries : List (Entry K)) (i : ℕ)
      → sequential_cache policy setup (with_events f entries) i ≡ sequential_cache policy setup entries i
  sequential_cache-with_events entries i = sequential_cache-alike policy setup (with_events-alike entries) i

  -- the changed events lead from the changed entries to the changed transcript
  entries_from : (events : List (Event K)) (entries : List (Entry K))
      → fold (with_expected_reply policy setup) (with_events f entries) (map f events)
      ≡ with_events f (fold (with_expected_reply policy setup) entries events)
  entries_from [] entries = refl
  entries_from (event ∷ rest) entries = ap (λ v. fold (with_expected_reply policy setup) v (map f rest)) step ∙ entries_from rest (with_expected_reply policy setup entries event)
    where
      step : with_expected_reply policy setup (with_events f entries) (f event)
          ≡ with_events f (with_expected_reply policy setup entries event)
      step =
          ap (λ v. with_events f entries ++ record { event = f event; reply = v } ∷ []) (expected_reply-with_events entries event)
          ∙ sym (map-append (λ (e : Entry K). let x : Entry K = record { event = f e.event; reply = e.reply } in x) entries (record { event = event; reply = expected_reply policy setup entries event } ∷ []))

  -- the changed events make the changed transcript
  pub expected_entries-with_events : (events : List (Event K))
      → expected_entries policy setup (map f events) ≡ with_events f (expected_entries policy setup events)
  unfolding expected_entries
  expected_entries-with_events events = entries_from events []

  -- after them the reply is the same
  pub expected_reply-map : (events : List (Event K)) (event : Event K)
      → expected_reply policy setup (expected_entries policy setup (map f events)) (f event)
      ≡ expected_reply policy setup (expected_entries policy setup events) event
  expected_reply-map events event =
      ap (λ v. expected_reply policy setup v (f event)) (expected_entries-with_events events)
      ∙ expected_reply-with_events (expected_entries policy setup events) event

  -- and so is each cache
  pub sequential_cache-map : (events : List (Event K)) (i : ℕ)
      → sequential_cache policy setup (expected_entries policy setup (map f events)) i
      ≡ sequential_cache policy setup (expected_entries policy setup events) i
  sequential_cache-map events i =
      ap (λ v. sequential_cache policy setup v i) (expected_entries-with_events events)
      ∙ sequential_cache-with_events (expected_entries policy setup events) i
