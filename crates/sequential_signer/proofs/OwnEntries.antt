-- The entries of one call, after one more entry.
use Rattle.std.proofs.Common.{◌≡◌, Bool, true, false, not, cond, ◌||◌, List, [], ◌∷◌, ◌++◌, Option, Some, None, refl, sym, ◌∙◌, ap, ℤ, filter, find, filter_map, option_and_then}
use Rattle.sign_base.specs.declared.call_id.CallId.{CallId}
use Rattle.sign_base.specs.Calls.{same_call}
use Rattle.sequential_signer.specs.Transcript.{call_of, is_about, entries_of, last_of}
use Rattle.sequential_signer.specs.declared.event.Entry.{Entry}
use Rattle.std.specs.List.{list_any}
use Rattle.std.proofs.lemmas.List.{append-nil}
use Rattle.std.proofs.lemmas.List.Elements.{filter_map-append}
use Rattle.sequential_signer.specs.Phase.{Phase, Unknown, Unpolled, Queued, Loading, Signing, Ended, is_loading, moves_call, is_poll, is_begun, is_not_now, is_waiting_poll, phase_by, phase_at, phase_in}
use Rattle.sequential_signer.specs.Hold.{BeginInput, begun_with, begin_in, answer_in, answers_in}
use Rattle.sequential_signer.specs.Replies.{is_ask}
use Rattle.sequential_signer.specs.declared.event.Answer.{Answer}
use Rattle.sequential_signer.specs.declared.event.Event.{Event}
use Rattle.sequential_signer.specs.declared.event.Event.TheVariants.{Poll}
use Rattle.sequential_signer.specs.declared.event.Reply.{Reply}
use Rattle.sequential_signer.specs.declared.event.Reply.TheVariants.{Begun, Pending, NotNow, OutOfMemory, Ask, Sign, Refused, Done, Cancelled}
use Rattle.sequential_signer.proofs.Lists.{filter-more, filter-more_yes, filter-more_no, list_any-more, last_of-more, find-more_found, find-more_no, find-more_yes, or_false, or_true, and_false}

module _ {K : Type 0} where
  -- an entry of the call is the last of its entries, and one of another call is none of them
  pub entries_of-own : (entries : List (Entry K)) (call : CallId) (e : Entry K)
      → same_call call (call_of e.event) ≡ true
      → entries_of (entries ++ e ∷ []) call ≡ entries_of entries call ++ e ∷ []
  unfolding entries_of
  entries_of-own entries call e h = filter-more_yes (is_about call) entries e h

  pub entries_of-other : (entries : List (Entry K)) (call : CallId) (e : Entry K)
      → same_call call (call_of e.event) ≡ false
      → entries_of (entries ++ e ∷ []) call ≡ entries_of entries call
  unfolding entries_of
  entries_of-other entries call e h = filter-more_no (is_about call) entries e h

-- a call that had waited is queued
abbrev pub to_queued : Phase → Phase
to_queued Unpolled = Queued
to_queued p = p

-- a call that had waited loads where it loaded before
pub to_queued-loading : (p : Phase) → is_loading (to_queued p) ≡ is_loading p
to_queued-loading Unknown = refl
to_queued-loading Unpolled = refl
to_queued-loading Queued = refl
to_queued-loading Loading = refl
to_queued-loading Signing = refl
to_queued-loading Ended = refl

-- a mark begins a load exactly where it asks
pub phase_by-loading : {K : Type 0} (waited : Bool) (r : Reply K) → is_loading (phase_by waited r) ≡ is_ask r
phase_by-loading waited Begun = elim waited as (λ v. is_loading (cond v Queued Unpolled) ≡ false) [ true ↦ refl | false ↦ refl ]
phase_by-loading waited Pending = refl
phase_by-loading waited NotNow = refl
phase_by-loading waited OutOfMemory = refl
phase_by-loading waited (Ask _) = refl
phase_by-loading waited (Sign _ _) = refl
phase_by-loading waited (Refused _ _) = refl
phase_by-loading waited (Done _) = refl
phase_by-loading waited (Cancelled _) = refl

phase_by_waited : {K : Type 0} (w : Bool) (r : Reply K) → phase_by true r ≡ to_queued (phase_by w r)
phase_by_waited w Begun = elim w as (λ v. Queued ≡ to_queued (cond v Queued Unpolled)) [ true ↦ refl | false ↦ refl ]
phase_by_waited w Pending = refl
phase_by_waited w NotNow = refl
phase_by_waited w OutOfMemory = refl
phase_by_waited w (Ask _) = refl
phase_by_waited w (Sign _ _) = refl
phase_by_waited w (Refused _ _) = refl
phase_by_waited w (Done _) = refl
phase_by_waited w (Cancelled _) = refl

module _ {K : Type 0} where
  -- after a mark the phase is that of the mark
  pub phase_in-mark : (entries : List (Entry K)) (e : Entry K) → moves_call e.reply ≡ true
      → phase_in (entries ++ e ∷ [])
      ≡ phase_by (list_any is_waiting_poll entries || is_waiting_poll e) e.reply
  unfolding phase_in
  phase_in-mark entries e h =
      rw (list_any-more is_waiting_poll entries e, filter-more_yes (λ (x : Entry K). moves_call x.reply) entries e h, last_of-more (filter (λ (x : Entry K). moves_call x.reply) entries) e) refl

  phase_at_waited : (w : Bool) (m : Option (Entry K)) → phase_at true m ≡ to_queued (phase_at w m)
  phase_at_waited w None = refl
  phase_at_waited w (Some e) = phase_by_waited w e.reply

  -- a reply that is no mark leaves the phase, but for a poll that is answered `Pending`
  pub phase_in-unmarked : (entries : List (Entry K)) (e : Entry K) → moves_call e.reply ≡ false
      → phase_in (entries ++ e ∷ [])
      ≡ cond (is_waiting_poll e) (to_queued (phase_in entries)) (phase_in entries)
  unfolding phase_in
  phase_in-unmarked entries e h =
      rw (list_any-more is_waiting_poll entries e, filter-more_no (λ (x : Entry K). moves_call x.reply) entries e h)
      (elim (is_waiting_poll e) as (λ v. phase_at (list_any is_waiting_poll entries || v) (last_of (filter (λ (x : Entry K). moves_call x.reply) entries)) ≡ cond v (to_queued (phase_at (list_any is_waiting_poll entries) (last_of (filter (λ (x : Entry K). moves_call x.reply) entries)))) (phase_at (list_any is_waiting_poll entries) (last_of (filter (λ (x : Entry K). moves_call x.reply) entries)))) [
        | true ↦ rw (or_true (list_any is_waiting_poll entries)) (phase_at_waited (list_any is_waiting_poll entries) (last_of (filter (λ (x : Entry K). moves_call x.reply) entries)))
        | false ↦ rw (or_false (list_any is_waiting_poll entries)) refl
      ])

  -- `NotNow` leaves the phase
  pub phase_in-not_now : (entries : List (Entry K)) (event : Event K)
      → phase_in (entries ++ record { event = event; reply = NotNow } ∷ []) ≡ phase_in entries
  phase_in-not_now entries event =
      phase_in-unmarked entries (record { event = event; reply = NotNow }) refl
      ∙ ap (λ v. cond v (to_queued (phase_in entries)) (phase_in entries)) (and_false (is_poll event))

  -- a poll that is answered `Pending` queues a call that was not polled before
  pub phase_in-pending : (entries : List (Entry K)) (call : CallId) (now : ℤ)
      → phase_in (entries ++ record { event = Poll call now; reply = Pending } ∷ [])
      ≡ to_queued (phase_in entries)
  phase_in-pending entries call now = phase_in-unmarked entries (record { event = Poll call now; reply = Pending }) refl

  -- so the phase after one more entry follows from the phase before it, and from whether the call was
  -- answered `Pending`
  pub phase_in-alike : (xs ys : List (Entry K)) (e : Entry K) → phase_in xs ≡ phase_in ys
      → list_any is_waiting_poll xs ≡ list_any is_waiting_poll ys
      → phase_in (xs ++ e ∷ []) ≡ phase_in (ys ++ e ∷ [])
  phase_in-alike xs ys e p w = by_mark (moves_call e.reply) refl
    where
      by_mark : (m : Bool) → moves_call e.reply ≡ m → phase_in (xs ++ e ∷ []) ≡ phase_in (ys ++ e ∷ [])
      by_mark true m = phase_in-mark xs e m ∙ ap (λ v. phase_by (v || is_waiting_poll e) e.reply) w ∙ sym (phase_in-mark ys e m)
      by_mark false m = phase_in-unmarked xs e m ∙ ap (λ v. cond (is_waiting_poll e) (to_queued v) v) p ∙ sym (phase_in-unmarked ys e m)

  -- what a call was begun with stays, and no entry changes it that accepts no begin
  pub begin_in-found : (entries : List (Entry K)) (e : Entry K) (b : BeginInput) → begin_in entries ≡ Some b
      → begin_in (entries ++ e ∷ []) ≡ Some b
  unfolding begin_in
  begin_in-found entries e b h = found_by (find (λ (x : Entry K). is_begun x.reply) entries) refl h
    where
      found_by : (o : Option (Entry K)) → find (λ (x : Entry K). is_begun x.reply) entries ≡ o
          → option_and_then (λ (x : Entry K). begun_with x.event) o ≡ Some b
          → option_and_then (λ (x : Entry K). begun_with x.event)
          (find (λ (x : Entry K). is_begun x.reply) (entries ++ e ∷ []))
          ≡ Some b
      found_by None f g = cc
      found_by (Some x) f g = rw (find-more_found (λ (x : Entry K). is_begun x.reply) entries e x f) g

  pub begin_in-no : (entries : List (Entry K)) (e : Entry K) → is_begun e.reply ≡ false
      → begin_in (entries ++ e ∷ []) ≡ begin_in entries
  unfolding begin_in
  begin_in-no entries e h = rw (find-more_no (λ (x : Entry K). is_begun x.reply) entries e h) refl

  -- neither an event that is no answer nor a reply `NotNow` adds an answer
  pub answers_in-no : (entries : List (Entry K)) (e : Entry K) → answer_in e.event ≡ None
      → answers_in (entries ++ e ∷ []) ≡ answers_in entries
  unfolding answers_in
  answers_in-no entries e h =
      rw (filter-more (λ (x : Entry K). not (is_not_now x.reply)) entries e)
      (elim (not (is_not_now e.reply)) as (λ v. filter_map (λ (x : Entry K). answer_in x.event) (cond v (filter (λ (x : Entry K). not (is_not_now x.reply)) entries ++ e ∷ []) (filter (λ (x : Entry K). not (is_not_now x.reply)) entries)) ≡ answers_in entries)
      [ true ↦ rw (filter_map-append (λ (x : Entry K). answer_in x.event) (filter (λ (x : Entry K). not (is_not_now x.reply)) entries) (e ∷ []), h) (append-nil _) | false ↦ refl ])

  pub answers_in-not_now : (entries : List (Entry K)) (event : Event K)
      → answers_in (entries ++ record { event = event; reply = NotNow } ∷ []) ≡ answers_in entries
  unfolding answers_in
  answers_in-not_now entries event = rw (filter-more_no (λ (x : Entry K). not (is_not_now x.reply)) entries (record { event = event; reply = NotNow }) refl) refl

  -- an answer that fits is the last one
  pub answers_in-more : (entries : List (Entry K)) (e : Entry K) (a : Answer K × ℤ)
      → is_not_now e.reply ≡ false → answer_in e.event ≡ Some a
      → answers_in (entries ++ e ∷ []) ≡ answers_in entries ++ a ∷ []
  unfolding answers_in
  answers_in-more entries e a n h =
      rw (filter-more_yes (λ (x : Entry K). not (is_not_now x.reply)) entries e (ap not n), filter_map-append (λ (x : Entry K). answer_in x.event) (filter (λ (x : Entry K). not (is_not_now x.reply)) entries) (e ∷ []), h) refl

  -- the first accepted begin is what the call was begun with
  pub begin_in-new : (entries : List (Entry K)) (e : Entry K)
      → find (λ (x : Entry K). is_begun x.reply) entries ≡ None → is_begun e.reply ≡ true
      → begin_in (entries ++ e ∷ []) ≡ begun_with e.event
  unfolding begin_in
  begin_in-new entries e n h = rw (find-more_yes (λ (x : Entry K). is_begun x.reply) entries e n h) refl
