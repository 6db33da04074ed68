-- What one more entry of a granter's transcript changes of a call: its phase, what it was begun with, and the
-- answers to it.
use Rattle.std.proofs.Common.{◌≡◌, ℕ, ◌+◌, ℤ, true, false, cond, ◌||◌, List, [], ◌∷◌, ◌++◌, Option, Some, None, option_map, length, refl, ◌∙◌, ap}
use Rattle.std.specs.List.{list_any}
use Rattle.std.specs.Duration.{as_nanos}
use Rattle.std.specs.declared.time.Duration.{Duration}
use Rattle.std.proofs.lemmas.List.{map-append}
use Rattle.sign_base.specs.declared.call_id.CallId.{CallId}
use Rattle.sign_base.specs.Calls.{same_call}
use Rattle.sequential_signer.specs.Transcript.{entries_of}
use Rattle.sequential_signer.specs.Phase.{Phase, Unknown, Unpolled, Queued, Loading, Signing, Ended, moves_call, is_begun, is_not_now, is_poll, is_waiting_poll, is_begin_under, is_new_number, phase_by, phase_in, phase_of}
use Rattle.sequential_signer.specs.Hold.{BeginInput, begin_in, begin_of, answer_in, answers_in, answers_of}
use Rattle.sequential_signer.specs.LiveCall.{live_call, live_by, live_in, greatest_begun, greater}
use Rattle.sequential_signer.specs.GrantTranscript.{no_head, as_event, as_reply, as_entry, as_signer, grant_call_of, grant_phase_of}
use Rattle.sequential_signer.specs.LawsOfGrants.{grant_entry}
use Rattle.sequential_signer.specs.declared.event.Answer.{Answer}
use Rattle.sequential_signer.specs.declared.grant_event.GrantEntry.{GrantEntry}
use Rattle.sequential_signer.specs.declared.grant_event.GrantEvent.{GrantEvent}
use Rattle.sequential_signer.specs.declared.grant_event.GrantEvent.TheVariants.{Begin, Poll, Provided}
use Rattle.sequential_signer.specs.declared.grant_event.GrantReply.{GrantReply}
use Rattle.sequential_signer.specs.declared.grant_event.GrantReply.TheVariants.{Begun, Pending, NotNow, Ask, Grant, Refused, Given, Cancelled}
use Rattle.sequential_signer.specs.declared.grant_event.GrantWhy.{GrantWhy}
use Rattle.sign_base.proofs.Calls.{same_call-refl}
use Rattle.sequential_signer.proofs.Lists.{list_any-more, or_false, and_false}
use Rattle.sequential_signer.proofs.OwnEntries.{entries_of-own, entries_of-other, to_queued, phase_in-mark, phase_in-unmarked, phase_in-not_now, begin_in-no, begin_in-new, answers_in-no, answers_in-not_now, answers_in-more}
use Rattle.sequential_signer.proofs.NewNumbers.{new_is_unbegun}
use Rattle.sequential_signer.proofs.Greatest.{greatest_begun-more}
use Rattle.sequential_signer.proofs.LegalStep.{is_busy}

module _ {K : Type 0} where
  -- one more entry of a granter is one more of the signer
  pub as_signer-more : (entries : List (GrantEntry K)) (e : GrantEntry K)
      → as_signer (entries ++ e ∷ []) ≡ as_signer entries ++ as_entry e ∷ []
  as_signer-more entries e = map-append (as_entry {K = K}) entries (e ∷ [])

  -- a begin under the handle raises the greatest number, and any other entry leaves it
  pub grant_greatest-more : (h : ℕ) (entries : List (GrantEntry K)) (e : GrantEntry K)
      → greatest_begun h (as_signer (entries ++ e ∷ []))
      ≡ cond (is_begin_under h (as_entry e))
      (greater (grant_call_of e.event).number (greatest_begun h (as_signer entries)))
      (greatest_begun h (as_signer entries))
  grant_greatest-more h entries e = ap (greatest_begun h) (as_signer-more entries e) ∙ greatest_begun-more h (as_signer entries) (as_entry e)

  -- a live call, by its phase, what it was begun with and the number of its answers
  pub live_grant : (entries : List (GrantEntry K)) (call : CallId) (p : Phase) (n : ℕ) (begin : BeginInput)
      → grant_phase_of entries call ≡ p → length (answers_of (as_signer entries) call) ≡ n
      → begin_of (as_signer entries) call ≡ Some begin
      → live_call (as_signer entries) call ≡ live_in p n begin
  live_grant entries call p n begin h k b = rw (h, k, b) refl

  -- a call that is over, or that was never begun, is not live
  pub ended_grant-not_live : (entries : List (GrantEntry K)) (call : CallId)
      → grant_phase_of entries call ≡ Ended → live_call (as_signer entries) call ≡ None
  ended_grant-not_live entries call h = ap (λ p. live_by p (length (answers_of (as_signer entries) call)) (begin_of (as_signer entries) call)) h ∙ over (length (answers_of (as_signer entries) call)) (begin_of (as_signer entries) call)
    where
      over : (n : ℕ) (o : Option BeginInput) → live_by Ended n o ≡ None
      over n None = refl
      over n (Some begin) = refl

  pub unbegun_grant-not_live : (entries : List (GrantEntry K)) (call : CallId)
      → begin_of (as_signer entries) call ≡ None → live_call (as_signer entries) call ≡ None
  unbegun_grant-not_live entries call h = ap (live_by (grant_phase_of entries call) (length (answers_of (as_signer entries) call))) h

  -- an entry about another call leaves all that the transcript says of this one
  module _ (entries : List (GrantEntry K)) (e : GrantEntry K) (call : CallId)
      (other : same_call call (grant_call_of e.event) ≡ false) where
    pub grant_entries-other : entries_of (as_signer (entries ++ e ∷ [])) call
        ≡ entries_of (as_signer entries) call
    grant_entries-other = ap (λ es. entries_of es call) (as_signer-more entries e) ∙ entries_of-other (as_signer entries) call (as_entry e) other

    pub grant_phase-other : grant_phase_of (entries ++ e ∷ []) call ≡ grant_phase_of entries call
    unfolding phase_of
    grant_phase-other = ap phase_in grant_entries-other

    pub grant_begin-other : begin_of (as_signer (entries ++ e ∷ [])) call ≡ begin_of (as_signer entries) call
    grant_begin-other = ap begin_in grant_entries-other

    pub grant_answers-other : answers_of (as_signer (entries ++ e ∷ [])) call
        ≡ answers_of (as_signer entries) call
    grant_answers-other = ap answers_in grant_entries-other

    pub live_grant-other : live_call (as_signer (entries ++ e ∷ [])) call ≡ live_call (as_signer entries) call
    live_grant-other = rw (grant_phase-other, grant_answers-other, grant_begin-other) refl

  -- an entry about this call
  module _ (entries : List (GrantEntry K)) (e : GrantEntry K) (call : CallId)
      (own : same_call call (grant_call_of e.event) ≡ true) where
    -- it is the last of the call's entries
    pub grant_entries-own : entries_of (as_signer (entries ++ e ∷ [])) call
        ≡ entries_of (as_signer entries) call ++ as_entry e ∷ []
    grant_entries-own = ap (λ es. entries_of es call) (as_signer-more entries e) ∙ entries_of-own (as_signer entries) call (as_entry e) own

    -- after a mark the phase is that of the mark
    pub grant_phase-mark : moves_call (as_reply e.reply) ≡ true
        → grant_phase_of (entries ++ e ∷ []) call
        ≡ phase_by
        (list_any is_waiting_poll (entries_of (as_signer entries) call) || is_waiting_poll (as_entry e))
        (as_reply e.reply)
    unfolding phase_of
    grant_phase-mark h = ap phase_in grant_entries-own ∙ phase_in-mark (entries_of (as_signer entries) call) (as_entry e) h

    -- a reply that is no mark leaves the phase, but for a poll that is answered `Pending`
    pub grant_phase-unmarked : moves_call (as_reply e.reply) ≡ false
        → grant_phase_of (entries ++ e ∷ []) call
        ≡ cond (is_waiting_poll (as_entry e)) (to_queued (grant_phase_of entries call))
        (grant_phase_of entries call)
    unfolding phase_of
    grant_phase-unmarked h = ap phase_in grant_entries-own ∙ phase_in-unmarked (entries_of (as_signer entries) call) (as_entry e) h

    -- the call has waited where it had before, or where this is a poll that was answered `Pending`
    pub grant_waited-own : list_any is_waiting_poll (entries_of (as_signer (entries ++ e ∷ [])) call)
        ≡ (list_any is_waiting_poll (entries_of (as_signer entries) call) || is_waiting_poll (as_entry e))
    grant_waited-own = ap (list_any is_waiting_poll) grant_entries-own ∙ list_any-more is_waiting_poll (entries_of (as_signer entries) call) (as_entry e)

    -- a reply that accepts no begin leaves what the call was begun with
    pub grant_begin-own : is_begun (as_reply e.reply) ≡ false
        → begin_of (as_signer (entries ++ e ∷ [])) call ≡ begin_of (as_signer entries) call
    grant_begin-own h = ap begin_in grant_entries-own ∙ begin_in-no (entries_of (as_signer entries) call) (as_entry e) h

    -- an event that is no answer leaves the answers
    pub grant_answers-own_none : answer_in (as_event e.event) ≡ None
        → answers_of (as_signer (entries ++ e ∷ [])) call ≡ answers_of (as_signer entries) call
    grant_answers-own_none h = ap answers_in grant_entries-own ∙ answers_in-no (entries_of (as_signer entries) call) (as_entry e) h

    -- an answer that fits is the last one
    pub grant_answers-own_more : (a : Answer K × ℤ) → is_not_now (as_reply e.reply) ≡ false
        → answer_in (as_event e.event) ≡ Some a
        → answers_of (as_signer (entries ++ e ∷ [])) call ≡ answers_of (as_signer entries) call ++ a ∷ []
    grant_answers-own_more a n h = ap answers_in grant_entries-own ∙ answers_in-more (entries_of (as_signer entries) call) (as_entry e) a n h

  -- the phase after each reply that is a mark
  module _ (entries : List (GrantEntry K)) (event : GrantEvent K) (call : CallId)
      (own : same_call call (grant_call_of event) ≡ true) where
    pub phase_after-ask : (provider : ℕ)
        → grant_phase_of (entries ++ grant_entry event (Ask provider) ∷ []) call ≡ Loading
    phase_after-ask provider = grant_phase-mark entries (grant_entry event (Ask provider)) call own refl

    pub phase_after-grant : (source : K)
        → grant_phase_of (entries ++ grant_entry event (Grant source) ∷ []) call ≡ Signing
    phase_after-grant source = grant_phase-mark entries (grant_entry event (Grant source)) call own refl

    pub phase_after-refused : (cause : GrantWhy)
        → grant_phase_of (entries ++ grant_entry event (Refused cause) ∷ []) call ≡ Ended
    phase_after-refused cause = grant_phase-mark entries (grant_entry event (Refused cause)) call own refl

    pub phase_after-given : (credential : K)
        → grant_phase_of (entries ++ grant_entry event (Given credential) ∷ []) call ≡ Ended
    phase_after-given credential = grant_phase-mark entries (grant_entry event (Given credential)) call own refl

    pub phase_after-cancelled : grant_phase_of (entries ++ grant_entry event Cancelled ∷ []) call ≡ Ended
    phase_after-cancelled = grant_phase-mark entries (grant_entry event Cancelled) call own refl

    -- a begin is accepted before any poll
    pub phase_after-begun : list_any is_waiting_poll (entries_of (as_signer entries) call) ≡ false
        → grant_phase_of (entries ++ grant_entry event Begun ∷ []) call ≡ Unpolled
    phase_after-begun h =
        grant_phase-mark entries (grant_entry event Begun) call own refl
        ∙ ap (λ v. cond (v || is_waiting_poll (as_entry (grant_entry event Begun))) Queued Unpolled) h
        ∙ ap (λ v. cond v Queued Unpolled) (and_false (is_poll (as_event event)))

    -- `NotNow` leaves all that the transcript says of the call
    pub phase_after-not_now : grant_phase_of (entries ++ grant_entry event NotNow ∷ []) call
        ≡ grant_phase_of entries call
    unfolding phase_of
    phase_after-not_now = ap phase_in (grant_entries-own entries (grant_entry event NotNow) call own) ∙ phase_in-not_now (entries_of (as_signer entries) call) (as_event event)

    pub begin_after-not_now : begin_of (as_signer (entries ++ grant_entry event NotNow ∷ [])) call
        ≡ begin_of (as_signer entries) call
    begin_after-not_now = grant_begin-own entries (grant_entry event NotNow) call own refl

    pub answers_after-not_now : answers_of (as_signer (entries ++ grant_entry event NotNow ∷ [])) call
        ≡ answers_of (as_signer entries) call
    answers_after-not_now = ap answers_in (grant_entries-own entries (grant_entry event NotNow) call own) ∙ answers_in-not_now (entries_of (as_signer entries) call) (as_event event)

    pub waited_after-not_now : list_any is_waiting_poll
        (entries_of (as_signer (entries ++ grant_entry event NotNow ∷ [])) call)
        ≡ list_any is_waiting_poll (entries_of (as_signer entries) call)
    waited_after-not_now =
        grant_waited-own entries (grant_entry event NotNow) call own
        ∙ ap (λ v. list_any is_waiting_poll (entries_of (as_signer entries) call) || v) (and_false (is_poll (as_event event)))
        ∙ or_false _

    pub live_after-not_now : live_call (as_signer (entries ++ grant_entry event NotNow ∷ [])) call
        ≡ live_call (as_signer entries) call
    live_after-not_now = rw (phase_after-not_now, answers_after-not_now, begin_after-not_now) refl

  -- a poll that waits for an answer of its call leaves its phase
  module _ (entries : List (GrantEntry K)) (call : CallId) (now : ℤ) where
    busy_stays : (p : Phase) → is_busy p ≡ true → to_queued p ≡ p
    busy_stays Loading h = refl
    busy_stays Signing h = refl
    busy_stays Unknown h = absurd (cc)
    busy_stays Unpolled h = absurd (cc)
    busy_stays Queued h = absurd (cc)
    busy_stays Ended h = absurd (cc)

    pub phase_after-pending : is_busy (grant_phase_of entries call) ≡ true
        → grant_phase_of (entries ++ grant_entry (Poll call now) Pending ∷ []) call
        ≡ grant_phase_of entries call
    phase_after-pending h = grant_phase-unmarked entries (grant_entry (Poll call now) Pending) call (same_call-refl call) refl ∙ busy_stays (grant_phase_of entries call) h

    -- so it leaves all that the transcript says of the call
    pub live_after-pending : is_busy (grant_phase_of entries call) ≡ true
        → live_call (as_signer (entries ++ grant_entry (Poll call now) Pending ∷ [])) call
        ≡ live_call (as_signer entries) call
    live_after-pending h =
        rw (phase_after-pending h, grant_answers-own_none entries (grant_entry (Poll call now) Pending) call (same_call-refl call) refl, grant_begin-own entries (grant_entry (Poll call now) Pending) call (same_call-refl call) refl) refl

  -- an answer that is not answered `NotNow` is the last one
  pub answers_after-provided : (entries : List (GrantEntry K)) (call : CallId) (now : ℤ) (answer : Answer K)
      (reply : GrantReply K) → is_not_now (as_reply reply) ≡ false
      → answers_of (as_signer (entries ++ grant_entry (Provided call now answer) reply ∷ [])) call
      ≡ answers_of (as_signer entries) call ++ (answer, now) ∷ []
  answers_after-provided entries call now answer reply n = grant_answers-own_more entries (grant_entry (Provided call now answer) reply) call (same_call-refl call) (answer, now) n refl

  -- an accepted begin is what its call was begun with
  pub begin_after-begun : (entries : List (GrantEntry K)) (call : CallId) (expires_in : Option Duration)
      → is_new_number (as_signer entries) call ≡ true
      → begin_of (as_signer (entries ++ grant_entry (Begin call expires_in) Begun ∷ [])) call
      ≡ Some (record { head = no_head; duration = option_map as_nanos expires_in })
  begin_after-begun entries call expires_in new =
      let e : GrantEntry K = grant_entry (Begin call expires_in) Begun in
      ap begin_in (grant_entries-own entries e call (same_call-refl call)) ∙ begin_in-new (entries_of (as_signer entries) call) (as_entry e) (new_is_unbegun call (as_signer entries) new) refl
