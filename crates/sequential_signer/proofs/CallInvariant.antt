-- What holds of each call after a run.
use Rattle.std.proofs.Common.{◌≡◌, ℕ, ℤ, Bool, true, false, cond, ◌&&◌, ◌||◌, List, [], ◌∷◌, ◌++◌, Option, Some, None, is_some, refl, sym, ◌∙◌, ap, subst}
use Rattle.std.specs.List.{list_any}
use Rattle.sign_base.specs.declared.call_id.CallId.{CallId}
use Rattle.sequential_signer.specs.Setup.{Setup, is_of_cache}
use Rattle.sign_base.specs.Calls.{same_call}
use Rattle.sequential_signer.specs.Transcript.{call_of, is_about, entries_of}
use Rattle.sequential_signer.specs.Phase.{Phase, Unknown, Unpolled, Queued, Loading, Signing, Ended, moves_call, is_poll, is_begun, is_waiting_poll, is_loading, phase_by, phase_in, phase_of}
use Rattle.sequential_signer.specs.Turn.{is_fitting_poll, is_poll_at, ends_hold, serves, hold_is_finished, is_served, has_turn}
use Rattle.sequential_signer.specs.Hold.{BeginInput, begin_in, begin_of, answer_in, answers_in, answers_of, turn_moment, is_poll_at_turn}
use Rattle.sequential_signer.specs.Replies.{is_ask}
use Rattle.sequential_signer.specs.declared.event.Entry.{Entry}
use Rattle.sequential_signer.specs.declared.event.Event.{Event}
use Rattle.sequential_signer.specs.declared.event.Reply.TheVariants.{NotNow}
use Rattle.sequential_signer.proofs.Lists.{list_any-more, or_false, or_true, and_false}
use Rattle.sign_base.proofs.Calls.{same_call-eq}
use Rattle.sequential_signer.proofs.OwnEntries.{entries_of-own, entries_of-other, to_queued, to_queued-loading, phase_by-loading, phase_in-mark, phase_in-unmarked, phase_in-not_now, begin_in-found, begin_in-no, answers_in-no, answers_in-not_now}
use Rattle.sequential_signer.proofs.PollOrder.{poll_order-same, is_polled, is_polled-more, is_polled-other, is_polled-own, hold_is_finished-own, hold_is_finished-other, hold_is_finished-more, is_served-own, is_served-other, has_turn-more, turn_moment-found, HadNoTurn, had_no_turn-more}

module _ {K D : Type 0} (setup : Setup D) where
  -- the call had its turn at cache i, at this moment
  pub record HadTurn (entries : List (Entry K)) (i : ℕ) (call : CallId) : Type 0 where
    pub polled : is_polled setup entries i call ≡ true
    pub turn : has_turn setup entries i call ≡ true
    pub moment : ℤ
    pub at : turn_moment setup entries i call ≡ Some moment

  -- a begun call whose turn did not come yet
  pub record Waits (entries : List (Entry K)) (i : ℕ) (call : CallId) : Type 0 where
    pub begun : is_some (begin_of entries call) ≡ true
    pub answers : answers_of entries call ≡ []
    pub unserved : is_served entries call ≡ false
    pub unfinished : hold_is_finished entries call ≡ false
    pub no_turn : HadNoTurn setup entries i call

  -- a call that got no reply but `NotNow`
  pub record IsBlank (entries : List (Entry K)) (i : ℕ) (call : CallId) : Type 0 where
    pub begin : begin_of entries call ≡ None
    pub waited : list_any is_waiting_poll (entries_of entries call) ≡ false
    pub answers : answers_of entries call ≡ []
    pub unserved : is_served entries call ≡ false
    pub unfinished : hold_is_finished entries call ≡ false
    pub unpolled : is_polled setup entries i call ≡ false
    pub no_turn : HadNoTurn setup entries i call

  -- a call that asked a provider, and whose load is not over
  pub record Loads (entries : List (Entry K)) (i : ℕ) (call : CallId) : Type 0 where
    pub begun : is_some (begin_of entries call) ≡ true
    pub unserved : is_served entries call ≡ false
    pub unfinished : hold_is_finished entries call ≡ false
    pub had : HadTurn entries i call

  -- a call whose hold ended in a credential or a refusal
  pub record IsServed (entries : List (Entry K)) (i : ℕ) (call : CallId) : Type 0 where
    pub begun : is_some (begin_of entries call) ≡ true
    pub finished : hold_is_finished entries call ≡ true
    pub served : is_served entries call ≡ true
    pub had : HadTurn entries i call

  -- a call that was cancelled before its hold ended otherwise
  pub record IsCancelled (entries : List (Entry K)) (i : ℕ) (call : CallId) : Type 0 where
    pub begun : is_some (begin_of entries call) ≡ true
    pub finished : hold_is_finished entries call ≡ true
    pub unserved : is_served entries call ≡ false

  -- how the call stands at its cache i, by its phase
  pub data CallInvariant (entries : List (Entry K)) (i : ℕ) (call : CallId) : Phase → Type 0 where
    unknown_call : IsBlank entries i call → CallInvariant entries i call Unknown
    unpolled_call : Waits entries i call → list_any is_waiting_poll (entries_of entries call) ≡ false
        → is_polled setup entries i call ≡ false → CallInvariant entries i call Unpolled
    queued_call : Waits entries i call → is_polled setup entries i call ≡ true
        → CallInvariant entries i call Queued
    loading_call : Loads entries i call → CallInvariant entries i call Loading
    signing_call : IsServed entries i call → CallInvariant entries i call Signing
    over_call : IsServed entries i call → CallInvariant entries i call Ended
    cancelled_call : IsCancelled entries i call → CallInvariant entries i call Ended

  module _ (entries : List (Entry K)) (i : ℕ) (e : Entry K) (call : CallId) where
    -- a turn that came stays
    pub had-more : HadTurn entries i call → HadTurn (entries ++ e ∷ []) i call
    had-more h = record {
      polled = is_polled-more setup entries i e call h.polled;
      turn = has_turn-more setup entries i e call h.polled h.turn;
      moment = h.moment;
      at = turn_moment-found setup entries i e call h.moment h.at;
    }

  module _ (entries : List (Entry K)) (i : ℕ) (e : Entry K) (call : CallId)
      (other : same_call call (call_of e.event) ≡ false) where
    -- an entry about another call leaves what the call was begun with, the answers to it, its phase, and
    -- whether it waited
    pub begin-other : begin_of (entries ++ e ∷ []) call ≡ begin_of entries call
    begin-other = ap begin_in (entries_of-other entries call e other)

    pub answers-other : answers_of (entries ++ e ∷ []) call ≡ answers_of entries call
    answers-other = ap answers_in (entries_of-other entries call e other)

    pub phase-other : phase_of (entries ++ e ∷ []) call ≡ phase_of entries call
    unfolding phase_of
    phase-other = ap phase_in (entries_of-other entries call e other)

    waited-other : list_any is_waiting_poll (entries_of (entries ++ e ∷ []) call)
        ≡ list_any is_waiting_poll (entries_of entries call)
    waited-other = ap (list_any is_waiting_poll) (entries_of-other entries call e other)

    no_turn-other : HadNoTurn setup entries i call → HadNoTurn setup (entries ++ e ∷ []) i call
    no_turn-other n = had_no_turn-more setup entries i e call (ap (λ v. (v && is_fitting_poll e) && has_turn setup entries i call) other) n

    waits-other : Waits entries i call → Waits (entries ++ e ∷ []) i call
    waits-other w = record {
      begun = ap is_some begin-other ∙ w.begun;
      answers = answers-other ∙ w.answers;
      unserved = is_served-other setup entries e call other ∙ w.unserved;
      unfinished = hold_is_finished-other setup entries e call other ∙ w.unfinished;
      no_turn = no_turn-other w.no_turn;
    }

    served-other : IsServed entries i call → IsServed (entries ++ e ∷ []) i call
    served-other s = record {
      begun = ap is_some begin-other ∙ s.begun;
      finished = hold_is_finished-more setup entries e call s.finished;
      served = is_served-other setup entries e call other ∙ s.served;
      had = had-more entries i e call s.had;
    }

    -- an entry about another call changes nothing
    pub stands-other : (p : Phase) → CallInvariant entries i call p
        → CallInvariant (entries ++ e ∷ []) i call p
    stands-other Unknown (unknown_call b) = unknown_call (record {
      begin = begin-other ∙ b.begin;
      waited = waited-other ∙ b.waited;
      answers = answers-other ∙ b.answers;
      unserved = is_served-other setup entries e call other ∙ b.unserved;
      unfinished = hold_is_finished-other setup entries e call other ∙ b.unfinished;
      unpolled = is_polled-other setup entries i e call other ∙ b.unpolled;
      no_turn = no_turn-other b.no_turn;
    })
    stands-other Unpolled (unpolled_call w v p) = unpolled_call (waits-other w) (waited-other ∙ v) (is_polled-other setup entries i e call other ∙ p)
    stands-other Queued (queued_call w p) = queued_call (waits-other w) (is_polled-more setup entries i e call p)
    stands-other Loading (loading_call l) = loading_call (record {
      begun = ap is_some begin-other ∙ l.begun;
      unserved = is_served-other setup entries e call other ∙ l.unserved;
      unfinished = hold_is_finished-other setup entries e call other ∙ l.unfinished;
      had = had-more entries i e call l.had;
    })
    stands-other Signing (signing_call s) = signing_call (served-other s)
    stands-other Ended (over_call s) = over_call (served-other s)
    stands-other Ended (cancelled_call c) = cancelled_call (record {
      begun = ap is_some begin-other ∙ c.begun;
      finished = hold_is_finished-more setup entries e call c.finished;
      unserved = is_served-other setup entries e call other ∙ c.unserved;
    })

  module _ (entries : List (Entry K)) (i : ℕ) (e : Entry K) (call : CallId)
      (own : same_call call (call_of e.event) ≡ true) where
    -- an entry of the call itself that accepts no begin leaves what it was begun with
    pub begin-own : is_begun e.reply ≡ false → begin_of (entries ++ e ∷ []) call ≡ begin_of entries call
    begin-own h = ap begin_in (entries_of-own entries call e own) ∙ begin_in-no (entries_of entries call) e h

    stays_by : (o : Option BeginInput) → begin_of entries call ≡ o → is_some o ≡ true
        → begin_of (entries ++ e ∷ []) call ≡ begin_of entries call
    stays_by None f h = cc
    stays_by (Some b) f h = ap begin_in (entries_of-own entries call e own) ∙ begin_in-found (entries_of entries call) e b f ∙ sym f

    -- what a call was begun with stays
    pub begin-stays : is_some (begin_of entries call) ≡ true
        → begin_of (entries ++ e ∷ []) call ≡ begin_of entries call
    begin-stays h = stays_by (begin_of entries call) refl h

    -- a call that was begun stays so
    pub begun-own : is_some (begin_of entries call) ≡ true
        → is_some (begin_of (entries ++ e ∷ []) call) ≡ true
    begun-own h = ap is_some (begin-stays h) ∙ h

    -- an event that is no answer leaves the answers
    pub answers-own_none : answer_in e.event ≡ None
        → answers_of (entries ++ e ∷ []) call ≡ answers_of entries call
    answers-own_none h = ap answers_in (entries_of-own entries call e own) ∙ answers_in-no (entries_of entries call) e h

    -- the call is served after the entry where it was before, or where the reply serves it; so with the end
    -- of its hold
    pub served-own : (b : Bool) → is_served entries call ≡ b
        → is_served (entries ++ e ∷ []) call ≡ (b || serves e.reply)
    served-own b h = is_served-own setup entries e call own ∙ ap (λ v. v || serves e.reply) h

    pub finished-own : (b : Bool) → hold_is_finished entries call ≡ b
        → hold_is_finished (entries ++ e ∷ []) call ≡ (b || ends_hold e.reply)
    finished-own b h = hold_is_finished-own setup entries e call own ∙ ap (λ v. v || ends_hold e.reply) h

    phase-own : phase_of (entries ++ e ∷ []) call ≡ phase_in (entries_of entries call ++ e ∷ [])
    unfolding phase_of
    phase-own = ap phase_in (entries_of-own entries call e own)

    -- after a mark the phase is that of the mark
    pub phase-own_mark : moves_call e.reply ≡ true
        → phase_of (entries ++ e ∷ []) call
        ≡ phase_by (list_any is_waiting_poll (entries_of entries call) || is_waiting_poll e) e.reply
    phase-own_mark h = phase-own ∙ phase_in-mark (entries_of entries call) e h

    -- after a mark the call loads exactly where the mark asks; any other entry leaves whether it loads
    pub loads-own_mark : moves_call e.reply ≡ true
        → is_loading (phase_of (entries ++ e ∷ []) call) ≡ is_ask e.reply
    loads-own_mark h = ap is_loading (phase-own_mark h) ∙ phase_by-loading (list_any is_waiting_poll (entries_of entries call) || is_waiting_poll e) e.reply

    pub loads-own_unmarked : moves_call e.reply ≡ false
        → is_loading (phase_of (entries ++ e ∷ []) call) ≡ is_loading (phase_of entries call)
    unfolding phase_of
    loads-own_unmarked h =
        ap is_loading (phase-own ∙ phase_in-unmarked (entries_of entries call) e h)
        ∙ elim (is_waiting_poll e) as (λ v. is_loading (cond v (to_queued (phase_in (entries_of entries call))) (phase_in (entries_of entries call))) ≡ is_loading (phase_in (entries_of entries call)))
        [ true ↦ to_queued-loading (phase_in (entries_of entries call)) | false ↦ refl ]

    -- the call has waited where it had before, or where this is a poll that was answered `Pending`
    pub waited-own : list_any is_waiting_poll (entries_of (entries ++ e ∷ []) call)
        ≡ (list_any is_waiting_poll (entries_of entries call) || is_waiting_poll e)
    waited-own = ap (list_any is_waiting_poll) (entries_of-own entries call e own) ∙ list_any-more is_waiting_poll (entries_of entries call) e

    -- a call that was served stays so
    pub served_stays : IsServed entries i call → IsServed (entries ++ e ∷ []) i call
    served_stays s = record {
      begun = begun-own s.begun;
      finished = hold_is_finished-more setup entries e call s.finished;
      served = served-own true s.served;
      had = had-more entries i e call s.had;
    }

    -- the call is served by this entry
    pub now_served : is_some (begin_of entries call) ≡ true → serves e.reply ≡ true → ends_hold e.reply ≡ true
        → HadTurn (entries ++ e ∷ []) i call → IsServed (entries ++ e ∷ []) i call
    now_served b s f had = record {
      begun = begun-own b;
      finished = hold_is_finished-own setup entries e call own ∙ ap (λ v. hold_is_finished entries call || v) f ∙ or_true _;
      served = is_served-own setup entries e call own ∙ ap (λ v. is_served entries call || v) s ∙ or_true _;
      had = had;
    }

    -- a call that loads goes on loading where the reply neither ends its hold nor serves it
    pub loads_stays : ends_hold e.reply ≡ false → serves e.reply ≡ false → Loads entries i call
        → Loads (entries ++ e ∷ []) i call
    loads_stays f s l = record {
      begun = begun-own l.begun;
      unserved = served-own false l.unserved ∙ s;
      unfinished = finished-own false l.unfinished ∙ f;
      had = had-more entries i e call l.had;
    }

    waits_stays : answers_of (entries ++ e ∷ []) call ≡ answers_of entries call → ends_hold e.reply ≡ false
        → serves e.reply ≡ false → is_poll_at_turn setup i call (entries, e) ≡ false → Waits entries i call
        → Waits (entries ++ e ∷ []) i call
    waits_stays a f s n w = record {
      begun = begun-own w.begun;
      answers = a ∙ w.answers;
      unserved = served-own false w.unserved ∙ s;
      unfinished = finished-own false w.unfinished ∙ f;
      no_turn = had_no_turn-more setup entries i e call n w.no_turn;
    }

    no_poll-at : is_fitting_poll e ≡ false → is_poll_at setup i e ≡ false
    no_poll-at h = ap (λ v. v && is_of_cache setup i (call_of e.event)) h

    -- what is no poll that fits is none at the turn, and leaves who was polled
    pub no_poll-turn : is_fitting_poll e ≡ false → is_poll_at_turn setup i call (entries, e) ≡ false
    no_poll-turn h = ap (λ v. (is_about call e && v) && has_turn setup entries i call) h ∙ ap (λ v. v && has_turn setup entries i call) (and_false _)

    pub unpolled-own : is_fitting_poll e ≡ false
        → is_polled setup (entries ++ e ∷ []) i call ≡ is_polled setup entries i call
    unpolled-own h = ap (list_any (same_call call)) (poll_order-same setup entries i e (no_poll-at h))

    -- a poll that waits leaves a call that waited in the queue
    pub waits_queued : is_poll_at setup i e ≡ true → answer_in e.event ≡ None → ends_hold e.reply ≡ false
        → serves e.reply ≡ false → is_poll_at_turn setup i call (entries, e) ≡ false → Waits entries i call
        → CallInvariant (entries ++ e ∷ []) i call Queued
    waits_queued p a f s n w = queued_call (waits_stays (answers-own_none a) f s n w) (subst (λ c. is_polled setup (entries ++ e ∷ []) i c ≡ true) (sym (same_call-eq call (call_of e.event) own)) (is_polled-own setup entries i e p))

    -- a hold that ends by a cancel before it was served
    pub now_cancelled : is_some (begin_of entries call) ≡ true → ends_hold e.reply ≡ true
        → serves e.reply ≡ false → is_served entries call ≡ false
        → CallInvariant (entries ++ e ∷ []) i call Ended
    now_cancelled b f s u = cancelled_call (record {
      begun = begun-own b;
      finished = hold_is_finished-own setup entries e call own ∙ ap (λ v. hold_is_finished entries call || v) f ∙ or_true _;
      unserved = served-own false u ∙ s;
    })

  -- an entry of the call itself that is answered `NotNow`
  module _ (entries : List (Entry K)) (i : ℕ) (event : Event K) (call : CallId)
      (own : same_call call (call_of event) ≡ true) where
    -- it leaves the answers, the phase, and how the call stands
    abbrev pub refused_entry : Entry K
    refused_entry = record { event = event; reply = NotNow }

    pub refused_answers : answers_of (entries ++ refused_entry ∷ []) call ≡ answers_of entries call
    refused_answers = ap answers_in (entries_of-own entries call refused_entry own) ∙ answers_in-not_now (entries_of entries call) event

    refused_poll : is_fitting_poll refused_entry ≡ false
    refused_poll = and_false (is_poll event)

    refused_waited : list_any is_waiting_poll (entries_of (entries ++ refused_entry ∷ []) call)
        ≡ list_any is_waiting_poll (entries_of entries call)
    refused_waited =
        waited-own entries i refused_entry call own
        ∙ ap (λ v. list_any is_waiting_poll (entries_of entries call) || v) (and_false (is_poll event))
        ∙ or_false _

    refused_waits : Waits entries i call → Waits (entries ++ refused_entry ∷ []) i call
    refused_waits w = waits_stays entries i refused_entry call own refused_answers refl refl (no_poll-turn entries i refused_entry call own refused_poll) w

    pub refused_stands : (p : Phase) → CallInvariant entries i call p
        → CallInvariant (entries ++ refused_entry ∷ []) i call p
    refused_stands Unknown (unknown_call b) = unknown_call (record {
      begin = begin-own entries i refused_entry call own refl ∙ b.begin;
      waited = refused_waited ∙ b.waited;
      answers = refused_answers ∙ b.answers;
      unserved = served-own entries i refused_entry call own false b.unserved;
      unfinished = finished-own entries i refused_entry call own false b.unfinished;
      unpolled = unpolled-own entries i refused_entry call own refused_poll ∙ b.unpolled;
      no_turn = had_no_turn-more setup entries i refused_entry call (no_poll-turn entries i refused_entry call own refused_poll) b.no_turn;
    })
    refused_stands Unpolled (unpolled_call w v p) = unpolled_call (refused_waits w) (refused_waited ∙ v) (unpolled-own entries i refused_entry call own refused_poll ∙ p)
    refused_stands Queued (queued_call w p) = queued_call (refused_waits w) (is_polled-more setup entries i refused_entry call p)
    refused_stands Loading (loading_call l) = loading_call (loads_stays entries i refused_entry call own refl refl l)
    refused_stands Signing (signing_call s) = signing_call (served_stays entries i refused_entry call own s)
    refused_stands Ended (over_call s) = over_call (served_stays entries i refused_entry call own s)
    refused_stands Ended (cancelled_call c) = cancelled_call (record {
      begun = begun-own entries i refused_entry call own c.begun;
      finished = hold_is_finished-more setup entries refused_entry call c.finished;
      unserved = served-own entries i refused_entry call own false c.unserved;
    })

    pub refused_phase : phase_of (entries ++ refused_entry ∷ []) call ≡ phase_of entries call
    unfolding phase_of
    refused_phase = ap phase_in (entries_of-own entries call refused_entry own) ∙ phase_in-not_now (entries_of entries call) event
