-- An effect on a live call is one more entry of the transcript, where what is kept beside the calls follows
-- the entry;
-- and so is what is done by how far a hold gets.
use Rattle.std.proofs.Common.{◌≡◌, ℕ, true, false, List, [], ◌∷◌, ◌++◌, Option, Some, None, option_map, length, refl, sym, ◌∙◌, ap, subst, ◌||◌, inl, inr, IsTrue}
use Rattle.std.specs.List.{list_any}
use Rattle.sign_base.specs.declared.call_id.CallId.{CallId}
use Rattle.sequential_signer.specs.Policy.{Policy}
use Rattle.sequential_signer.specs.Setup.{Setup, Handle}
use Rattle.sequential_signer.specs.Transcript.{committed_entries, call_of, is_out_of_memory, entries_of}
use Rattle.sequential_signer.specs.Phase.{Ended, phase_of, is_live, is_begun, is_not_now, moves_call, phase_by, is_waiting_poll}
use Rattle.sequential_signer.specs.Hold.{answers_of}
use Rattle.sequential_signer.specs.ExpectedReply.{expected_reply, hold_reply}
use Rattle.sequential_signer.specs.LiveCall.{live_by}
use Rattle.sequential_signer.specs.Lookup.{HandOut, Refuse}
use Rattle.sequential_signer.specs.SequentialCall.{Progress, Asking, Over}
use Rattle.sequential_signer.specs.Turn.{ends_hold, poll_order, open_calls}
use Rattle.sequential_signer.specs.Wake.{call_to_wake}
use Rattle.sequential_signer.specs.Legal.{allocates}
use Rattle.sequential_signer.specs.declared.event.Entry.{Entry}
use Rattle.sequential_signer.specs.declared.event.Event.{Event}
use Rattle.sequential_signer.specs.declared.event.Reply.{Reply}
use Rattle.sequential_signer.specs.declared.event.Reply.TheVariants.{Ask, Sign, Refused}
use Rattle.sequential_signer.specs.declared.event.Why.{Why}
use Rattle.sign_base.proofs.Calls.{same_call-refl}
use Rattle.sequential_signer.proofs.CallInvariant.{phase-own_mark}
use Rattle.sequential_signer.proofs.Run.{IsRun, legal_run}
use Rattle.sequential_signer.proofs.WakeLaw.{wakes}
use Rattle.sign_desk.specs.DeskState.{DeskState, live_view, Represents}
use Rattle.desk_parts.specs.Tables.{setup_of, find_call, phase_of_stage}
use Rattle.desk_parts.specs.Change.{ChangesOnlyCall}
use Rattle.desk_parts.specs.Action.{TakesEffect, as_viewed, live_effect, end_effect}
use Rattle.sign_desk.specs.Action.{Performs}
use Rattle.desk_parts.specs.LiveCallView.{stored_view}
use Rattle.desk_parts.specs.Queue.{next_holder, without_call, with_changed}
use Rattle.sign_desk.specs.TranscriptQueue.{is_unpolled}
use Rattle.sign_desk.specs.CachesAfter.{CachesAfter}
use Rattle.sign_desk.specs.HoldAction.{Hold, waited_hold, hold_action}
use Rattle.sign_desk.specs.Records.{CallRecord}
use Rattle.desk_parts.specs.declared.call_record.Stage.{Stage}
use Rattle.desk_parts.specs.declared.call_record.Stage.TheVariants as stage
use Rattle.desk_parts.specs.declared.tables.LiveCallView.{LiveCallView}
use Rattle.desk_parts.proofs.LiveRecord.{stage_lives}
use Rattle.sign_desk.proofs.Refine.{Follows, Refines, refines-more, live-stays, live-ended, refines-lost, follows-stays, follows-changed}
use Rattle.desk_parts.proofs.LiveRecord.{Lives}
use Rattle.sign_desk.proofs.LiveRecord.{says, begun, own-begin, at, line-is, next_holder-is}
use Rattle.sign_desk.proofs.QueueLaw.{queue-stays, queue-without_call}

-- the live call at another stage, with this number of answers
abbrev pub viewed : CallId → Handle → CallRecord → Stage → ℕ → LiveCallView
viewed call h r stage answers = record (stored_view call h r) { stage = stage; answers = answers }

module _ {K D : Type 0} (policy : Policy K D) (old : DeskState K D) (entries : List (Entry K))
    (stood : Represents policy old entries)
    (event : Event K) (h : Handle) (r : CallRecord) (lives : Lives old (call_of event) h r) where
  abbrev setup : Setup D
  setup = setup_of old

  abbrev before : List (Entry K)
  before = committed_entries entries

  abbrev entry : Reply K → Entry K
  entry reply = record { event = event; reply = reply }

  abbrev after : Reply K → List (Entry K)
  after reply = committed_entries entries ++ record { event = event; reply = reply } ∷ []

  -- a reply that takes its call on: it is the expected one, committed, and no begin
  pub record IsExpected (reply : Reply K) : Type 0 where
    pub expected : reply ≡ expected_reply policy setup before event
    pub committed : is_out_of_memory reply ≡ false
    pub fits : is_not_now reply ≡ false
    pub no_begin : is_begun reply ≡ false

  -- where the call stays live
  pub refines-live : (desk : DeskState K D) (s : Stage) (answers : ℕ) (reply : Reply K) → IsExpected reply
      → Follows policy old entries desk (entry reply)
      → phase_of (after reply) (call_of event) ≡ phase_of_stage s
      → length (answers_of (after reply) (call_of event)) ≡ answers → (given : Reply K) (new : DeskState K D)
      → TakesEffect (live_effect desk (viewed (call_of event) h r s answers) reply) (call_of event) given new
      → Refines policy old entries (entry given) new
  refines-live desk s answers reply goes follows phase count given new m =
      let kept : option_map (as_viewed (viewed (call_of event) h r s answers)) (find_call (call_of event) desk.calls) ≡ Some (as_viewed (viewed (call_of event) h r s answers) r) =
      ap (option_map (as_viewed (viewed (call_of event) h r s answers))) (ap (find_call (call_of event)) follows.calls ∙ lives.found) in
      rw (m.0)
      (refines-more policy old entries stood (entry reply) goes.expected goes.committed goes.fits desk new follows
      (Some (as_viewed (viewed (call_of event) h r s answers) r)) (subst (λ (o : Option CallRecord). ChangesOnlyCall desk (call_of event) o new) kept m.1)
      (rw (phase, count, own-begin policy old entries stood (call_of event) h r lives (entry reply) refl goes.no_begin) (live_by_stage s))
      (live-stays policy old entries stood (entry reply) r (as_viewed (viewed (call_of event) h r s answers) r) goes.no_begin
      ((says policy old entries stood (call_of event) h r lives).live ∙ sym (ap is_live phase ∙ stage_lives s)) lives.found))
    where
      live_by_stage : (s : Stage)
          → Some (live_view (as_viewed (viewed (call_of event) h r s answers) r))
          ≡ live_by (phase_of_stage s) answers (Some (live_view r).begin)
      live_by_stage stage.Unpolled = refl
      live_by_stage stage.Queued = refl
      live_by_stage stage.Loading = refl
      live_by_stage stage.Signing = refl

  -- where the call ends
  pub refines-end : (desk : DeskState K D) (reply : Reply K) → IsExpected reply
      → Follows policy old entries desk (entry reply) → phase_of (after reply) (call_of event) ≡ Ended
      → (given : Reply K) (new : DeskState K D)
      → TakesEffect (end_effect desk reply) (call_of event) given new
      → Refines policy old entries (entry given) new
  refines-end desk reply goes follows phase given new m =
      rw (m.0)
      (refines-more policy old entries stood (entry reply) goes.expected goes.committed goes.fits desk new follows None m.1
      (rw (phase, own-begin policy old entries stood (call_of event) h r lives (entry reply) refl goes.no_begin) refl)
      (live-ended policy old entries stood (entry reply) r goes.no_begin (begun policy old entries stood (call_of event) h r lives) (says policy old entries stood (call_of event) h r lives).live (ap is_live phase) lives.found))

  ran : IsRun policy (setup_of old) (committed_entries entries)
  ran = legal_run policy (setup_of old) entries stood.legal

  -- what is known of an event at which the hold of its call gets this far
  pub record HoldLaw (hold : Hold K D) (answers : ℕ) (progress : Progress K) : Type 0 where
    pub expected : hold_reply setup before h.cache event (Some progress)
        ≡ expected_reply policy setup before event
    pub woken : (reply : Reply K) → ends_hold reply ≡ true → is_not_now reply ≡ false
        → call_to_wake setup before h.cache (entry reply) ≡ hold.wake
    pub answered : (reply : Reply K) → is_not_now reply ≡ false
        → length (answers_of (after reply) (call_of event)) ≡ answers
    pub asking_desk : (provider : ℕ) → Follows policy old entries hold.asking_desk (entry (Ask provider))
    pub signing_desk : (credential : K) (cached : Option K) → progress ≡ Over (HandOut credential) cached
        → Follows policy old entries (hold.signing_desk credential) (entry (Sign credential hold.wake))
    pub ended_desk : (cause : Why)
        → Follows policy old entries hold.ended_desk (entry (Refused cause hold.wake))
    pub allocating : (credential : K) (cached : Option K) → progress ≡ Over (HandOut credential) cached
        → IsTrue (allocates policy setup before event)

  phase_after : (reply : Reply K) → moves_call reply ≡ true
      → phase_of (after reply) (call_of event)
      ≡ phase_by
      (list_any is_waiting_poll (entries_of before (call_of event)) || is_waiting_poll (entry reply)) reply
  phase_after reply m = phase-own_mark setup before h.cache (entry reply) (call_of event) (same_call-refl (call_of event)) m

  -- what is done is one more entry
  pub refines-hold : (hold : Hold K D) (answers : ℕ) (progress : Progress K) → HoldLaw hold answers progress
      → (reply : Reply K) (new : DeskState K D)
      → Performs (hold_action hold (viewed (call_of event) h r r.stage answers) (Some progress))
      (call_of event) old reply new
      → Refines policy old entries (entry reply) new
  refines-hold hold answers (Asking provider) law reply new m =
      refines-live hold.asking_desk stage.Loading answers (Ask provider)
      (record { expected = law.expected; committed = refl; fits = refl; no_begin = refl }) (law.asking_desk provider) (phase_after (Ask provider) refl) (law.answered (Ask provider) refl) reply new m
  refines-hold hold answers (Over (HandOut c) cached) law reply new (inl m) =
      refines-live (hold.signing_desk c) stage.Signing answers (Sign c hold.wake)
      (record { expected = ap (Sign c) (sym (law.woken (Sign c None) refl refl)) ∙ law.expected; committed = refl; fits = refl; no_begin = refl })
      (law.signing_desk c cached refl) (phase_after (Sign c hold.wake) refl) (law.answered (Sign c hold.wake) refl) reply new m
  refines-hold hold answers (Over (HandOut c) cached) law reply new (inr m) = rw (m.0, m.1) (refines-lost policy old entries stood event (law.allocating c cached refl))
  refines-hold hold answers (Over (Refuse cause) cached) law reply new m =
      refines-end hold.ended_desk (Refused cause hold.wake)
      (record { expected = ap (Refused cause) (sym (law.woken (Refused cause None) refl refl)) ∙ law.expected; committed = refl; fits = refl; no_begin = refl })
      (law.ended_desk cause) (phase_after (Refused cause hold.wake) refl) reply new m

  -- the hold of a call that waited: where the order of first polls stays, and the call was polled before
  module _ (order : (reply : Reply K) → is_not_now reply ≡ false
      → poll_order setup (after reply) h.cache ≡ poll_order setup before h.cache)
      (polled : is_unpolled (phase_of before (call_of event)) ≡ false) where
    abbrev view : LiveCallView
    view = stored_view (call_of event) h r

    -- the next in line is woken
    pub waited_wakes : (reply : Reply K) → ends_hold reply ≡ true → is_not_now reply ≡ false
        → call_to_wake setup before h.cache (entry reply) ≡ (waited_hold old view).wake
    waited_wakes reply ends fits =
        wakes policy setup before ran h.cache (entry reply) ends (order reply fits)
        ∙ next_holder-is (call_of event) (open_calls setup before h.cache)
        ∙ ap (next_holder (call_of event)) (sym (line-is policy old entries stood (call_of event) h r lives))

    -- the queues stay, where the call asks
    pub waited_asks : (provider : ℕ) → CachesAfter event (Ask provider) old old
        → Follows policy old entries old (entry (Ask provider))
    waited_asks provider caches =
        follows-stays policy old entries stood (entry (Ask provider)) h.cache (at policy old entries stood (call_of event) h r lives) refl caches
        (queue-stays policy setup before ran (entry (Ask provider)) h.cache (at policy old entries stood (call_of event) h r lives) refl refl (order (Ask provider) refl) (polled ∙ sym (ap is_unpolled (phase_after (Ask provider) refl))))

    -- the call is out of its queue, where its hold ends
    pub waited_leaves : (reply : Reply K) → ends_hold reply ≡ true → is_not_now reply ≡ false
        → is_begun reply ≡ false → is_unpolled (phase_of (after reply) (call_of event)) ≡ false
        → (caches : List (Option K))
        → CachesAfter event reply old
        (record old
        { caches = caches; queues = with_changed (without_call (call_of event)) h.cache old.queues })
        → Follows policy old entries
        (record old
        { caches = caches; queues = with_changed (without_call (call_of event)) h.cache old.queues })
        (entry reply)
    waited_leaves reply ends fits begins phase caches cached =
        follows-changed policy old entries stood (entry reply) h.cache (without_call (call_of event)) caches (at policy old entries stood (call_of event) h r lives) begins cached
        (queue-without_call policy setup before ran (entry reply) h.cache (at policy old entries stood (call_of event) h r lives) begins ends (order reply fits) (polled ∙ sym phase))
