-- What is done at a poll is one more entry of the transcript.
use Rattle.std.proofs.Common.{◌≡◌, ℤ, Bool, true, false, not, ◌||◌, List, [], ◌∷◌, ◌++◌, Option, Some, None, option_map, slice_get, length, refl, sym, ◌∙◌, ap, subst, IsTrue}
use Rattle.std.specs.List.{list_any}
use Rattle.sign_base.specs.declared.call_id.CallId.{CallId}
use Rattle.sign_base.specs.Calls.{is_first}
use Rattle.sequential_signer.specs.Policy.{Policy}
use Rattle.sequential_signer.specs.Lookup.{HandOut}
use Rattle.sequential_signer.specs.SequentialCall.{Progress, Over, sequential_call}
use Rattle.sequential_signer.specs.Setup.{Setup, Handle, rule_of}
use Rattle.sequential_signer.specs.Transcript.{committed_entries, entries_of}
use Rattle.sequential_signer.specs.Phase.{Phase, Unpolled, Queued, Loading, Signing, phase_of, is_live, is_begun, is_waiting, is_waiting_poll, moves_call, is_not_now, phase_by}
use Rattle.sequential_signer.specs.Turn.{ends_hold, has_turn, is_poll_at, poll_order, open_calls}
use Rattle.sequential_signer.specs.Hold.{begin_of, answers_of, input_by}
use Rattle.sequential_signer.specs.SequentialCache.{sequential_cache}
use Rattle.sequential_signer.specs.Wake.{call_to_wake}
use Rattle.sequential_signer.specs.ExpectedReply.{expected_reply, hold_progress, hold_reply}
use Rattle.sequential_signer.specs.Legal.{allocates}
use Rattle.sequential_signer.specs.declared.event.Entry.{Entry}
use Rattle.sequential_signer.specs.declared.event.Event.TheVariants.{Poll}
use Rattle.sequential_signer.specs.declared.event.Reply.{Reply}
use Rattle.sequential_signer.specs.declared.event.Reply.TheVariants.{Pending, Ask, Sign, Refused}
use Rattle.sign_base.proofs.Calls.{same_call-refl}
use Rattle.sequential_signer.proofs.OwnEntries.{to_queued}
use Rattle.sequential_signer.proofs.PollOrder.{is_polled}
use Rattle.sequential_signer.proofs.Run.{IsRun, legal_run}
use Rattle.sequential_signer.proofs.CallInvariant.{CallInvariant, Waits, unpolled_call, queued_call, loading_call, signing_call, phase-own_mark, answers-own_none}
use Rattle.sequential_signer.proofs.CallInvariantSteps.{pending_phase}
use Rattle.sequential_signer.proofs.Queue.{has_nobody, has_turn-polled, has_turn-unpolled}
use Rattle.sequential_signer.proofs.WakeLaw.{wakes-nobody}
use Rattle.desk_parts.specs.Queue.{is_held_queue, with_last, without_room, queue_at}
use Rattle.sign_desk.specs.TranscriptQueue.{is_unpolled}
use Rattle.sign_desk.specs.DeskState.{DeskState, live_view, Represents}
use Rattle.desk_parts.specs.Tables.{setup_of, phase_of_stage}
use Rattle.desk_parts.specs.Change.{ChangesOnlyCall}
use Rattle.desk_parts.specs.Change.{with_queue}
use Rattle.sign_desk.specs.Action.{Performs}
use Rattle.desk_parts.specs.LiveCallView.{stored_view}
use Rattle.desk_parts.specs.HoldProgress.{desk_look_input, desk_lookup}
use Rattle.sign_desk.specs.HoldAction.{first_hold, waited_hold}
use Rattle.sign_desk.specs.Transition.{first_poll_action, later_poll_action, poll_action}
use Rattle.sign_desk.specs.Records.{CallRecord}
use Rattle.desk_parts.specs.declared.call_record.Stage.{Stage}
use Rattle.desk_parts.specs.declared.call_record.Stage.TheVariants as stage
use Rattle.desk_parts.specs.declared.tables.LiveCallView.{LiveCallView}
use Rattle.sign_desk.proofs.QueueLaw.{queue-stays, queue-with_last, queue-without_room, order-polled}
use Rattle.sign_desk.proofs.Refine.{Follows, Refines, refines-more, follows-changed, follows-stays, live-stays}
use Rattle.desk_parts.proofs.OneChange.{keeps-all}
use Rattle.sign_desk.proofs.RefineLive.{refines-live, HoldLaw, refines-hold, waited_wakes, waited_asks, waited_leaves}
use Rattle.desk_parts.proofs.LiveRecord.{Lives}
use Rattle.sign_desk.proofs.LiveRecord.{at, rule-is, cached, line-is, says, invariant, phase-is, here, own-begin}

held-nobody : (xs : List CallId) → is_held_queue xs ≡ false → xs ≡ []
held-nobody [] h = refl
held-nobody (x ∷ xs) h = cc

nobody-held : (xs : List CallId) (b : Bool) → is_held_queue xs ≡ b → has_nobody xs ≡ not b
nobody-held [] true h = cc
nobody-held [] false h = refl
nobody-held (x ∷ xs) true h = refl
nobody-held (x ∷ xs) false h = cc

module _ {K D : Type 0} (policy : Policy K D) (old : DeskState K D) (entries : List (Entry K))
    (stood : Represents policy old entries)
    (call : CallId) (h : Handle) (r : CallRecord) (lives : Lives old call h r) (now : ℤ) where
  abbrev setup : Setup D
  setup = setup_of old

  abbrev before : List (Entry K)
  before = committed_entries entries

  abbrev entry : Reply K → Entry K
  entry reply = record { event = Poll call now; reply = reply }

  abbrev after : Reply K → List (Entry K)
  after reply = committed_entries entries ++ record { event = Poll call now; reply = reply } ∷ []

  abbrev view : LiveCallView
  view = stored_view call h r

  -- how far the look gets
  abbrev progress : Progress K
  progress = sequential_call policy (sequential_cache policy setup before h.cache) lives.loader (desk_look_input view now lives.rule)

  ran : IsRun policy (setup_of old) (committed_entries entries)
  ran = legal_run policy (setup_of old) entries stood.legal

  -- a look on what the desk keeps is one on the sequential cache
  looked : desk_lookup policy old now view ≡ Some progress
  looked = rw (lives.loads, cached policy old entries stood call h r lives, lives.ruled) refl

  reached : hold_progress policy (sequential_cache policy setup before h.cache)
      (slice_get old.loaders h.cache) (input_by (rule_of setup call) (begin_of before call) (Some now) [])
      ≡ Some progress
  reached = rw (lives.loads, rule-is policy old entries stood call h r lives, (says policy old entries stood call h r lives).begin) refl

  -- the expected reply to a poll: it waits while the call is busy or has no turn, and else goes by the look
  expected_busy : is_live (phase_of before call) ≡ true → is_waiting (phase_of before call) ≡ false
      → Pending ≡ expected_reply policy setup before (Poll call now)
  unfolding expected_reply
  expected_busy l w = rw (at policy old entries stood call h r lives, l, w) refl

  expected_waits : is_live (phase_of before call) ≡ true → is_waiting (phase_of before call) ≡ true
      → has_turn setup before h.cache call ≡ false
      → Pending ≡ expected_reply policy setup before (Poll call now)
  unfolding expected_reply
  expected_waits l w t = rw (at policy old entries stood call h r lives, l, w, t) refl

  expected_looks : is_live (phase_of before call) ≡ true → is_waiting (phase_of before call) ≡ true
      → has_turn setup before h.cache call ≡ true
      → hold_reply setup before h.cache (Poll call now)
      (hold_progress policy (sequential_cache policy setup before h.cache) (slice_get old.loaders h.cache)
      (input_by (rule_of setup call) (begin_of before call) (Some now) []))
      ≡ expected_reply policy setup before (Poll call now)
  unfolding expected_reply
  expected_looks l w t = rw (at policy old entries stood call h r lives, l, w, t) refl

  poll_at : (reply : Reply K) → is_not_now reply ≡ false → is_poll_at setup h.cache (entry reply) ≡ true
  poll_at reply n = rw (n, here policy old entries stood call h r lives) refl

  phase_after : (reply : Reply K) → moves_call reply ≡ true
      → phase_of (after reply) call
      ≡ phase_by (list_any is_waiting_poll (entries_of before call) || is_waiting_poll (entry reply)) reply
  phase_after reply m = phase-own_mark setup before h.cache (entry reply) call (same_call-refl call) m

  answers_after : (reply : Reply K) → answers_of (after reply) call ≡ answers_of before call
  answers_after reply = answers-own_none setup before h.cache (entry reply) call (same_call-refl call) refl

  answered : (reply : Reply K) → length (answers_of (after reply) call) ≡ r.answers
  answered reply = ap length (answers_after reply) ∙ (says policy old entries stood call h r lives).answers

  phase_pending : (p : Phase) → phase_of_stage r.stage ≡ p → phase_of (after Pending) call ≡ to_queued p
  phase_pending p e = pending_phase policy setup before h.cache call (at policy old entries stood call h r lives) now p (phase-is policy old entries stood call h r lives p e)

  -- a poll that changes nothing
  waits_on : (p : Phase) → phase_of_stage r.stage ≡ p → to_queued p ≡ p
      → is_polled setup before h.cache call ≡ true
      → Pending ≡ expected_reply policy setup before (Poll call now)
      → Refines policy old entries (entry Pending) old
  waits_on p e q polled expected =
      let was : phase_of before call ≡ p = phase-is policy old entries stood call h r lives p e in
      let is : phase_of (after Pending) call ≡ p = phase_pending p e ∙ q in
      refines-more policy old entries stood (entry Pending) expected refl refl old old
      (follows-stays policy old entries stood (entry Pending) h.cache (at policy old entries stood call h r lives) refl refl
      (queue-stays policy setup before ran (entry Pending) h.cache (at policy old entries stood call h r lives) refl refl (order-polled policy setup before ran (entry Pending) h.cache polled) (ap is_unpolled (was ∙ sym is))))
      (Some r) (subst (λ (o : Option CallRecord). ChangesOnlyCall old call o old) lives.found (keeps-all old call))
      (ap (option_map live_view) (sym lives.found) ∙ stood.calls call ∙ rw (was, is, answers_after Pending, own-begin policy old entries stood call h r lives (entry Pending) refl refl, (says policy old entries stood call h r lives).begin) refl)
      (live-stays policy old entries stood (entry Pending) r r refl (ap is_live (was ∙ sym is)) lives.found)

  module _ (w : Waits setup before h.cache call) (waiting : is_waiting (phase_of before call) ≡ true) where
    -- at its turn the call goes by its look
    expected_at_turn : has_turn setup before h.cache call ≡ true
        → hold_reply setup before h.cache (Poll call now) (Some progress)
        ≡ expected_reply policy setup before (Poll call now)
    expected_at_turn turn = ap (hold_reply setup before h.cache (Poll call now)) (sym reached) ∙ expected_looks (says policy old entries stood call h r lives).live waiting turn

    allocating : has_turn setup before h.cache call ≡ true → (c : K) (left : Option K)
        → progress ≡ Over (HandOut c) left → IsTrue (allocates policy setup before (Poll call now))
    allocating turn c left e =
        let signs : Sign c (call_to_wake setup before h.cache (entry (Sign c None))) ≡ expected_reply policy setup before (Poll call now) = ap (λ (p : Progress K). hold_reply setup before h.cache (Poll call now) (Some p)) (sym e) ∙ expected_at_turn turn in
        rw ((says policy old entries stood call h r lives).live, ← signs) refl

    module _ (unpolled : phase_of_stage r.stage ≡ Unpolled)
        (first : is_polled setup before h.cache call ≡ false) where
      was_unpolled : is_unpolled (phase_of before call) ≡ true
      was_unpolled = ap is_unpolled (phase-is policy old entries stood call h r lives Unpolled unpolled)

      enters : (reply : Reply K) → is_not_now reply ≡ false → is_begun reply ≡ false → ends_hold reply ≡ false
          → is_unpolled (phase_of (after reply) call) ≡ false
          → Follows policy old entries (with_queue (with_last call) h.cache old) (entry reply)
      enters reply n b ends f =
          follows-changed policy old entries stood (entry reply) h.cache (with_last call) old.caches (at policy old entries stood call h r lives) b refl
          (queue-with_last policy setup before ran (entry reply) h.cache (at policy old entries stood call h r lives) b ends (poll_at reply n) first w.unfinished w.begun was_unpolled f)

      passes : is_held_queue (open_calls setup before h.cache) ≡ false → (reply : Reply K)
          → is_not_now reply ≡ false → is_begun reply ≡ false → ends_hold reply ≡ true
          → is_unpolled (phase_of (after reply) call) ≡ false
          → Follows policy old entries (with_queue without_room h.cache old) (entry reply)
      passes free reply n b ends f =
          follows-changed policy old entries stood (entry reply) h.cache without_room old.caches (at policy old entries stood call h r lives) b refl
          (queue-without_room policy setup before ran (entry reply) h.cache (at policy old entries stood call h r lives) b ends (poll_at reply n) first (held-nobody (open_calls setup before h.cache) free) w.begun was_unpolled f)

      first_law : is_held_queue (open_calls setup before h.cache) ≡ false
          → HoldLaw policy old entries stood (Poll call now) h r lives (first_hold old view) r.answers
          progress
      first_law free =
          let turn : has_turn setup before h.cache call ≡ true = has_turn-unpolled setup before h.cache call first ∙ nobody-held (open_calls setup before h.cache) false free in
          record {
            expected = expected_at_turn turn;
            woken = λ reply ends n. wakes-nobody policy setup before ran h.cache (entry reply) (nobody-held (open_calls setup before h.cache) false free);
            answered = λ reply n. answered reply;
            asking_desk = λ k. enters (Ask k) refl refl refl (ap is_unpolled (phase_after (Ask k) refl));
            signing_desk = λ c left e. passes free (Sign c None) refl refl refl (ap is_unpolled (phase_after (Sign c None) refl));
            ended_desk = λ cause. passes free (Refused cause None) refl refl refl (ap is_unpolled (phase_after (Refused cause None) refl));
            allocating = allocating turn;
          }

      refines-first : (held : Bool) → is_held_queue (queue_at h.cache old.queues) ≡ held
          → (reply : Reply K) (new : DeskState K D)
          → Performs (first_poll_action old view held (Some progress)) call old reply new
          → Refines policy old entries (entry reply) new
      refines-first true held reply new m =
          let turn : has_turn setup before h.cache call ≡ false = has_turn-unpolled setup before h.cache call first ∙ nobody-held (open_calls setup before h.cache) true (ap is_held_queue (sym (line-is policy old entries stood call h r lives)) ∙ held) in
          refines-live policy old entries stood (Poll call now) h r lives (with_queue (with_last call) h.cache old) stage.Queued r.answers Pending
          (record { expected = expected_waits (says policy old entries stood call h r lives).live waiting turn; committed = refl; fits = refl; no_begin = refl })
          (enters Pending refl refl refl (ap is_unpolled (phase_pending Unpolled unpolled))) (phase_pending Unpolled unpolled) (answered Pending) reply new m
      refines-first false held reply new m =
          refines-hold policy old entries stood (Poll call now) h r lives (first_hold old view) r.answers progress (first_law (ap is_held_queue (sym (line-is policy old entries stood call h r lives)) ∙ held)) reply new m

    module _ (queued : phase_of_stage r.stage ≡ Queued)
        (polled : is_polled setup before h.cache call ≡ true) where
      was_polled : is_unpolled (phase_of before call) ≡ false
      was_polled = ap is_unpolled (phase-is policy old entries stood call h r lives Queued queued)

      order : (reply : Reply K) → is_not_now reply ≡ false
          → poll_order setup (after reply) h.cache ≡ poll_order setup before h.cache
      order reply n = order-polled policy setup before ran (entry reply) h.cache polled

      later_law : has_turn setup before h.cache call ≡ true
          → HoldLaw policy old entries stood (Poll call now) h r lives (waited_hold old view) r.answers
          progress
      later_law turn = record {
        expected = expected_at_turn turn;
        woken = waited_wakes policy old entries stood (Poll call now) h r lives order was_polled;
        answered = λ reply n. answered reply;
        asking_desk = λ k. waited_asks policy old entries stood (Poll call now) h r lives order was_polled k refl;
        signing_desk = λ c left e. waited_leaves policy old entries stood (Poll call now) h r lives order was_polled (Sign c _) refl refl refl (ap is_unpolled (phase_after (Sign c _) refl)) old.caches refl;
        ended_desk = λ cause. waited_leaves policy old entries stood (Poll call now) h r lives order was_polled (Refused cause _) refl refl refl (ap is_unpolled (phase_after (Refused cause _) refl)) old.caches refl;
        allocating = allocating turn;
      }

      refines-later : (holds : Bool) → is_first call (queue_at h.cache old.queues) ≡ holds
          → (reply : Reply K) (new : DeskState K D)
          → Performs (later_poll_action old view holds (Some progress)) call old reply new
          → Refines policy old entries (entry reply) new
      refines-later holds first reply new m = by_holds holds (has_turn-polled setup before h.cache call w.unfinished polled ∙ ap (is_first call) (sym (line-is policy old entries stood call h r lives)) ∙ first) m
        where
          by_holds : (holds : Bool) → has_turn setup before h.cache call ≡ holds
              → Performs (later_poll_action old view holds (Some progress)) call old reply new
              → Refines policy old entries (entry reply) new
          by_holds false turn m = rw (m.0, m.1) (waits_on Queued queued refl polled (expected_waits (says policy old entries stood call h r lives).live waiting turn))
          by_holds true turn m = refines-hold policy old entries stood (Poll call now) h r lives (waited_hold old view) r.answers progress (later_law turn) reply new m

  -- a poll of a live call
  pub refines-poll : (s : Stage) → r.stage ≡ s → (reply : Reply K) (new : DeskState K D)
      → Performs (poll_action policy old now view s) call old reply new
      → Refines policy old entries (entry reply) new
  refines-poll stage.Unpolled e reply new m = by_phase (invariant policy old entries stood call h r lives Unpolled (ap phase_of_stage e))
    where
      by_phase : CallInvariant setup before h.cache call Unpolled
          → Refines policy old entries (entry reply) new
      by_phase (unpolled_call w _ first) =
          refines-first w (ap is_waiting (phase-is policy old entries stood call h r lives Unpolled (ap phase_of_stage e))) (ap phase_of_stage e) first (is_held_queue (queue_at h.cache old.queues)) refl reply new
          (subst (λ (o : Option (Progress K)). Performs (first_poll_action old view (is_held_queue (queue_at h.cache old.queues)) o) call old reply new) looked m)
  refines-poll stage.Queued e reply new m = by_phase (invariant policy old entries stood call h r lives Queued (ap phase_of_stage e))
    where
      by_phase : CallInvariant setup before h.cache call Queued → Refines policy old entries (entry reply) new
      by_phase (queued_call w polled) =
          refines-later w (ap is_waiting (phase-is policy old entries stood call h r lives Queued (ap phase_of_stage e))) (ap phase_of_stage e) polled (is_first call (queue_at h.cache old.queues)) refl reply new
          (subst (λ (o : Option (Progress K)). Performs (later_poll_action old view (is_first call (queue_at h.cache old.queues)) o) call old reply new) looked m)
  refines-poll stage.Loading e reply new m = rw (m.0, m.1) (by_phase (invariant policy old entries stood call h r lives Loading (ap phase_of_stage e)))
    where
      by_phase : CallInvariant setup before h.cache call Loading
          → Refines policy old entries (entry Pending) old
      by_phase (loading_call l) = waits_on Loading (ap phase_of_stage e) refl l.had.polled (expected_busy (says policy old entries stood call h r lives).live (ap is_waiting (phase-is policy old entries stood call h r lives Loading (ap phase_of_stage e))))
  refines-poll stage.Signing e reply new m = rw (m.0, m.1) (by_phase (invariant policy old entries stood call h r lives Signing (ap phase_of_stage e)))
    where
      by_phase : CallInvariant setup before h.cache call Signing
          → Refines policy old entries (entry Pending) old
      by_phase (signing_call s) = waits_on Signing (ap phase_of_stage e) refl s.had.polled (expected_busy (says policy old entries stood call h r lives).live (ap is_waiting (phase-is policy old entries stood call h r lives Signing (ap phase_of_stage e))))
