-- What is done at a service's answer and at a cancel is one more entry of the transcript.
use Rattle.std.proofs.Common.{◌≡◌, ℕ, true, false, List, [], ◌∷◌, ◌++◌, Option, Some, None, refl, sym, ◌∙◌, ap, inl, inr, subst}
use Rattle.std.specs.List.{list_any}
use Rattle.sign_base.specs.declared.head.Head.{Head}
use Rattle.sign_base.specs.declared.call_id.CallId.{CallId}
use Rattle.sign_base.specs.Calls.{same_call}
use Rattle.sequential_signer.specs.Policy.{Policy}
use Rattle.sequential_signer.specs.Setup.{Setup, Handle}
use Rattle.sequential_signer.specs.Turn.{poll_order, open_calls}
use Rattle.sequential_signer.specs.Transcript.{committed_entries}
use Rattle.sequential_signer.specs.Phase.{Unpolled, Signing, Ended, phase_of, is_live, is_signing, is_not_now}
use Rattle.sequential_signer.specs.Hold.{begin_of}
use Rattle.sequential_signer.specs.Wake.{call_to_wake}
use Rattle.sequential_signer.specs.ExpectedReply.{expected_reply, done_head}
use Rattle.sequential_signer.specs.declared.event.Entry.{Entry}
use Rattle.sequential_signer.specs.declared.event.Event.TheVariants.{Signed, Cancel}
use Rattle.sequential_signer.specs.declared.event.Reply.{Reply}
use Rattle.sequential_signer.specs.declared.event.Reply.TheVariants.{NotNow, Refused, Done, Cancelled}
use Rattle.sequential_signer.specs.declared.event.Verdict.{Verdict}
use Rattle.sequential_signer.specs.declared.event.Verdict.TheVariants.{Accepted, Failed}
use Rattle.sequential_signer.specs.declared.event.Why.TheVariants as why
use Rattle.sign_base.proofs.Calls.{same_call-refl}
use Rattle.sign_base.proofs.Truth.{or_left}
use Rattle.sequential_signer.proofs.Run.{IsRun, legal_run}
use Rattle.sequential_signer.proofs.CallInvariant.{CallInvariant, IsServed, unpolled_call, signing_call, phase-own_mark}
use Rattle.sequential_signer.proofs.WakeLaw.{wakes}
use Rattle.desk_parts.specs.Queue.{next_holder, without_room}
use Rattle.sign_desk.specs.TranscriptQueue.{is_unpolled}
use Rattle.sign_desk.specs.DeskState.{DeskState, Represents}
use Rattle.desk_parts.specs.Tables.{setup_of, phase_of_stage}
use Rattle.desk_parts.specs.Change.{with_queue}
use Rattle.sign_desk.specs.Action.{Performs}
use Rattle.desk_parts.specs.Action.{TakesEffect, end_effect}
use Rattle.desk_parts.specs.LiveCallView.{stored_view}
use Rattle.sign_desk.specs.HoldAction.{waited_hold}
use Rattle.sign_desk.specs.Transition.{accept_action, signed_action, cancel_action}
use Rattle.sign_desk.specs.Records.{CallRecord}
use Rattle.desk_parts.specs.declared.call_record.Stage.{Stage}
use Rattle.desk_parts.specs.declared.call_record.Stage.TheVariants as stage
use Rattle.desk_parts.specs.declared.tables.LiveCallView.{LiveCallView}
use Rattle.sign_desk.proofs.QueueLaw.{queue-stays, queue-unpolled, queue-gone, closed-absent, unpolled-absent, order-stays}
use Rattle.sign_desk.proofs.Refine.{Refines, refines-lost, refines-not_now, follows-changed, follows-stays}
use Rattle.sign_desk.proofs.RefineLive.{refines-end, waited_leaves, waited_wakes}
use Rattle.desk_parts.proofs.LiveRecord.{Lives}
use Rattle.sign_desk.proofs.LiveRecord.{next_holder-is, at, says, invariant, phase-is, misfit}

module _ {K D : Type 0} (policy : Policy K D) (old : DeskState K D) (entries : List (Entry K))
    (stood : Represents policy old entries)
    (call : CallId) (h : Handle) (r : CallRecord) (lives : Lives old call h r) where
  abbrev setup : Setup D
  setup = setup_of old

  abbrev before : List (Entry K)
  before = committed_entries entries

  abbrev view : LiveCallView
  view = stored_view call h r

  ran : IsRun policy (setup_of old) (committed_entries entries)
  ran = legal_run policy (setup_of old) entries stood.legal

  -- the expected replies to a service's answer and to a cancel
  expected_accepts : (candidate : Head) → is_signing (phase_of before call) ≡ true
      → Done (done_head (begin_of before call) candidate)
      ≡ expected_reply policy setup before (Signed call (Accepted candidate))
  unfolding expected_reply
  expected_accepts candidate s = rw (at policy old entries stood call h r lives, s) refl

  expected_fails : (e : ℕ) → is_signing (phase_of before call) ≡ true
      → Refused (why.Service e) None ≡ expected_reply policy setup before (Signed call (Failed e))
  unfolding expected_reply
  expected_fails e s = rw (at policy old entries stood call h r lives, s) refl

  expected_cancels : is_live (phase_of before call) ≡ true
      → Cancelled (call_to_wake setup before h.cache (record { event = Cancel call; reply = Cancelled None }))
      ≡ expected_reply policy setup before (Cancel call)
  unfolding expected_reply
  expected_cancels l = rw (at policy old entries stood call h r lives, l) refl

  served_of : CallInvariant setup before h.cache call Signing → IsServed setup before h.cache call
  served_of (signing_call s) = s

  -- a service's answer
  module _ (answer : Verdict) where
    abbrev answered : Reply K → Entry K
    answered reply = record { event = Signed call answer; reply = reply }

    -- an answer to a call that does not sign does not fit
    unfit : (s : Stage) → r.stage ≡ s → is_signing (phase_of_stage s) ≡ false
        → Refines policy old entries (answered NotNow) old
    unfit s e l = refines-not_now policy old entries stood (Signed call answer) (misfit policy old entries stood (Signed call answer) h.cache (at policy old entries stood call h r lives) (ap is_signing (phase-is policy old entries stood call h r lives (phase_of_stage s) (ap phase_of_stage e)) ∙ l))

  refines-accept : phase_of_stage r.stage ≡ Signing
      → (candidate : Head) (reply : Reply K) (new : DeskState K D)
      → Performs (accept_action old candidate (Some r)) call old reply new
      → Refines policy old entries (record { event = Signed call (Accepted candidate); reply = reply }) new
  refines-accept signing candidate reply new (inr m) = rw (m.0, m.1) (refines-lost policy old entries stood (Signed call (Accepted candidate)) (rw (phase-is policy old entries stood call h r lives Signing signing) refl))
  refines-accept signing candidate reply new (inl m) =
      let done : Reply K = Done (record r.head { uri = candidate.uri; headers = candidate.headers }) in
      let e : Entry K = record { event = Signed call (Accepted candidate); reply = Done (record r.head { uri = candidate.uri; headers = candidate.headers }) } in
      let was : phase_of before call ≡ Signing = phase-is policy old entries stood call h r lives Signing signing in
      let is : phase_of (before ++ record { event = Signed call (Accepted candidate); reply = Done (record r.head { uri = candidate.uri; headers = candidate.headers }) } ∷ []) call ≡ Ended = phase-own_mark setup before h.cache e call (same_call-refl call) refl in
      refines-end policy old entries stood (Signed call (Accepted candidate)) h r lives old done
      (record { expected = ap (λ b. Done (done_head b candidate)) (sym (says policy old entries stood call h r lives).begin) ∙ expected_accepts candidate (ap is_signing was); committed = refl; fits = refl; no_begin = refl })
      (follows-stays policy old entries stood e h.cache (at policy old entries stood call h r lives) refl refl
      (queue-stays policy setup before ran e h.cache (at policy old entries stood call h r lives) refl refl (order-stays policy setup before ran e refl h.cache) (ap is_unpolled was ∙ sym (ap is_unpolled is))))
      is reply new m

  refines-fail : phase_of_stage r.stage ≡ Signing → (x : ℕ) (reply : Reply K) (new : DeskState K D)
      → TakesEffect (end_effect old (Refused (why.Service x) None)) call reply new
      → Refines policy old entries (record { event = Signed call (Failed x); reply = reply }) new
  refines-fail signing x reply new m =
      let e : Entry K = record { event = Signed call (Failed x); reply = Refused (why.Service x) None } in
      let was : phase_of before call ≡ Signing = phase-is policy old entries stood call h r lives Signing signing in
      let is : phase_of (before ++ record { event = Signed call (Failed x); reply = Refused (why.Service x) None } ∷ []) call ≡ Ended = phase-own_mark setup before h.cache e call (same_call-refl call) refl in
      refines-end policy old entries stood (Signed call (Failed x)) h r lives old (Refused (why.Service x) None)
      (record { expected = expected_fails x (ap is_signing was); committed = refl; fits = refl; no_begin = refl })
      (follows-stays policy old entries stood e h.cache (at policy old entries stood call h r lives) refl refl
      (queue-gone policy setup before ran e h.cache (at policy old entries stood call h r lives) refl refl refl (served_of (invariant policy old entries stood call h r lives Signing signing)).finished (ap is_unpolled was ∙ sym (ap is_unpolled is))))
      is reply new m

  refines-verdict : phase_of_stage r.stage ≡ Signing
      → (answer : Verdict) (reply : Reply K) (new : DeskState K D)
      → Performs (signed_action old answer view stage.Signing) call old reply new
      → Refines policy old entries (answered answer reply) new
  refines-verdict signing (Accepted candidate) reply new m =
      refines-accept signing candidate reply new (subst (λ (o : Option CallRecord). Performs (accept_action old candidate o) call old reply new) lives.found m)
  refines-verdict signing (Failed x) reply new m = refines-fail signing x reply new m

  -- a service's answer to a live call
  pub refines-signed : (answer : Verdict) (s : Stage) → r.stage ≡ s → (reply : Reply K) (new : DeskState K D)
      → Performs (signed_action old answer view s) call old reply new
      → Refines policy old entries (record { event = Signed call answer; reply = reply }) new
  refines-signed answer stage.Signing e reply new m = refines-verdict (ap phase_of_stage e) answer reply new m
  refines-signed (Accepted candidate) stage.Unpolled e reply new m = rw (m.0, m.1) (unfit (Accepted candidate) stage.Unpolled e refl)
  refines-signed (Accepted candidate) stage.Queued e reply new m = rw (m.0, m.1) (unfit (Accepted candidate) stage.Queued e refl)
  refines-signed (Accepted candidate) stage.Loading e reply new m = rw (m.0, m.1) (unfit (Accepted candidate) stage.Loading e refl)
  refines-signed (Failed x) stage.Unpolled e reply new m = rw (m.0, m.1) (unfit (Failed x) stage.Unpolled e refl)
  refines-signed (Failed x) stage.Queued e reply new m = rw (m.0, m.1) (unfit (Failed x) stage.Queued e refl)
  refines-signed (Failed x) stage.Loading e reply new m = rw (m.0, m.1) (unfit (Failed x) stage.Loading e refl)

  -- a cancel
  abbrev cancels : Reply K → Entry K
  cancels reply = record { event = Cancel call; reply = reply }

  cancelled_phase : (wake : Option CallId)
      → phase_of (before ++ record { event = Cancel call; reply = Cancelled wake } ∷ []) call ≡ Ended
  cancelled_phase wake = phase-own_mark setup before h.cache (cancels (Cancelled wake)) call (same_call-refl call) refl

  cancel_order : (reply : Reply K) → is_not_now reply ≡ false
      → poll_order setup (before ++ record { event = Cancel call; reply = reply } ∷ []) h.cache
      ≡ poll_order setup before h.cache
  cancel_order reply n = order-stays policy setup before ran (cancels reply) refl h.cache

  nobody_behind : (xs : List CallId) → list_any (same_call call) xs ≡ false → next_holder call xs ≡ None
  nobody_behind [] n = refl
  nobody_behind (x ∷ rest) n = let s : same_call call x ≡ false = or_left _ _ n in rw s refl

  -- a call that is not in the line wakes nobody
  wakes_nobody : list_any (same_call call) (open_calls setup before h.cache) ≡ false
      → call_to_wake setup before h.cache (cancels (Cancelled None)) ≡ None
  wakes_nobody absent =
      wakes policy setup before ran h.cache (cancels (Cancelled None)) refl (cancel_order (Cancelled None) refl)
      ∙ next_holder-is call (open_calls setup before h.cache)
      ∙ nobody_behind (open_calls setup before h.cache) absent

  -- of a call that holds or waits
  refines-leave : (s : Stage) → r.stage ≡ s → is_unpolled (phase_of_stage s) ≡ false
      → (reply : Reply K) (new : DeskState K D)
      → TakesEffect (end_effect (waited_hold old view).ended_desk (Cancelled (waited_hold old view).wake))
      call reply new
      → Refines policy old entries (cancels reply) new
  refines-leave s e f reply new m =
      let polled : is_unpolled (phase_of before call) ≡ false = ap is_unpolled (phase-is policy old entries stood call h r lives (phase_of_stage s) (ap phase_of_stage e)) ∙ f in
      refines-end policy old entries stood (Cancel call) h r lives (waited_hold old view).ended_desk (Cancelled (waited_hold old view).wake)
      (record { expected = ap Cancelled (sym (waited_wakes policy old entries stood (Cancel call) h r lives cancel_order polled (Cancelled None) refl refl)) ∙ expected_cancels (says policy old entries stood call h r lives).live; committed = refl; fits = refl; no_begin = refl })
      (waited_leaves policy old entries stood (Cancel call) h r lives cancel_order polled (Cancelled (waited_hold old view).wake) refl refl refl (ap is_unpolled (cancelled_phase (waited_hold old view).wake)) old.caches refl)
      (cancelled_phase (waited_hold old view).wake) reply new m

  -- of a call that was not polled
  refines-unpolled : r.stage ≡ stage.Unpolled → (reply : Reply K) (new : DeskState K D)
      → TakesEffect (end_effect (with_queue without_room h.cache old) (Cancelled None)) call reply new
      → Refines policy old entries (cancels reply) new
  refines-unpolled e reply new m = by_phase (invariant policy old entries stood call h r lives Unpolled (ap phase_of_stage e))
    where
      by_phase : CallInvariant setup before h.cache call Unpolled
          → Refines policy old entries (cancels reply) new
      by_phase (unpolled_call w _ first) =
          refines-end policy old entries stood (Cancel call) h r lives (with_queue without_room h.cache old) (Cancelled None)
          (record { expected = ap Cancelled (sym (wakes_nobody (unpolled-absent policy setup before ran (cancels (Cancelled None)) call h.cache first))) ∙ expected_cancels (says policy old entries stood call h r lives).live; committed = refl; fits = refl; no_begin = refl })
          (follows-changed policy old entries stood (cancels (Cancelled None)) h.cache without_room old.caches (at policy old entries stood call h r lives) refl refl
          (queue-unpolled policy setup before ran (cancels (Cancelled None)) h.cache (at policy old entries stood call h r lives) refl refl refl first w.begun
          (ap is_unpolled (phase-is policy old entries stood call h r lives Unpolled (ap phase_of_stage e))) (ap is_unpolled (cancelled_phase None))))
          (cancelled_phase None) reply new m

  -- of a call that signs
  refines-signing : r.stage ≡ stage.Signing → (reply : Reply K) (new : DeskState K D)
      → TakesEffect (end_effect old (Cancelled None)) call reply new
      → Refines policy old entries (cancels reply) new
  refines-signing e reply new m =
      let served : IsServed setup before h.cache call = served_of (invariant policy old entries stood call h r lives Signing (ap phase_of_stage e)) in
      refines-end policy old entries stood (Cancel call) h r lives old (Cancelled None)
      (record { expected = ap Cancelled (sym (wakes_nobody (closed-absent policy setup before ran (cancels (Cancelled None)) call h.cache served.finished))) ∙ expected_cancels (says policy old entries stood call h r lives).live; committed = refl; fits = refl; no_begin = refl })
      (follows-stays policy old entries stood (cancels (Cancelled None)) h.cache (at policy old entries stood call h r lives) refl refl
      (queue-gone policy setup before ran (cancels (Cancelled None)) h.cache (at policy old entries stood call h r lives) refl refl refl served.finished
      (ap is_unpolled (phase-is policy old entries stood call h r lives Signing (ap phase_of_stage e)) ∙ sym (ap is_unpolled (cancelled_phase None)))))
      (cancelled_phase None) reply new m

  -- a cancel of a live call
  pub refines-cancel : (s : Stage) → r.stage ≡ s → (reply : Reply K) (new : DeskState K D)
      → Performs (cancel_action old view s) call old reply new
      → Refines policy old entries (record { event = Cancel call; reply = reply }) new
  refines-cancel stage.Unpolled e reply new m = refines-unpolled e reply new m
  refines-cancel stage.Queued e reply new m = refines-leave stage.Queued e refl reply new m
  refines-cancel stage.Loading e reply new m = refines-leave stage.Loading e refl reply new m
  refines-cancel stage.Signing e reply new m = refines-signing e reply new m
