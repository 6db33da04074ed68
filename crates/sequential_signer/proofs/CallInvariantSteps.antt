-- After a run each call stands as its phase says.
use Rattle.std.proofs.Common.{◌≡◌, ℕ, ℤ, Bool, true, false, ◌||◌, List, [], ◌∷◌, ◌++◌, Option, Some, None, is_some, refl, sym, ◌∙◌, ap, subst, find}
use Rattle.std.specs.declared.time.Duration.{Duration}
use Rattle.sign_base.specs.declared.head.Head.{Head}
use Rattle.sign_base.specs.declared.call_id.CallId.{CallId}
use Rattle.sequential_signer.specs.Lookup.{HandOut, Refuse}
use Rattle.sequential_signer.specs.Policy.{Policy}
use Rattle.sequential_signer.specs.SequentialCall.{Progress, Asking, Over}
use Rattle.sequential_signer.specs.Setup.{Setup, cache_of, is_of_cache, is_number}
use Rattle.sign_base.specs.Calls.{same_call}
use Rattle.sequential_signer.specs.Transcript.{call_of, entries_of}
use Rattle.sequential_signer.specs.Phase.{Phase, Unknown, Unpolled, Queued, Loading, Signing, Ended, is_begun, phase_in, phase_of, is_live, is_waiting, is_loading, is_signing, is_new_number}
use Rattle.sequential_signer.specs.Turn.{poll_order, is_fitting_poll, hold_is_finished, is_served, has_turn}
use Rattle.sequential_signer.specs.Hold.{begin_in, begin_of, answers_in, is_poll_at_turn, turn_moment}
use Rattle.sequential_signer.specs.ExpectedReply.{progress_reply, with_wake}
use Rattle.sequential_signer.specs.declared.event.Answer.{Answer}
use Rattle.sequential_signer.specs.declared.event.Entry.{Entry}
use Rattle.sequential_signer.specs.declared.event.Event.{Event}
use Rattle.sequential_signer.specs.declared.event.Event.TheVariants.{Begin, Poll, Provided, Cancel}
use Rattle.sequential_signer.specs.declared.event.Reply.{Reply}
use Rattle.sequential_signer.specs.declared.event.Reply.TheVariants.{Begun, Pending, Ask, Sign, Refused, Cancelled}
use Rattle.sign_base.proofs.Calls.{same_call-eq, same_call-refl}
use Rattle.sign_base.proofs.Truth.{number_refl}
use Rattle.sequential_signer.proofs.OwnEntries.{entries_of-own, to_queued, phase_in-pending, begin_in-new}
use Rattle.sequential_signer.proofs.NewNumbers.{new_is_unbegun}
use Rattle.sequential_signer.proofs.PollOrder.{is_polled-own, has_turn-own, turn_moment-yes, had_no_turn-more}
use Rattle.sequential_signer.proofs.LegalStep.{LegalStep, not_now, begins, waits, pending, looks, takes_effect, accepts, fails, cancels, is_busy}
use Rattle.sequential_signer.proofs.Run.{IsRun, start, more}
use Rattle.sequential_signer.proofs.CallInvariant.{HadTurn, Waits, IsBlank, Loads, IsServed, CallInvariant, unknown_call, unpolled_call, queued_call, loading_call, signing_call, over_call, cancelled_call, stands-other, phase-other, had-more, refused_stands, refused_phase, served_stays, loads_stays, waits_queued, now_served, now_cancelled, answers-own_none, phase-own_mark, waited-own, unpolled-own, no_poll-turn, served-own, finished-own, begun-own}

module _ {K D : Type 0} (policy : Policy K D) (setup : Setup D) where
  -- what holds of a call that waits, in either of its phases
  pub waiting_waits : (entries : List (Entry K)) (i : ℕ) (call : CallId) (p : Phase) → is_waiting p ≡ true
      → CallInvariant setup entries i call p → Waits setup entries i call
  waiting_waits entries i call Unpolled h (unpolled_call w _ _) = w
  waiting_waits entries i call Queued h (queued_call w _) = w
  waiting_waits entries i call Unknown h s = absurd (cc)
  waiting_waits entries i call Loading h s = absurd (cc)
  waiting_waits entries i call Signing h s = absurd (cc)
  waiting_waits entries i call Ended h s = absurd (cc)

  -- of one that loads
  pub loading_loads : (entries : List (Entry K)) (i : ℕ) (call : CallId) (p : Phase) → is_loading p ≡ true
      → CallInvariant setup entries i call p → Loads setup entries i call
  loading_loads entries i call Loading h (loading_call l) = l
  loading_loads entries i call Unknown h s = absurd (cc)
  loading_loads entries i call Unpolled h s = absurd (cc)
  loading_loads entries i call Queued h s = absurd (cc)
  loading_loads entries i call Signing h s = absurd (cc)
  loading_loads entries i call Ended h s = absurd (cc)

  -- of one that signs
  pub signing_served : (entries : List (Entry K)) (i : ℕ) (call : CallId) (p : Phase) → is_signing p ≡ true
      → CallInvariant setup entries i call p → IsServed setup entries i call
  signing_served entries i call Signing h (signing_call s) = s
  signing_served entries i call Unknown h s = absurd (cc)
  signing_served entries i call Unpolled h s = absurd (cc)
  signing_served entries i call Queued h s = absurd (cc)
  signing_served entries i call Loading h s = absurd (cc)
  signing_served entries i call Ended h s = absurd (cc)

  -- a call that was never begun got no reply but `NotNow`
  pub unbegun_blank : (entries : List (Entry K)) (i : ℕ) (call : CallId) (p : Phase)
      → begin_of entries call ≡ None → CallInvariant setup entries i call p → IsBlank setup entries i call
  unbegun_blank entries i call Unknown n (unknown_call b) = b
  unbegun_blank entries i call Unpolled n (unpolled_call w _ _) = let h = w.begun in absurd (cc)
  unbegun_blank entries i call Queued n (queued_call w _) = let h = w.begun in absurd (cc)
  unbegun_blank entries i call Loading n (loading_call l) = let h = l.begun in absurd (cc)
  unbegun_blank entries i call Signing n (signing_call s) = let h = s.begun in absurd (cc)
  unbegun_blank entries i call Ended n (over_call s) = let h = s.begun in absurd (cc)
  unbegun_blank entries i call Ended n (cancelled_call c) = let h = c.begun in absurd (cc)

  -- where no begin was accepted, there is nothing that the call was begun with
  pub unbegun : (es : List (Entry K)) → find (λ (x : Entry K). is_begun x.reply) es ≡ None
      → begin_in es ≡ None
  unfolding begin_in
  unbegun es n = rw n refl

  module _ (entries : List (Entry K)) (i : ℕ) (call : CallId) (at : cache_of setup call ≡ Some i) where
    at_cache : is_of_cache setup i call ≡ true
    at_cache = ap (is_number i) at ∙ number_refl i

    own_turn : (now : ℤ) (reply : Reply K)
        → is_fitting_poll (record { event = Poll call now; reply = reply }) ≡ true
        → is_poll_at_turn setup i call (entries, record { event = Poll call now; reply = reply })
        ≡ has_turn setup entries i call
    own_turn now reply t = rw (same_call-refl call, t) refl

    -- a first poll at the turn sets its moment
    pub looked_moment : (now : ℤ) (reply : Reply K)
        → is_fitting_poll (record { event = Poll call now; reply = reply }) ≡ true
        → Waits setup entries i call → has_turn setup entries i call ≡ true
        → turn_moment setup (entries ++ record { event = Poll call now; reply = reply } ∷ []) i call
        ≡ Some now
    looked_moment now reply t w turn =
        turn_moment-yes setup entries i (record { event = Poll call now; reply = reply }) call w.no_turn (own_turn now reply t ∙ turn)

    -- and so the call had its turn
    pub looked : (now : ℤ) (reply : Reply K)
        → is_fitting_poll (record { event = Poll call now; reply = reply }) ≡ true
        → Waits setup entries i call → has_turn setup entries i call ≡ true
        → HadTurn setup (entries ++ record { event = Poll call now; reply = reply } ∷ []) i call
    looked now reply t w turn =
        let e : Entry K = record { event = Poll call now; reply = reply } in
        record {
          polled = is_polled-own setup entries i e (rw (t, at_cache) refl);
          turn = has_turn-own setup entries i e turn;
          moment = now;
          at = turn_moment-yes setup entries i e call w.no_turn (own_turn now reply t ∙ turn);
        }

    begins_stands : (head : Head) (expires_in : Option Duration) → is_new_number entries call ≡ true
        → (p : Phase) → CallInvariant setup entries i call p
        → CallInvariant setup (entries ++ record { event = Begin call head expires_in; reply = Begun } ∷ []) i
        call (phase_of (entries ++ record { event = Begin call head expires_in; reply = Begun } ∷ []) call)
    begins_stands head expires_in new p st =
        let e : Entry K = record { event = Begin call head expires_in; reply = Begun } in
        let own : same_call call call ≡ true = same_call-refl call in
        let none = new_is_unbegun call entries new in
        let blank : IsBlank setup entries i call = unbegun_blank entries i call p (unbegun (entries_of entries call) none) st in
        rw (phase-own_mark setup entries i e call own refl, blank.waited)
        (unpolled_call
        (record {
          begun = ap is_some (ap begin_in (entries_of-own entries call e own) ∙ begin_in-new (entries_of entries call) e none refl);
          answers = answers-own_none setup entries i e call own refl ∙ blank.answers;
          unserved = served-own setup entries i e call own false blank.unserved;
          unfinished = finished-own setup entries i e call own false blank.unfinished;
          no_turn = had_no_turn-more setup entries i e call (no_poll-turn setup entries i e call own refl) blank.no_turn;
        })
        (waited-own setup entries i e call own ∙ ap (λ v. v || false) blank.waited)
        (unpolled-own setup entries i e call own refl ∙ blank.unpolled))

    module _ (now : ℤ) where
      pending_entry : Entry K
      pending_entry = record { event = Poll call now; reply = Pending }

      -- a poll that is answered `Pending` queues its call, where it was not polled before
      pub pending_phase : (p : Phase) → phase_of entries call ≡ p
          → phase_of (entries ++ record { event = Poll call now; reply = Pending } ∷ []) call ≡ to_queued p
      unfolding phase_of
      pending_phase p h =
          ap phase_in (entries_of-own entries call (record { event = Poll call now; reply = Pending }) (same_call-refl call))
          ∙ phase_in-pending (entries_of entries call) call now
          ∙ ap to_queued h

      waits_stands : has_turn setup entries i call ≡ false → (p : Phase) → phase_of entries call ≡ p
          → is_waiting p ≡ true → CallInvariant setup entries i call p
          → CallInvariant setup (entries ++ record { event = Poll call now; reply = Pending } ∷ []) i call
          (phase_of (entries ++ record { event = Poll call now; reply = Pending } ∷ []) call)
      waits_stands t p h w st =
          let e : Entry K = record { event = Poll call now; reply = Pending } in
          let queued : to_queued p ≡ Queued = to_queued-waiting p w in
          rw (pending_phase p h, queued)
          (waits_queued setup entries i e call (same_call-refl call) at_cache refl refl refl (own_turn now Pending refl ∙ t) (waiting_waits entries i call p w st))
        where
          to_queued-waiting : (p : Phase) → is_waiting p ≡ true → to_queued p ≡ Queued
          to_queued-waiting Unpolled w = refl
          to_queued-waiting Queued w = refl
          to_queued-waiting Unknown w = cc
          to_queued-waiting Loading w = cc
          to_queued-waiting Signing w = cc
          to_queued-waiting Ended w = cc

      pending_stands : (p : Phase) → phase_of entries call ≡ p → is_busy p ≡ true
          → CallInvariant setup entries i call p
          → CallInvariant setup (entries ++ record { event = Poll call now; reply = Pending } ∷ []) i call
          (phase_of (entries ++ record { event = Poll call now; reply = Pending } ∷ []) call)
      pending_stands Loading h b (loading_call l) = rw (pending_phase Loading h) (loading_call (loads_stays setup entries i (record { event = Poll call now; reply = Pending }) call (same_call-refl call) refl refl l))
      pending_stands Signing h b (signing_call s) = rw (pending_phase Signing h) (signing_call (served_stays setup entries i (record { event = Poll call now; reply = Pending }) call (same_call-refl call) s))
      pending_stands Unknown h b s = absurd (cc)
      pending_stands Unpolled h b s = absurd (cc)
      pending_stands Queued h b s = absurd (cc)
      pending_stands Ended h b s = absurd (cc)

      -- a look ends the hold, or it begins a load
      looks_stands : (progress : Progress K) (wake : Option CallId) → has_turn setup entries i call ≡ true
          → Waits setup entries i call
          → CallInvariant setup
          (entries ++ record { event = Poll call now; reply = with_wake (progress_reply progress) wake } ∷ [])
          i call
          (phase_of (entries
          ++ record { event = Poll call now; reply = with_wake (progress_reply progress) wake } ∷ []) call)
      looks_stands (Asking k) wake t w =
          let e : Entry K = record { event = Poll call now; reply = Ask k } in
          let own : same_call call call ≡ true = same_call-refl call in
          rw (phase-own_mark setup entries i e call own refl)
          (loading_call (record {
            begun = begun-own setup entries i e call own w.begun;
            unserved = served-own setup entries i e call own false w.unserved;
            unfinished = finished-own setup entries i e call own false w.unfinished;
            had = looked now (Ask k) refl w t;
          }))
      looks_stands (Over (HandOut c) left) wake t w =
          let e : Entry K = record { event = Poll call now; reply = Sign c wake } in
          let own : same_call call call ≡ true = same_call-refl call in
          rw (phase-own_mark setup entries i e call own refl)
          (signing_call (now_served setup entries i e call own w.begun refl refl (looked now (Sign c wake) refl w t)))
      looks_stands (Over (Refuse cause) left) wake t w =
          let e : Entry K = record { event = Poll call now; reply = Refused cause wake } in
          let own : same_call call call ≡ true = same_call-refl call in
          rw (phase-own_mark setup entries i e call own refl)
          (over_call (now_served setup entries i e call own w.begun refl refl (looked now (Refused cause wake) refl w t)))

      -- an answer ends the hold, or the next provider is asked
      answer_stands : (answer : Answer K) (progress : Progress K) (wake : Option CallId)
          → Loads setup entries i call
          → CallInvariant setup
          (entries
          ++ record { event = Provided call now answer; reply = with_wake (progress_reply progress) wake }
          ∷ [])
          i call
          (phase_of (entries
          ++ record { event = Provided call now answer; reply = with_wake (progress_reply progress) wake }
          ∷ []) call)
      answer_stands answer (Asking k) wake l =
          let e : Entry K = record { event = Provided call now answer; reply = Ask k } in
          rw (phase-own_mark setup entries i e call (same_call-refl call) refl)
          (loading_call (loads_stays setup entries i e call (same_call-refl call) refl refl l))
      answer_stands answer (Over (HandOut c) left) wake l =
          let e : Entry K = record { event = Provided call now answer; reply = Sign c wake } in
          rw (phase-own_mark setup entries i e call (same_call-refl call) refl)
          (signing_call (now_served setup entries i e call (same_call-refl call) l.begun refl refl (had-more setup entries i e call l.had)))
      answer_stands answer (Over (Refuse cause) left) wake l =
          let e : Entry K = record { event = Provided call now answer; reply = Refused cause wake } in
          rw (phase-own_mark setup entries i e call (same_call-refl call) refl)
          (over_call (now_served setup entries i e call (same_call-refl call) l.begun refl refl (had-more setup entries i e call l.had)))

    cancels_stands : (wake : Option CallId) (p : Phase) → is_live p ≡ true
        → CallInvariant setup entries i call p
        → CallInvariant setup (entries ++ record { event = Cancel call; reply = Cancelled wake } ∷ []) i call
        Ended
    cancels_stands wake Unpolled l (unpolled_call w _ _) = now_cancelled setup entries i (record { event = Cancel call; reply = Cancelled wake }) call (same_call-refl call) w.begun refl refl w.unserved
    cancels_stands wake Queued l (queued_call w _) = now_cancelled setup entries i (record { event = Cancel call; reply = Cancelled wake }) call (same_call-refl call) w.begun refl refl w.unserved
    cancels_stands wake Loading l (loading_call w) = now_cancelled setup entries i (record { event = Cancel call; reply = Cancelled wake }) call (same_call-refl call) w.begun refl refl w.unserved
    cancels_stands wake Signing l (signing_call s) = over_call (served_stays setup entries i (record { event = Cancel call; reply = Cancelled wake }) call (same_call-refl call) s)
    cancels_stands wake Unknown l s = absurd (cc)
    cancels_stands wake Ended l s = absurd (cc)

  -- after a legal step its call stands as its new phase says
  own_stands : (entries : List (Entry K)) (event : Event K) (reply : Reply K)
      → LegalStep policy setup entries event reply → (i : ℕ) → cache_of setup (call_of event) ≡ Some i
      → CallInvariant setup entries i (call_of event) (phase_of entries (call_of event))
      → CallInvariant setup (entries ++ record { event = event; reply = reply } ∷ []) i (call_of event)
      (phase_of (entries ++ record { event = event; reply = reply } ∷ []) (call_of event))
  own_stands entries event reply (not_now e) i at st =
      rw (refused_phase setup entries i e (call_of e) (same_call-refl (call_of e))) (refused_stands setup entries i e (call_of e) (same_call-refl (call_of e)) (phase_of entries (call_of e)) st)
  own_stands entries event reply (begins call head expires_in j _ new) i at st = begins_stands entries i call at head expires_in new (phase_of entries call) st
  own_stands entries event reply (waits call now j atj w t) i at st =
      let same : j ≡ i = cc in
      waits_stands entries i call at now (subst (λ n. has_turn setup entries n call ≡ false) same t) (phase_of entries call) refl w st
  own_stands entries event reply (pending call now b) i at st = pending_stands entries i call at now (phase_of entries call) refl b st
  own_stands entries event reply (looks call now j progress wake w t g) i at st =
      let atj = g.at in
      let same : j ≡ i = cc in
      looks_stands entries i call at now progress wake (subst (λ n. has_turn setup entries n call ≡ true) same t) (waiting_waits entries i call (phase_of entries call) w st)
  own_stands entries event reply (takes_effect call now answer j progress wake l g) i at st =
      answer_stands entries i call at now answer progress wake (loading_loads entries i call (phase_of entries call) l st)
  own_stands entries event reply (accepts call candidate s) i at st =
      rw (phase-own_mark setup entries i (record { event = event; reply = reply }) call (same_call-refl call) refl)
      (over_call (served_stays setup entries i (record { event = event; reply = reply }) call (same_call-refl call) (signing_served entries i call (phase_of entries call) s st)))
  own_stands entries event reply (fails call x _ _ s) i at st =
      rw (phase-own_mark setup entries i (record { event = event; reply = reply }) call (same_call-refl call) refl)
      (over_call (served_stays setup entries i (record { event = event; reply = reply }) call (same_call-refl call) (signing_served entries i call (phase_of entries call) s st)))
  own_stands entries event reply (cancels call wake l) i at st =
      rw (phase-own_mark setup entries i (record { event = event; reply = reply }) call (same_call-refl call) refl)
      (cancels_stands entries i call at wake (phase_of entries call) l st)

  step_stands : (entries : List (Entry K)) (event : Event K) (reply : Reply K)
      → LegalStep policy setup entries event reply → (call : CallId) (i : ℕ) → cache_of setup call ≡ Some i
      → CallInvariant setup entries i call (phase_of entries call) → (s : Bool)
      → same_call call (call_of event) ≡ s
      → CallInvariant setup (entries ++ record { event = event; reply = reply } ∷ []) i call
      (phase_of (entries ++ record { event = event; reply = reply } ∷ []) call)
  step_stands entries event reply step call i at st true s =
      let same : call_of event ≡ call = sym (same_call-eq call (call_of event) s) in
      subst (λ c. CallInvariant setup (entries ++ record { event = event; reply = reply } ∷ []) i c (phase_of (entries ++ record { event = event; reply = reply } ∷ []) c)) same
      (own_stands entries event reply step i (ap (cache_of setup) same ∙ at) (subst (λ c. CallInvariant setup entries i c (phase_of entries c)) (sym same) st))
  step_stands entries event reply step call i at st false s =
      rw (phase-other setup entries i (record { event = event; reply = reply }) call s)
      (stands-other setup entries i (record { event = event; reply = reply }) call s (phase_of entries call) st)

  blank_start : (i : ℕ) (call : CallId) → CallInvariant {K = K} setup [] i call (phase_of {K = K} [] call)
  unfolding phase_of phase_in entries_of begin_in answers_in is_served hold_is_finished poll_order
  blank_start i call = unknown_call (record { begin = refl; waited = refl; answers = refl; unserved = refl; unfinished = refl; unpolled = refl; no_turn = record { none = refl } })

  -- after a run each call stands as its phase says
  pub stands : (entries : List (Entry K)) → IsRun policy setup entries → (call : CallId) (i : ℕ)
      → cache_of setup call ≡ Some i → CallInvariant setup entries i call (phase_of entries call)
  stands _ start call i at = blank_start i call
  stands _ (more entries event reply run step) call i at = step_stands entries event reply step call i at (stands entries run call i at) _ refl

  module _ (entries : List (Entry K)) (run : IsRun policy setup entries) (call : CallId) (i : ℕ)
      (at : cache_of setup call ≡ Some i) where
    -- so a call that waits, loads or signs stands as one that does
    pub run_waits : is_waiting (phase_of entries call) ≡ true → Waits setup entries i call
    run_waits w = waiting_waits entries i call (phase_of entries call) w (stands entries run call i at)

    pub run_loads : is_loading (phase_of entries call) ≡ true → Loads setup entries i call
    run_loads l = loading_loads entries i call (phase_of entries call) l (stands entries run call i at)

    pub run_signs : is_signing (phase_of entries call) ≡ true → IsServed setup entries i call
    run_signs s = signing_served entries i call (phase_of entries call) s (stands entries run call i at)
