-- While a call loads its cache stays what it was before the call's look; so a cancel of the load leaves it
-- so.
use Rattle.std.proofs.Common.{◌≡◌, ℕ, ℤ, Bool, true, false, List, [], ◌∷◌, ◌++◌, Option, Some, None, refl, sym, ◌∙◌, ap, subst}
use Rattle.std.proofs.lemmas.List.{append_assoc}
use Rattle.sign_base.specs.declared.call_id.CallId.{CallId}
use Rattle.sequential_signer.specs.Lookup.{HandOut, Refuse}
use Rattle.sequential_signer.specs.Policy.{Policy}
use Rattle.sequential_signer.specs.SequentialCall.{Asking, Over}
use Rattle.sequential_signer.specs.Setup.{Setup, cache_of}
use Rattle.sign_base.specs.Calls.{same_call}
use Rattle.sequential_signer.specs.Transcript.{call_of, entries_of, committed_entries}
use Rattle.sequential_signer.specs.Phase.{Phase, Unknown, Unpolled, Queued, Loading, Signing, Ended, phase_of, is_waiting, is_loading, is_poll}
use Rattle.sequential_signer.specs.Hold.{begin_of}
use Rattle.sequential_signer.specs.SequentialCache.{sequential_cache}
use Rattle.sequential_signer.specs.Legal.{IsLegal, IsLegalAfter, IsLegalEntry}
use Rattle.sequential_signer.specs.LawsOfCancel.{look_entry, cancel_entry, CancelledLoadLeavesTheCache}
use Rattle.sequential_signer.specs.Replies.{is_ask}
use Rattle.sequential_signer.specs.declared.event.Entry.{Entry}
use Rattle.sequential_signer.specs.declared.event.Event.{Event}
use Rattle.sequential_signer.specs.declared.event.Event.TheVariants.{Poll}
use Rattle.sequential_signer.specs.declared.event.Reply.{Reply}
use Rattle.sequential_signer.specs.declared.event.Reply.TheVariants.{Pending, NotNow, Ask}
use Rattle.sign_base.proofs.Calls.{same_call-eq, same_call-refl}
use Rattle.sequential_signer.proofs.OwnEntries.{to_queued}
use Rattle.sequential_signer.proofs.LegalStep.{LegalStep, is_busy, not_now, begins, waits, pending, looks, takes_effect, accepts, fails, cancels, expected_step}
use Rattle.sequential_signer.proofs.Run.{IsRun, more, legal_run, legal_entry_step, after_keeps, committed_entries-more}
use Rattle.sequential_signer.proofs.NewNumbers.{new_is_unbegun}
use Rattle.sequential_signer.proofs.CallInvariant.{Waits, Loads, phase-other, phase-own_mark, refused_phase}
use Rattle.sequential_signer.proofs.CallInvariantSteps.{stands, unbegun, pending_phase, run_waits, run_loads}
use Rattle.sequential_signer.proofs.CacheRows.{stays_not_now, stays_other, stays_unserved}
use Rattle.sequential_signer.proofs.LoadLaw.{other_stays}
use Rattle.sequential_signer.proofs.WokenOnce.{unbegun_unknown}
use Rattle.sequential_signer.proofs.ExpectedReplies.{legal_before}
use Rattle.sequential_signer.proofs.LegalAfter.{legal_split}
use Rattle.sequential_signer.proofs.CancelTrace.{loading_is, cancel_changes_no_cache}

-- past its look
abbrev pub is_past : Phase → Bool
is_past Loading = true
is_past Signing = true
is_past Ended = true
is_past _ = false

past_not_waiting : (p : Phase) → is_past p ≡ true → is_waiting p ≡ true → ⊥
past_not_waiting Loading h w = cc
past_not_waiting Signing h w = cc
past_not_waiting Ended h w = cc
past_not_waiting Unknown h w = cc
past_not_waiting Unpolled h w = cc
past_not_waiting Queued h w = cc

busy_same : (p : Phase) → is_busy p ≡ true → to_queued p ≡ p
busy_same Loading h = refl
busy_same Signing h = refl
busy_same Unknown h = cc
busy_same Unpolled h = cc
busy_same Queued h = cc
busy_same Ended h = cc

module _ {K D : Type 0} (policy : Policy K D) (setup : Setup D) (call : CallId) (was : Option K) where
  -- the call is past its look, and while it loads its cache is what it was
  pub record IsPastLook (entries : List (Entry K)) : Type 0 where
    pub place : ℕ
    pub at : cache_of setup call ≡ Some place
    pub run : IsRun policy setup entries
    pub past : is_past (phase_of entries call) ≡ true
    pub cache : is_loading (phase_of entries call) ≡ true → sequential_cache policy setup entries place ≡ was

  module _ (entries : List (Entry K)) (p : IsPastLook entries) where
    -- the phase stays, and so does the cache
    past_stays : (e : Entry K) → IsRun policy setup (entries ++ e ∷ [])
        → phase_of (entries ++ e ∷ []) call ≡ phase_of entries call
        → (is_loading (phase_of entries call) ≡ true
        → sequential_cache policy setup (entries ++ e
        ∷ []) p.place ≡ sequential_cache policy setup entries p.place)
        → IsPastLook (entries ++ e ∷ [])
    past_stays e run same c = record {
      place = p.place;
      at = p.at;
      run = run;
      past = ap is_past same ∙ p.past;
      cache = λ h. let l : is_loading (phase_of entries call) ≡ true = ap is_loading (sym same) ∙ h in c l ∙ p.cache l;
    }

    -- the call loads no longer
    past_over : (e : Entry K) → IsRun policy setup (entries ++ e ∷ []) → (q : Phase)
        → phase_of (entries ++ e ∷ []) call ≡ q → is_past q ≡ true → is_loading q ≡ false
        → IsPastLook (entries ++ e ∷ [])
    past_over e run q same past over = record {
      place = p.place;
      at = p.at;
      run = run;
      past = ap is_past same ∙ past;
      cache = λ h. let bad : is_loading q ≡ true = ap is_loading (sym same) ∙ h in absurd (cc);
    }

    -- an entry of the call itself
    own_past : (event : Event K) (reply : Reply K) → LegalStep policy setup entries event reply
        → call_of event ≡ call → IsRun policy setup (entries ++ record { event = event; reply = reply } ∷ [])
        → IsPastLook (entries ++ record { event = event; reply = reply } ∷ [])
    own_past event reply (not_now e) same run =
        let own : same_call call (call_of e) ≡ true = ap (same_call call) same ∙ same_call-refl call in
        past_stays (record { event = e; reply = NotNow }) run (refused_phase setup entries p.place e call own) (λ _. stays_not_now policy setup entries p.run e p.place)
    own_past event reply (begins c head expires_in j atj new) same run =
        let atc : cache_of setup c ≡ Some p.place = ap (cache_of setup) same ∙ p.at in
        let none : begin_of entries c ≡ None = unbegun policy setup (entries_of entries c) (new_is_unbegun c entries new) in
        let unknown : phase_of entries c ≡ Unknown = unbegun_unknown policy setup entries p.place c (phase_of entries c) none (stands policy setup entries p.run c p.place atc) in
        let bad : is_past Unknown ≡ true = ap is_past (sym unknown) ∙ ap (λ x. is_past (phase_of entries x)) same ∙ p.past in
        absurd (cc)
    own_past event reply (waits c now j atj w t) same run = absurd (past_not_waiting (phase_of entries call) p.past (ap (λ x. is_waiting (phase_of entries x)) (sym same) ∙ w))
    own_past event reply (pending c now b) same run =
        let busy : is_busy (phase_of entries call) ≡ true = ap (λ x. is_busy (phase_of entries x)) (sym same) ∙ b in
        let phase : phase_of (entries ++ record { event = Poll call now; reply = Pending } ∷ []) call ≡ phase_of entries call =
        pending_phase policy setup entries p.place call p.at now (phase_of entries call) refl ∙ busy_same (phase_of entries call) busy in
        past_stays (record { event = event; reply = reply }) run
        (subst (λ x. phase_of (entries ++ record { event = Poll x now; reply = Pending } ∷ []) call ≡ phase_of entries call) (sym same) phase)
        (λ _. stays_other policy setup entries p.run (record { event = event; reply = reply }) refl refl p.place)
    own_past event reply (looks c now j progress wake w t g) same run = absurd (past_not_waiting (phase_of entries call) p.past (ap (λ x. is_waiting (phase_of entries x)) (sym same) ∙ w))
    own_past event reply (takes_effect c now answer j (Asking k) wake l g) same run =
        let atc : cache_of setup c ≡ Some p.place = ap (cache_of setup) same ∙ p.at in
        let loads : Loads setup entries p.place c = run_loads policy setup entries p.run c p.place atc l in
        let was_loading : phase_of entries call ≡ Loading = loading_is (phase_of entries call) (ap (λ x. is_loading (phase_of entries x)) (sym same) ∙ l) in
        past_stays (record { event = event; reply = reply }) run
        (phase-own_mark setup entries p.place (record { event = event; reply = reply }) call (ap (same_call call) same ∙ same_call-refl call) refl ∙ sym was_loading)
        (λ _. stays_unserved policy setup entries p.run (record { event = event; reply = reply }) loads.unserved refl p.place)
    own_past event reply (takes_effect c now answer j (Over (HandOut k) left) wake l g) same run =
        past_over (record { event = event; reply = reply }) run Signing (phase-own_mark setup entries p.place (record { event = event; reply = reply }) call (ap (same_call call) same ∙ same_call-refl call) refl) refl refl
    own_past event reply (takes_effect c now answer j (Over (Refuse cause) left) wake l g) same run =
        past_over (record { event = event; reply = reply }) run Ended (phase-own_mark setup entries p.place (record { event = event; reply = reply }) call (ap (same_call call) same ∙ same_call-refl call) refl) refl refl
    own_past event reply (accepts c candidate s) same run =
        past_over (record { event = event; reply = reply }) run Ended (phase-own_mark setup entries p.place (record { event = event; reply = reply }) call (ap (same_call call) same ∙ same_call-refl call) refl) refl refl
    own_past event reply (fails c x j atj s) same run =
        past_over (record { event = event; reply = reply }) run Ended (phase-own_mark setup entries p.place (record { event = event; reply = reply }) call (ap (same_call call) same ∙ same_call-refl call) refl) refl refl
    own_past event reply (cancels c wake l) same run =
        past_over (record { event = event; reply = reply }) run Ended (phase-own_mark setup entries p.place (record { event = event; reply = reply }) call (ap (same_call call) same ∙ same_call-refl call) refl) refl refl

    past_step : (event : Event K) (reply : Reply K) → LegalStep policy setup entries event reply → (s : Bool)
        → same_call call (call_of event) ≡ s
        → IsPastLook (entries ++ record { event = event; reply = reply } ∷ [])
    past_step event reply step true s = own_past event reply step (sym (same_call-eq call (call_of event) s)) (more entries event reply p.run step)
    past_step event reply step false s =
        past_stays (record { event = event; reply = reply }) (more entries event reply p.run step)
        (phase-other setup entries p.place (record { event = event; reply = reply }) call s)
        (λ l. other_stays policy setup entries p.run p.place call (run_loads policy setup entries p.run call p.place p.at l) event reply step s)

  -- a poll that is answered by asking a provider is the call's look
  look_is_past : (entries : List (Entry K)) (i : ℕ) → cache_of setup call ≡ Some i
      → IsRun policy setup entries → (event : Event K) (reply : Reply K)
      → LegalStep policy setup entries event reply → is_poll event ≡ true → is_ask reply ≡ true
      → call_of event ≡ call → sequential_cache policy setup entries i ≡ was
      → IsPastLook (entries ++ record { event = event; reply = reply } ∷ [])
  look_is_past entries i at run event reply (looks c now j (Asking k) wake w t g) poll ask same cache =
      let atc : cache_of setup c ≡ Some i = ap (cache_of setup) same ∙ at in
      let x : Waits setup entries i c = run_waits policy setup entries run c i atc w in
      record {
        place = i;
        at = at;
        run = more entries (Poll c now) (Ask k) run (looks c now j (Asking k) wake w t g);
        past = ap is_past (phase-own_mark setup entries i (record { event = event; reply = reply }) call (ap (same_call call) same ∙ same_call-refl call) refl);
        cache = λ _. stays_unserved policy setup entries run (record { event = event; reply = reply }) x.unserved refl i ∙ cache;
      }
  look_is_past entries i at run event reply (looks c now j (Over (HandOut k) left) wake w t g) poll ask same cache = absurd (cc)
  look_is_past entries i at run event reply (looks c now j (Over (Refuse cause) left) wake w t g) poll ask same cache = absurd (cc)
  look_is_past entries i at run event reply (not_now e) poll ask same cache = absurd (cc)
  look_is_past entries i at run event reply (begins c head expires_in j atj new) poll ask same cache = absurd (cc)
  look_is_past entries i at run event reply (waits c now j atj w t) poll ask same cache = absurd (cc)
  look_is_past entries i at run event reply (pending c now b) poll ask same cache = absurd (cc)
  look_is_past entries i at run event reply (takes_effect c now answer j progress wake l g) poll ask same cache = absurd (cc)
  look_is_past entries i at run event reply (accepts c candidate s) poll ask same cache = absurd (cc)
  look_is_past entries i at run event reply (fails c x j atj s) poll ask same cache = absurd (cc)
  look_is_past entries i at run event reply (cancels c wake l) poll ask same cache = absurd (cc)

module _ {K D : Type 0} (policy : Policy K D) (setup : Setup D) (before between : List (Entry K))
    (call : CallId) (now : ℤ) (i : ℕ) (at : cache_of setup call ≡ Some i) where
  past_look : IsLegalAfter policy setup [] before
      → IsLegalEntry policy setup (committed_entries before) (look_entry call now)
      → IsPastLook policy setup call (sequential_cache policy setup (committed_entries before) i)
      (committed_entries (before ++ look_entry call now ∷ []))
  unfolding IsLegal
  past_look l legal =
      rw (committed_entries-more before (look_entry call now) refl)
      (look_is_past policy setup call (sequential_cache policy setup (committed_entries before) i) (committed_entries before) i at (legal_run policy setup before l) (Poll call now) (Ask 0)
      (legal_entry_step policy setup (committed_entries before) (look_entry call now) refl legal) refl refl refl refl)

  cache_between : IsLegal policy setup (before ++ look_entry call now ∷ between)
      → is_loading (phase_of (committed_entries (before ++ look_entry call now ∷ between)) call) ≡ true
      → sequential_cache policy setup (committed_entries (before ++ look_entry call now ∷ between)) i
      ≡ sequential_cache policy setup (committed_entries before) i
  unfolding IsLegal
  cache_between l h =
      let parts = legal_split committed_entries (IsLegalEntry policy setup) [] before (look_entry call now ∷ between) l in
      let first : IsPastLook policy setup call (sequential_cache policy setup (committed_entries before) i) (committed_entries (before ++ look_entry call now ∷ [])) = past_look parts.0 parts.1.0 in
      let last : IsPastLook policy setup call (sequential_cache policy setup (committed_entries before) i) (committed_entries (before ++ look_entry call now ∷ between)) =
      subst (λ (v : List (Entry K)). IsPastLook policy setup call (sequential_cache policy setup (committed_entries before) i) (committed_entries v)) (append_assoc before (look_entry call now ∷ []) between)
      (after_keeps policy setup (IsPastLook policy setup call (sequential_cache policy setup (committed_entries before) i))
      (λ entries event p. past_step policy setup call (sequential_cache policy setup (committed_entries before) i) entries p event _ (expected_step policy setup entries event) (same_call call (call_of event)) refl)
      (before ++ look_entry call now ∷ []) between first parts.1.1) in
      let there = last.at in
      let same : last.place ≡ i = cc in
      subst (λ n. sequential_cache policy setup (committed_entries (before ++ look_entry call now ∷ between)) n ≡ sequential_cache policy setup (committed_entries before) i) same (last.cache h)

-- the cache of a cancelled load is what it was before the call's look
pub cancelled_load_leaves_the_cache : (K D : Type 0) → CancelledLoadLeavesTheCache K D
cancelled_load_leaves_the_cache K D policy setup before between call now wake i l at h =
    let cancel : Entry K = cancel_entry call wake in
    let look : Entry K = look_entry call now in
    let split : (before ++ look ∷ between) ++ cancel ∷ [] ≡ before ++ look ∷ (between ++ cancel ∷ []) = append_assoc before (look ∷ between) (cancel ∷ []) in
    let whole : IsLegal policy setup ((before ++ look ∷ between) ++ cancel ∷ []) = subst (λ v. IsLegal policy setup v) (sym split) l in
    ap (λ v. sequential_cache policy setup (committed_entries v) i) (sym split)
    ∙ cancel_changes_no_cache K D policy setup (before ++ look ∷ between) call wake whole i
    ∙ cache_between policy setup before between call now i at (legal_before policy setup (before ++ look ∷ between) cancel whole) h
