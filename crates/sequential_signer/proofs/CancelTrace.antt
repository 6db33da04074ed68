-- A call that is cancelled before its hold finished leaves no trace: without the providers' answers to it the
-- transcript
-- is legal too, and every cache is the same.
use Rattle.std.proofs.Common.{◌≡◌, ℕ, Bool, true, false, not, ◌&&◌, ◌||◌, List, [], ◌∷◌, ◌++◌, refl, sym, ◌∙◌, ap, subst, filter, find}
use Rattle.std.specs.List.{list_any}
use Rattle.std.proofs.lemmas.List.{append-nil, append_assoc}
use Rattle.std.proofs.lemmas.List.Folds.{list_any-append}
use Rattle.std.proofs.lemmas.List.Elements.{filter-append}
use Rattle.sign_base.specs.declared.call_id.CallId.{CallId}
use Rattle.sequential_signer.specs.Lookup.{HandOut, Refuse}
use Rattle.sequential_signer.specs.Policy.{Policy}
use Rattle.sequential_signer.specs.SequentialCall.{Asking, Over}
use Rattle.sequential_signer.specs.Setup.{Setup}
use Rattle.sign_base.specs.Calls.{same_call}
use Rattle.sequential_signer.specs.Transcript.{call_of, is_about, entries_of, committed_entries, is_out_of_memory}
use Rattle.sequential_signer.specs.Phase.{Phase, Unknown, Unpolled, Queued, Loading, Signing, Ended, phase_of, phase_in, is_loading}
use Rattle.sequential_signer.specs.Turn.{poll_order, has_turn, is_served, serves}
use Rattle.sequential_signer.specs.SequentialCache.{sequential_cache}
use Rattle.sequential_signer.specs.Wake.{gets_turn, call_to_wake}
use Rattle.sequential_signer.specs.Legal.{IsLegal, IsLegalAfter, IsLegalEntry}
use Rattle.sequential_signer.specs.LawsOfCancel.{is_answer, without_answers, SameCaches, CancelledLoadLeavesNoTrace, CancelChangesNoCache}
use Rattle.sequential_signer.specs.declared.event.Entry.{Entry}
use Rattle.sequential_signer.specs.declared.event.Event.{Event}
use Rattle.sequential_signer.specs.declared.event.Event.TheVariants.{Cancel}
use Rattle.sequential_signer.specs.declared.event.Reply.{Reply}
use Rattle.sequential_signer.specs.declared.event.Reply.TheVariants.{Cancelled}
use Rattle.sequential_signer.proofs.Lists.{or_true, filter-more_yes, filter-more_no, list_all-more, not_false, filter-swap, find-same}
use Rattle.sign_base.proofs.Calls.{same_call-eq, same_call-comm}
use Rattle.sign_base.proofs.Truth.{and_left, and_right, or_left}
use Rattle.sequential_signer.proofs.OwnEntries.{entries_of-own, entries_of-other, phase_in-alike}
use Rattle.sequential_signer.proofs.PollOrder.{is_served-own, is_served-other}
use Rattle.sequential_signer.proofs.LegalStep.{LegalStep, not_now, begins, waits, pending, looks, takes_effect, accepts, fails, cancels}
use Rattle.sequential_signer.proofs.Run.{IsRun, start, more, legal_run, legal-more, committed_entries-more}
use Rattle.sequential_signer.proofs.CallInvariant.{phase-other, phase-own_mark, refused_phase}
use Rattle.sequential_signer.proofs.ExpectedReplies.{legal_before}
use Rattle.sequential_signer.proofs.CacheRows.{stays_other}
use Rattle.sequential_signer.proofs.SameReplies.{ReadsSame, IsLegalEntry-same}
use Rattle.sequential_signer.proofs.LeftOut.{is_left_in, is_harmless, AreHarmless, is_quiet, waited-left_out, is_new_number-left_out, begin_of-left_out, poll_order-left_out, has_turn-left_out, turn_moment-left_out, answers_of-left_out, sequential_cache-left_out}

-- a call that loads is in the phase `Loading`
pub loading_is : (p : Phase) → is_loading p ≡ true → p ≡ Loading
loading_is Loading h = refl
loading_is Unknown h = cc
loading_is Unpolled h = cc
loading_is Queued h = cc
loading_is Signing h = cc
loading_is Ended h = cc

module _ {K D : Type 0} (policy : Policy K D) (setup : Setup D) (call : CallId) where
  -- a call that is not served after an entry was not served before it
  unserved_before : (entries : List (Entry K)) (e : Entry K) → is_served (entries ++ e ∷ []) call ≡ false
      → is_served entries call ≡ false
  unserved_before entries e u = by_name (same_call call (call_of e.event)) refl
    where
      by_name : (s : Bool) → same_call call (call_of e.event) ≡ s → is_served entries call ≡ false
      by_name true s = or_left (is_served entries call) (serves e.reply) (sym (is_served-own setup entries e call s) ∙ u)
      by_name false s = sym (is_served-other setup entries e call s) ∙ u

  -- and is not served by it
  not_served_by : (entries : List (Entry K)) (e : Entry K) → is_served (entries ++ e ∷ []) call ≡ false
      → is_about call e ≡ true → serves e.reply ≡ true → ⊥
  not_served_by entries e u own s =
      let served : is_served (entries ++ e ∷ []) call ≡ true = is_served-own setup entries e call own ∙ ap (λ v. is_served entries call || v) s ∙ or_true _ in cc

  -- an answer to the call that does not serve it is quiet, and leaves its phase
  record LeavesPhase (entries : List (Entry K)) (e : Entry K) : Type 0 where
    pub quiet : is_quiet e.reply ≡ true
    pub phase : phase_of (entries ++ e ∷ []) call ≡ phase_of entries call

  answer_leaves : (entries : List (Entry K)) (event : Event K) (reply : Reply K)
      → LegalStep policy setup entries event reply
      → is_served (entries ++ record { event = event; reply = reply } ∷ []) call ≡ false
      → is_about call (record { event = event; reply = reply }) ≡ true → is_answer event ≡ true
      → LeavesPhase entries (record { event = event; reply = reply })
  answer_leaves entries event reply (not_now e) u own a = record { quiet = refl; phase = refused_phase setup entries 0 e call own }
  answer_leaves entries event reply (takes_effect c now answer j (Asking k) wake l g) u own a =
      let same : call ≡ c = same_call-eq call c own in
      record {
        quiet = refl;
        phase =
            phase-own_mark setup entries 0 (record { event = event; reply = reply }) call own refl
            ∙ sym (loading_is (phase_of entries call) (ap (λ x. is_loading (phase_of entries x)) same ∙ l));
      }
  answer_leaves entries event reply (takes_effect c now answer j (Over (HandOut k) left) wake l g) u own a = absurd (not_served_by entries (record { event = event; reply = reply }) u own refl)
  answer_leaves entries event reply (takes_effect c now answer j (Over (Refuse cause) left) wake l g) u own a = absurd (not_served_by entries (record { event = event; reply = reply }) u own refl)
  answer_leaves entries event reply (begins c head expires_in i at new) u own a = absurd (cc)
  answer_leaves entries event reply (waits c now i at w t) u own a = absurd (cc)
  answer_leaves entries event reply (pending c now b) u own a = absurd (cc)
  answer_leaves entries event reply (looks c now i progress wake w t g) u own a = absurd (cc)
  answer_leaves entries event reply (accepts c candidate s) u own a = absurd (cc)
  answer_leaves entries event reply (fails c x i at s) u own a = absurd (cc)
  answer_leaves entries event reply (cancels c wake l) u own a = absurd (cc)

  -- a run in which the call is not served
  pub record IsUnserved (entries : List (Entry K)) : Type 0 where
    pub harmless : AreHarmless call entries
    pub phase : (b : CallId) → phase_of (without_answers call entries) b ≡ phase_of entries b

  module _ (entries : List (Entry K)) (e : Entry K) where
    without-left : is_left_in call e ≡ false
        → without_answers call (entries ++ e ∷ []) ≡ without_answers call entries
    without-left s = filter-more_no (is_left_in call) entries e s

    without-stays : is_left_in call e ≡ true
        → without_answers call (entries ++ e ∷ []) ≡ without_answers call entries ++ e ∷ []
    without-stays s = filter-more_yes (is_left_in call) entries e s

    -- an entry that is left in keeps each call's phase the same in both
    phase_stays : IsUnserved entries → is_left_in call e ≡ true → (b : CallId)
        → phase_of (without_answers call (entries ++ e ∷ [])) b ≡ phase_of (entries ++ e ∷ []) b
    unfolding phase_of
    phase_stays u s b = ap (λ v. phase_of v b) (without-stays s) ∙ by_name (same_call b (call_of e.event)) refl
      where
        by_name : (o : Bool) → same_call b (call_of e.event) ≡ o
            → phase_of (without_answers call entries ++ e ∷ []) b ≡ phase_of (entries ++ e ∷ []) b
        by_name true o =
            ap phase_in (entries_of-own (without_answers call entries) b e o)
            ∙ phase_in-alike (entries_of (without_answers call entries) b) (entries_of entries b) e (u.phase b) (waited-left_out call entries u.harmless b)
            ∙ sym (ap phase_in (entries_of-own entries b e o))
        by_name false o =
            ap phase_in (entries_of-other (without_answers call entries) b e o)
            ∙ u.phase b
            ∙ sym (ap phase_in (entries_of-other entries b e o))

  unserved_step : (entries : List (Entry K)) (event : Event K) (reply : Reply K)
      → LegalStep policy setup entries event reply
      → is_served (entries ++ record { event = event; reply = reply } ∷ []) call ≡ false → IsUnserved entries
      → (s : Bool) → is_left_in call (record { event = event; reply = reply }) ≡ s
      → IsUnserved (entries ++ record { event = event; reply = reply } ∷ [])
  unserved_step entries event reply step u before true s = record {
    harmless = list_all-more (is_harmless call) entries (record { event = event; reply = reply }) ∙ rw (before.harmless, s) refl;
    phase = λ b. phase_stays entries (record { event = event; reply = reply }) before s b;
  }
  unserved_step entries event reply step u before false s =
      let e : Entry K = record { event = event; reply = reply } in
      let own : is_about call (record { event = event; reply = reply }) ≡ true = and_left (is_about call e) (is_answer event) (not_false _ s) in
      let answers : is_answer event ≡ true = and_right (is_about call e) (is_answer event) (not_false _ s) in
      let left : LeavesPhase entries (record { event = event; reply = reply }) = answer_leaves entries event reply step u own answers in
      let quiet : is_quiet reply ≡ true = left.quiet in
      record {
        harmless = list_all-more (is_harmless call) entries (record { event = event; reply = reply }) ∙ rw (before.harmless, s, quiet) refl;
        phase = λ b.
            ap (λ v. phase_of v b) (without-left entries (record { event = event; reply = reply }) s)
            ∙ before.phase b
            ∙ phase_left b (same_call b call) refl left.phase;
      }
    where
      phase_left : (b : CallId) → (o : Bool) → same_call b call ≡ o
          → phase_of (entries ++ record { event = event; reply = reply } ∷ []) call ≡ phase_of entries call
          → phase_of entries b ≡ phase_of (entries ++ record { event = event; reply = reply } ∷ []) b
      phase_left b true o p = let same : b ≡ call = same_call-eq b call o in subst (λ c. phase_of entries c ≡ phase_of (entries ++ record { event = event; reply = reply } ∷ []) c) (sym same) (sym p)
      phase_left b false o p =
          let own : is_about call (record { event = event; reply = reply }) ≡ true = and_left (is_about call (record { event = event; reply = reply })) (is_answer event) (not_false _ s) in
          let differ : same_call b (call_of event) ≡ false = ap (same_call b) (sym (same_call-eq call (call_of event) own)) ∙ o in
          sym (phase-other setup entries 0 (record { event = event; reply = reply }) b differ)

  start_unserved : IsUnserved []
  start_unserved = record { harmless = refl; phase = λ b. refl }

  -- in a run that does not serve the call, the answers to it can be left out
  unserved_run : (entries : List (Entry K)) → IsRun policy setup entries → is_served entries call ≡ false
      → IsUnserved entries
  unserved_run _ start u = start_unserved
  unserved_run _ (more entries event reply run step) u =
      unserved_step entries event reply step u (unserved_run entries run (unserved_before entries (record { event = event; reply = reply }) u)) (is_left_in call (record { event = event; reply = reply })) refl

-- the expected reply to an event that is left in is the same in both
module _ {K D : Type 0} (policy : Policy K D) (setup : Setup D) (call : CallId) (entries : List (Entry K))
    (u : IsUnserved policy setup call entries) (unserved : is_served entries call ≡ false) where
  module _ (i : ℕ) (e : Entry K) (s : is_left_in call e ≡ true) where
    gets_alike : (b : CallId)
        → gets_turn setup (without_answers call entries) i e b ≡ gets_turn setup entries i e b
    gets_alike b =
        let longer : AreHarmless call (entries ++ e ∷ []) = list_all-more (is_harmless call) entries e ∙ rw (u.harmless, s) refl in
        let after : has_turn setup (without_answers call entries ++ e ∷ []) i b ≡ has_turn setup (entries ++ e ∷ []) i b =
        ap (λ v. has_turn setup v i b) (sym (without-stays policy setup call entries e s)) ∙ has_turn-left_out setup call (entries ++ e ∷ []) longer i b in
        rw (u.phase b, after, has_turn-left_out setup call entries u.harmless i b) refl

    wake_alike : call_to_wake setup (without_answers call entries) i e ≡ call_to_wake setup entries i e
    unfolding call_to_wake
    wake_alike =
        ap (find (gets_turn setup (without_answers call entries) i e)) (poll_order-left_out setup call entries i)
        ∙ find-same (gets_turn setup (without_answers call entries) i e) (gets_turn setup entries i e) gets_alike (poll_order setup entries i)

  reads_alike : (e : Entry K) → is_left_in call e ≡ true
      → ReadsSame policy setup (without_answers call entries) entries e.event
  reads_alike e s = record {
    phase = u.phase (call_of e.event);
    new = is_new_number-left_out call entries u.harmless (call_of e.event);
    begin = begin_of-left_out call entries u.harmless (call_of e.event);
    answers = λ h. answers_of-left_out setup call entries (call_of e.event) (same_call-comm (call_of e.event) call ∙ not_both (same_call call (call_of e.event)) (is_answer e.event) h s);
    turn = λ i _. has_turn-left_out setup call entries u.harmless i (call_of e.event);
    moment = λ i _. turn_moment-left_out setup call entries u.harmless i (call_of e.event);
    cache = λ i _. sequential_cache-left_out setup call policy entries u.harmless unserved i;
    wake = λ i _ r. wake_alike i (record { event = e.event; reply = r }) s;
  }
    where
      not_both : (b c : Bool) → c ≡ true → not (b && c) ≡ true → b ≡ false
      not_both false c h k = refl
      not_both true true h k = cc
      not_both true false h k = cc

  legal_alike : (e : Entry K) → is_left_in call e ≡ true → IsLegalEntry policy setup entries e
      → IsLegalEntry policy setup (without_answers call entries) e
  legal_alike e s legal = IsLegalEntry-same policy setup (without_answers call entries) entries e (reads_alike e s) legal

-- the committed entries without the answers are the committed entries of the transcript without them
committed_entries-without : {K : Type 0} (call : CallId) (entries : List (Entry K))
    → committed_entries (without_answers call entries) ≡ without_answers call (committed_entries entries)
unfolding committed_entries
committed_entries-without {K = K} call entries = filter-swap (λ (e : Entry K). not (is_out_of_memory e.reply)) (is_left_in call) entries

committed_entries-append : {K : Type 0} (xs ys : List (Entry K))
    → committed_entries (xs ++ ys) ≡ committed_entries xs ++ committed_entries ys
unfolding committed_entries
committed_entries-append {K = K} xs ys = filter-append (λ (e : Entry K). not (is_out_of_memory e.reply)) xs ys

unserved_first : {K : Type 0} (xs ys : List (Entry K)) (call : CallId) → is_served (xs ++ ys) call ≡ false
    → is_served xs call ≡ false
unfolding is_served entries_of
unserved_first {K = K} xs ys call h =
    or_left (list_any (λ (e : Entry K). serves e.reply) (filter (is_about call) xs)) (list_any (λ (e : Entry K). serves e.reply) (filter (is_about call) ys))
    (sym (ap (list_any (λ (e : Entry K). serves e.reply)) (filter-append (is_about call) xs ys) ∙ list_any-append (λ (e : Entry K). serves e.reply) (filter (is_about call) xs) (filter (is_about call) ys)) ∙ h)

module _ {K D : Type 0} (policy : Policy K D) (setup : Setup D) (call : CallId) where
  legal_without_step : (before : List (Entry K)) (e : Entry K) → IsLegal policy setup before
      → is_served (committed_entries before) call ≡ false → IsLegal policy setup (without_answers call before)
      → IsLegalEntry policy setup (committed_entries before) e → (s : Bool) → is_left_in call e ≡ s
      → IsLegal policy setup (without_answers call (before ++ e ∷ []))
  legal_without_step before e l u w legal true s =
      let run : IsRun policy setup (committed_entries before) = legal_run policy setup before l in
      let alike : IsLegalEntry policy setup (without_answers call (committed_entries before)) e = legal_alike policy setup call (committed_entries before) (unserved_run policy setup call (committed_entries before) run u) u e s legal in
      subst (λ v. IsLegal policy setup v) (sym (without-stays policy setup call before e s))
      (legal-more policy setup (without_answers call before) e w (subst (λ v. IsLegalEntry policy setup v e) (sym (committed_entries-without call before)) alike))
  legal_without_step before e l u w legal false s = subst (λ v. IsLegal policy setup v) (sym (without-left policy setup call before e s)) w

  legal_without_after : (before rest : List (Entry K)) → IsLegal policy setup before
      → IsLegal policy setup (without_answers call before)
      → is_served (committed_entries (before ++ rest)) call ≡ false → IsLegalAfter policy setup before rest
      → IsLegal policy setup (without_answers call (before ++ rest))
  legal_without_after before [] l w u after = subst (λ v. IsLegal policy setup (without_answers call v)) (sym (append-nil before)) w
  legal_without_after before (e ∷ rest) l w u after =
      let first : is_served (committed_entries before) call ≡ false = unserved_first (committed_entries before) (committed_entries (e ∷ rest)) call (ap (λ v. is_served v call) (sym (committed_entries-append before (e ∷ rest))) ∙ u) in
      let longer : IsLegal policy setup (before ++ e ∷ []) = legal-more policy setup before e l after.0 in
      let later : is_served (committed_entries ((before ++ e ∷ []) ++ rest)) call ≡ false = ap (λ v. is_served (committed_entries v) call) (append_assoc before (e ∷ []) rest) ∙ u in
      subst (λ v. IsLegal policy setup (without_answers call v)) (append_assoc before (e ∷ []) rest)
      (legal_without_after (before ++ e ∷ []) rest longer (legal_without_step before e l first w after.0 (is_left_in call e) refl) later after.1)

  legal_without : (entries : List (Entry K)) → IsLegal policy setup entries
      → is_served (committed_entries entries) call ≡ false
      → IsLegal policy setup (without_answers call entries)
  unfolding IsLegal
  legal_without entries l u = legal_without_after [] entries tt tt u l

  caches_without : (entries : List (Entry K)) → IsLegal policy setup entries
      → is_served (committed_entries entries) call ≡ false
      → SameCaches policy setup (without_answers call entries) entries
  caches_without entries l u i =
      let run : IsRun policy setup (committed_entries entries) = legal_run policy setup entries l in
      ap (λ v. sequential_cache policy setup v i) (committed_entries-without call entries)
      ∙ sequential_cache-left_out setup call policy (committed_entries entries) (unserved_run policy setup call (committed_entries entries) run u).harmless u i

-- the providers' answers to a call that was cancelled can be left out
pub cancelled_load_leaves_no_trace : (K D : Type 0) → CancelledLoadLeavesNoTrace K D
cancelled_load_leaves_no_trace K D policy setup entries call l f u = (legal_without policy setup call entries l u, caches_without policy setup call entries l u)

-- a cancel changes no cache
pub cancel_changes_no_cache : (K D : Type 0) → CancelChangesNoCache K D
cancel_changes_no_cache K D policy setup before call wake l i =
    let e : Entry K = record { event = Cancel call; reply = Cancelled wake } in
    ap (λ v. sequential_cache policy setup v i) (committed_entries-more before e refl)
    ∙ stays_other policy setup (committed_entries before) (legal_run policy setup before (legal_before policy setup before e l)) e refl refl i
