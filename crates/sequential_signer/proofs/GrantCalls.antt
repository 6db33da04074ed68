-- What holds of each call of a granter after a run: a transcript in which each reply is the expected one.
use Rattle.std.proofs.Common.{◌≡◌, ℕ, ℤ, Bool, true, false, ◌||◌, List, [], ◌∷◌, ◌++◌, Option, Some, None, option_map, is_some, length, refl, sym, ◌∙◌, ap, subst}
use Rattle.std.specs.List.{list_any}
use Rattle.std.specs.Duration.{as_nanos}
use Rattle.std.specs.declared.time.Duration.{Duration}
use Rattle.sign_base.specs.declared.call_id.CallId.{CallId}
use Rattle.sign_base.specs.Calls.{same_call}
use Rattle.sequential_signer.specs.Policy.{Policy}
use Rattle.sequential_signer.specs.Setup.{Setup}
use Rattle.sequential_signer.specs.Transcript.{entries_of}
use Rattle.sequential_signer.specs.Phase.{Phase, Unknown, Unpolled, Queued, Loading, Signing, Ended, phase_in, phase_of, is_begun, is_live, is_waiting, is_waiting_poll, is_new_number}
use Rattle.sequential_signer.specs.Hold.{BeginInput, begin_in, begin_of, answers_in, answers_of}
use Rattle.sequential_signer.specs.LiveCall.{live_call, live_by}
use Rattle.sequential_signer.specs.GrantTranscript.{no_head, as_reply, as_signer, grant_call_of, grant_phase_of}
use Rattle.sequential_signer.specs.LawsOfGrants.{grant_entry}
use Rattle.sequential_signer.specs.declared.grant_event.GrantEntry.{GrantEntry}
use Rattle.sequential_signer.specs.declared.grant_event.GrantEvent.{GrantEvent}
use Rattle.sequential_signer.specs.declared.grant_event.GrantEvent.TheVariants.{Begin, Poll}
use Rattle.sequential_signer.specs.declared.grant_event.GrantReply.{GrantReply}
use Rattle.sequential_signer.specs.declared.grant_event.GrantReply.TheVariants.{Begun, Pending, NotNow, OutOfMemory, Ask, Grant, Refused, Given, Cancelled}
use Rattle.sign_base.proofs.Calls.{same_call-eq, same_call-refl}
use Rattle.sequential_signer.proofs.Lists.{false_by}
use Rattle.sequential_signer.proofs.LegalStep.{is_busy}
use Rattle.sequential_signer.proofs.NewNumbers.{new_is_unbegun}
use Rattle.sequential_signer.proofs.GrantEntries.{grant_waited-own, grant_entries-other, grant_phase-other, grant_begin-other, grant_answers-other, grant_begin-own, grant_answers-own_none, phase_after-ask, phase_after-grant, phase_after-refused, phase_after-given, phase_after-cancelled, phase_after-begun, begin_after-begun, phase_after-not_now, begin_after-not_now, answers_after-not_now, waited_after-not_now, phase_after-pending, live_grant, unbegun_grant-not_live}
use Rattle.sequential_signer.proofs.GrantSteps.{IsGrantRun, start, more, goes_on, GrantStep, misfits, begins, waits, takes_on, expected_is_step}

module _ {K : Type 0} (entries : List (GrantEntry K)) (call : CallId) where
  -- a call that got no reply but `NotNow`
  pub record IsBlankGrant : Type 0 where
    pub begin : begin_of (as_signer entries) call ≡ None
    pub answers : answers_of (as_signer entries) call ≡ []
    pub waited : list_any is_waiting_poll (entries_of (as_signer entries) call) ≡ false

  -- a begun call that was not polled
  pub record IsUnpolledGrant : Type 0 where
    pub begun : is_some (begin_of (as_signer entries) call) ≡ true
    pub answers : answers_of (as_signer entries) call ≡ []
    pub waited : list_any is_waiting_poll (entries_of (as_signer entries) call) ≡ false

  -- how a granter's call stands, by its phase; none is queued
  pub data GrantCallInvariant : Phase → Type 0 where
    unknown_grant : IsBlankGrant → GrantCallInvariant Unknown
    unpolled_grant : IsUnpolledGrant → GrantCallInvariant Unpolled
    loading_grant : is_some (begin_of (as_signer entries) call) ≡ true → GrantCallInvariant Loading
    signing_grant : is_some (begin_of (as_signer entries) call) ≡ true → GrantCallInvariant Signing
    ended_grant : is_some (begin_of (as_signer entries) call) ≡ true → GrantCallInvariant Ended

module _ {K : Type 0} where
  -- a live call was begun
  pub live_grant_begun : (entries : List (GrantEntry K)) (call : CallId) (p : Phase) → is_live p ≡ true
      → GrantCallInvariant entries call p → is_some (begin_of (as_signer entries) call) ≡ true
  live_grant_begun entries call Unpolled l (unpolled_grant u) = u.begun
  live_grant_begun entries call Loading l (loading_grant b) = b
  live_grant_begun entries call Signing l (signing_grant b) = b
  live_grant_begun entries call Unknown l s = absurd (cc)
  live_grant_begun entries call Ended l s = absurd (cc)
  live_grant_begun entries call Queued l s = elim s [ ]

  -- a call that waits was not polled
  pub waiting_grant_unpolled : (entries : List (GrantEntry K)) (call : CallId) (p : Phase)
      → is_waiting p ≡ true → GrantCallInvariant entries call p → p ≡ Unpolled
  waiting_grant_unpolled entries call Unpolled w s = refl
  waiting_grant_unpolled entries call Queued w s = elim s [ ]
  waiting_grant_unpolled entries call Unknown w s = absurd (cc)
  waiting_grant_unpolled entries call Loading w s = absurd (cc)
  waiting_grant_unpolled entries call Signing w s = absurd (cc)
  waiting_grant_unpolled entries call Ended w s = absurd (cc)

  -- a call that was never begun got no reply but `NotNow`
  pub unbegun_grant_blank : (entries : List (GrantEntry K)) (call : CallId) (p : Phase)
      → begin_of (as_signer entries) call ≡ None → GrantCallInvariant entries call p
      → IsBlankGrant entries call
  unbegun_grant_blank entries call Unknown n (unknown_grant b) = b
  unbegun_grant_blank entries call Unpolled n (unpolled_grant u) = let h = u.begun in absurd (cc)
  unbegun_grant_blank entries call Loading n (loading_grant h) = absurd (cc)
  unbegun_grant_blank entries call Signing n (signing_grant h) = absurd (cc)
  unbegun_grant_blank entries call Ended n (ended_grant h) = absurd (cc)
  unbegun_grant_blank entries call Queued n s = elim s [ ]

  -- so of a call with a new number
  unbegun_by : (entries : List (GrantEntry K)) (call : CallId) → is_new_number (as_signer entries) call ≡ true
      → begin_of (as_signer entries) call ≡ None
  unfolding begin_in
  unbegun_by entries call new = rw (new_is_unbegun call (as_signer entries) new) refl

  pub new_grant_blank : (entries : List (GrantEntry K)) (call : CallId)
      → is_new_number (as_signer entries) call ≡ true
      → GrantCallInvariant entries call (grant_phase_of entries call) → IsBlankGrant entries call
  new_grant_blank entries call new s = unbegun_grant_blank entries call (grant_phase_of entries call) (unbegun_by entries call new) s

  module _ (entries : List (GrantEntry K)) where
    not_now_stands : (event : GrantEvent K) (p : Phase) → GrantCallInvariant entries (grant_call_of event) p
        → GrantCallInvariant (entries ++ grant_entry event NotNow ∷ []) (grant_call_of event) p
    not_now_stands event p s = by_phase p s
      where
        own : same_call (grant_call_of event) (grant_call_of event) ≡ true
        own = same_call-refl (grant_call_of event)

        begun : is_some (begin_of (as_signer entries) (grant_call_of event)) ≡ true
            → is_some (begin_of (as_signer (entries ++ grant_entry event NotNow ∷ [])) (grant_call_of event))
            ≡ true
        begun h = ap is_some (begin_after-not_now entries event (grant_call_of event) own) ∙ h

        by_phase : (p : Phase) → GrantCallInvariant entries (grant_call_of event) p
            → GrantCallInvariant (entries ++ grant_entry event NotNow ∷ []) (grant_call_of event) p
        by_phase Unknown (unknown_grant b) = unknown_grant (record {
          begin = begin_after-not_now entries event (grant_call_of event) own ∙ b.begin;
          answers = answers_after-not_now entries event (grant_call_of event) own ∙ b.answers;
          waited = waited_after-not_now entries event (grant_call_of event) own ∙ b.waited;
        })
        by_phase Unpolled (unpolled_grant u) = unpolled_grant (record {
          begun = begun u.begun;
          answers = answers_after-not_now entries event (grant_call_of event) own ∙ u.answers;
          waited = waited_after-not_now entries event (grant_call_of event) own ∙ u.waited;
        })
        by_phase Loading (loading_grant h) = loading_grant (begun h)
        by_phase Signing (signing_grant h) = signing_grant (begun h)
        by_phase Ended (ended_grant h) = ended_grant (begun h)
        by_phase Queued s = elim s [ ]

    -- a begin of a new number leaves its call unpolled
    begins_stands : (call : CallId) (expires_in : Option Duration)
        → is_new_number (as_signer entries) call ≡ true → IsBlankGrant entries call
        → GrantCallInvariant (entries ++ grant_entry (Begin call expires_in) Begun ∷ []) call
        (grant_phase_of (entries ++ grant_entry (Begin call expires_in) Begun ∷ []) call)
    begins_stands call expires_in new blank =
        let e : GrantEntry K = grant_entry (Begin call expires_in) Begun in
        let own : same_call call call ≡ true = same_call-refl call in
        rw (phase_after-begun entries (Begin call expires_in) call own blank.waited)
        (unpolled_grant (record {
          begun = ap is_some (begin_after-begun entries call expires_in new);
          answers = grant_answers-own_none entries e call own refl ∙ blank.answers;
          waited = grant_waited-own entries e call own ∙ ap (λ v. v || false) blank.waited;
        }))

    -- a poll that waits leaves its call as it is
    waits_stands : (call : CallId) (now : ℤ) (p : Phase) → grant_phase_of entries call ≡ p → is_busy p ≡ true
        → GrantCallInvariant entries call p
        → GrantCallInvariant (entries ++ grant_entry (Poll call now) Pending ∷ []) call
        (grant_phase_of (entries ++ grant_entry (Poll call now) Pending ∷ []) call)
    waits_stands call now p h b s = rw (phase_after-pending entries call now (ap is_busy h ∙ b), h) (by_phase p b s)
      where
        begun : is_some (begin_of (as_signer entries) call) ≡ true
            → is_some (begin_of (as_signer (entries ++ grant_entry (Poll call now) Pending ∷ [])) call) ≡ true
        begun k = ap is_some (grant_begin-own entries (grant_entry (Poll call now) Pending) call (same_call-refl call) refl) ∙ k

        by_phase : (p : Phase) → is_busy p ≡ true → GrantCallInvariant entries call p
            → GrantCallInvariant (entries ++ grant_entry (Poll call now) Pending ∷ []) call p
        by_phase Loading b (loading_grant k) = loading_grant (begun k)
        by_phase Signing b (signing_grant k) = signing_grant (begun k)
        by_phase Unknown b s = absurd (cc)
        by_phase Unpolled b s = absurd (cc)
        by_phase Queued b s = absurd (cc)
        by_phase Ended b s = absurd (cc)

    -- a reply that takes its call on leaves it begun
    takes_on_stands : (event : GrantEvent K) (reply : GrantReply K) → goes_on reply ≡ true
        → is_some (begin_of (as_signer entries) (grant_call_of event)) ≡ true
        → GrantCallInvariant (entries ++ grant_entry event reply ∷ []) (grant_call_of event)
        (grant_phase_of (entries ++ grant_entry event reply ∷ []) (grant_call_of event))
    takes_on_stands event reply g b = by_reply reply g
      where
        own : same_call (grant_call_of event) (grant_call_of event) ≡ true
        own = same_call-refl (grant_call_of event)

        begun : (r : GrantReply K) → is_begun (as_reply r) ≡ false
            → is_some (begin_of (as_signer (entries ++ grant_entry event r ∷ [])) (grant_call_of event))
            ≡ true
        begun r h = ap is_some (grant_begin-own entries (grant_entry event r) (grant_call_of event) own h) ∙ b

        by_reply : (r : GrantReply K) → goes_on r ≡ true
            → GrantCallInvariant (entries ++ grant_entry event r ∷ []) (grant_call_of event)
            (grant_phase_of (entries ++ grant_entry event r ∷ []) (grant_call_of event))
        by_reply (Ask provider) h = rw (phase_after-ask entries event (grant_call_of event) own provider) (loading_grant (begun (Ask provider) refl))
        by_reply (Grant source) h = rw (phase_after-grant entries event (grant_call_of event) own source) (signing_grant (begun (Grant source) refl))
        by_reply (Refused cause) h = rw (phase_after-refused entries event (grant_call_of event) own cause) (ended_grant (begun (Refused cause) refl))
        by_reply (Given credential) h = rw (phase_after-given entries event (grant_call_of event) own credential) (ended_grant (begun (Given credential) refl))
        by_reply Cancelled h = rw (phase_after-cancelled entries event (grant_call_of event) own) (ended_grant (begun Cancelled refl))
        by_reply Begun h = absurd (cc)
        by_reply Pending h = absurd (cc)
        by_reply NotNow h = absurd (cc)
        by_reply OutOfMemory h = absurd (cc)

    own_stands : (event : GrantEvent K) (reply : GrantReply K) → GrantStep entries event reply
        → GrantCallInvariant entries (grant_call_of event) (grant_phase_of entries (grant_call_of event))
        → GrantCallInvariant (entries ++ grant_entry event reply ∷ []) (grant_call_of event)
        (grant_phase_of (entries ++ grant_entry event reply ∷ []) (grant_call_of event))
    own_stands event reply (misfits _) s =
        rw (phase_after-not_now entries event (grant_call_of event) (same_call-refl (grant_call_of event))) (not_now_stands event (grant_phase_of entries (grant_call_of event)) s)
    own_stands event reply (begins call expires_in new) s = begins_stands call expires_in new (new_grant_blank entries call new s)
    own_stands event reply (waits call now b) s = waits_stands call now (grant_phase_of entries call) refl b s
    own_stands event reply (takes_on _ _ l g) s = takes_on_stands event reply g (live_grant_begun entries (grant_call_of event) (grant_phase_of entries (grant_call_of event)) l s)

    -- an entry about another call changes nothing
    other_stands : (e : GrantEntry K) (call : CallId) → same_call call (grant_call_of e.event) ≡ false
        → (p : Phase) → GrantCallInvariant entries call p → GrantCallInvariant (entries ++ e ∷ []) call p
    other_stands e call other p s = by_phase p s
      where
        begin : begin_of (as_signer (entries ++ e ∷ [])) call ≡ begin_of (as_signer entries) call
        begin = grant_begin-other entries e call other

        waited : list_any is_waiting_poll (entries_of (as_signer (entries ++ e ∷ [])) call)
            ≡ list_any is_waiting_poll (entries_of (as_signer entries) call)
        waited = ap (list_any is_waiting_poll) (grant_entries-other entries e call other)

        by_phase : (p : Phase) → GrantCallInvariant entries call p
            → GrantCallInvariant (entries ++ e ∷ []) call p
        by_phase Unknown (unknown_grant b) = unknown_grant (record { begin = begin ∙ b.begin; answers = grant_answers-other entries e call other ∙ b.answers; waited = waited ∙ b.waited })
        by_phase Unpolled (unpolled_grant u) = unpolled_grant (record { begun = ap is_some begin ∙ u.begun; answers = grant_answers-other entries e call other ∙ u.answers; waited = waited ∙ u.waited })
        by_phase Loading (loading_grant h) = loading_grant (ap is_some begin ∙ h)
        by_phase Signing (signing_grant h) = signing_grant (ap is_some begin ∙ h)
        by_phase Ended (ended_grant h) = ended_grant (ap is_some begin ∙ h)
        by_phase Queued s = elim s [ ]

    step_stands : (event : GrantEvent K) (reply : GrantReply K) → GrantStep entries event reply
        → (call : CallId) → GrantCallInvariant entries call (grant_phase_of entries call) → (s : Bool)
        → same_call call (grant_call_of event) ≡ s
        → GrantCallInvariant (entries ++ grant_entry event reply ∷ []) call
        (grant_phase_of (entries ++ grant_entry event reply ∷ []) call)
    step_stands event reply step call stood true s =
        let same : grant_call_of event ≡ call = sym (same_call-eq call (grant_call_of event) s) in
        subst (λ c. GrantCallInvariant (entries ++ grant_entry event reply ∷ []) c (grant_phase_of (entries ++ grant_entry event reply ∷ []) c)) same
        (own_stands event reply step (subst (λ c. GrantCallInvariant entries c (grant_phase_of entries c)) (sym same) stood))
    step_stands event reply step call stood false s =
        rw (grant_phase-other entries (grant_entry event reply) call s) (other_stands (grant_entry event reply) call s (grant_phase_of entries call) stood)

  blank_start : (call : CallId) → GrantCallInvariant {K = K} [] call (grant_phase_of {K = K} [] call)
  unfolding phase_of phase_in entries_of begin_in answers_in
  blank_start call = unknown_grant (record { begin = refl; answers = refl; waited = refl })

module _ {K D : Type 0} (policy : Policy K D) (setup : Setup D) where
  -- after a run each call stands as its phase says
  pub grant_stands : (entries : List (GrantEntry K)) → IsGrantRun policy setup entries → (call : CallId)
      → GrantCallInvariant entries call (grant_phase_of entries call)
  grant_stands _ start call = blank_start call
  grant_stands _ (more entries event reply run expected) call = step_stands entries event reply (expected_is_step policy setup entries event reply expected) call (grant_stands entries run call) (same_call call (grant_call_of event)) refl

  module _ (entries : List (GrantEntry K)) (run : IsGrantRun policy setup entries) (call : CallId) where
    -- so a call that is live was begun, one that waits was not polled, and one with a new number got no reply
    -- but `NotNow`
    pub run_grant_begun : is_live (grant_phase_of entries call) ≡ true
        → is_some (begin_of (as_signer entries) call) ≡ true
    run_grant_begun l = live_grant_begun entries call (grant_phase_of entries call) l (grant_stands entries run call)

    pub run_grant_unpolled : is_waiting (grant_phase_of entries call) ≡ true
        → grant_phase_of entries call ≡ Unpolled
    run_grant_unpolled w = waiting_grant_unpolled entries call (grant_phase_of entries call) w (grant_stands entries run call)

    pub run_grant_blank : is_new_number (as_signer entries) call ≡ true → IsBlankGrant entries call
    run_grant_blank new = new_grant_blank entries call new (grant_stands entries run call)

    -- a begin that is accepted makes a live call that was not polled
    pub live_after-begun : (expires_in : Option Duration) → is_new_number (as_signer entries) call ≡ true
        → live_call (as_signer (entries ++ grant_entry (Begin call expires_in) Begun ∷ [])) call
        ≡ Some
        (record { phase = Unpolled; begin = record { head = no_head; duration = option_map as_nanos expires_in }; answers = 0 })
    live_after-begun expires_in new =
        let own : same_call call call ≡ true = same_call-refl call in
        let blank : IsBlankGrant entries call = run_grant_blank new in
        live_grant (entries ++ grant_entry (Begin call expires_in) Begun ∷ []) call Unpolled 0 (record { head = no_head; duration = option_map as_nanos expires_in })
        (phase_after-begun entries (Begin call expires_in) call own blank.waited)
        (ap length (grant_answers-own_none entries (grant_entry (Begin call expires_in) Begun) call own refl ∙ blank.answers))
        (begin_after-begun entries call expires_in new)

    -- before it the call was not live
    pub new_grant-not_live : is_new_number (as_signer entries) call ≡ true
        → live_call (as_signer entries) call ≡ None
    new_grant-not_live new = unbegun_grant-not_live entries call (run_grant_blank new).begin

    live_by_phase : (p : Phase) (n : ℕ) (o : Option BeginInput) → is_live p ≡ true → is_some o ≡ true
        → is_some (live_by p n o) ≡ true
    live_by_phase p n None l s = absurd (cc)
    live_by_phase Unpolled n (Some begin) l s = refl
    live_by_phase Queued n (Some begin) l s = refl
    live_by_phase Loading n (Some begin) l s = refl
    live_by_phase Signing n (Some begin) l s = refl
    live_by_phase Unknown n (Some begin) l s = absurd (cc)
    live_by_phase Ended n (Some begin) l s = absurd (cc)

    -- a call of which the transcript says nothing is in no live phase
    pub not_live_grant : live_call (as_signer entries) call ≡ None
        → is_live (grant_phase_of entries call) ≡ false
    not_live_grant h =
        false_by (is_live (grant_phase_of entries call))
        (λ l. let some : is_some (live_call (as_signer entries) call) ≡ true = live_by_phase (grant_phase_of entries call) (length (answers_of (as_signer entries) call)) (begin_of (as_signer entries) call) l (run_grant_begun l) in cc)
