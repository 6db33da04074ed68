-- What the steps of a call that a signer drives do to the call, and that they leave the others.
use Rattle.std.specs.Duration.{as_nanos}
use Rattle.std.proofs.Common.{◌≡◌, ◌⊎◌, inl, inr, ℕ, ℤ, ◌<◌, ◌+◌, true, false, Bool, Option, Some, None}
use Rattle.std.proofs.Common.{IsSome, is_some, IfSome, option_map, slice_get, refl, sym, ◌∙◌, ap, subst}
use Rattle.sign_base.specs.declared.head.Head.{Head}
use Rattle.sign_base.specs.declared.call_id.CallId.{CallId}
use Rattle.sequential_signer.specs.Policy.{Policy}
use Rattle.sequential_signer.specs.Setup.{Handle}
use Rattle.sequential_signer.specs.Lookup.{HandOut, Refuse, check_refreshed}
use Rattle.sequential_signer.specs.SequentialCall.{Progress, Asking, Over, sequential_call, found_progress}
use Rattle.sequential_signer.specs.declared.event.Answer.TheVariants.{Found, Missing, Failed}
use Rattle.sequential_signer.specs.declared.event.Event.TheVariants.{Poll, Provided, Signed, Cancel}
use Rattle.sequential_signer.specs.declared.event.Loader.{Loader}
use Rattle.sequential_signer.specs.declared.event.Reply.{Reply}
use Rattle.sequential_signer.specs.declared.event.Reply.TheVariants.{Refused, Cancelled}
use Rattle.sequential_signer.specs.declared.event.Verdict.TheVariants as verdict
use Rattle.sequential_signer.specs.declared.event.Why.{Why}
use Rattle.sequential_signer.specs.declared.event.Why.TheVariants as why
use Rattle.desk_parts.specs.Queue.{queue_at, is_held_queue}
use Rattle.sign_base.specs.Calls.{is_first}
use Rattle.sign_desk.specs.DeskState.{DeskState}
use Rattle.desk_parts.specs.Tables.{find_call}
use Rattle.desk_parts.specs.LiveCallView.{stored_view, find_view}
use Rattle.sign_desk.specs.StepPrecondition.{StepPrecondition}
use Rattle.desk_parts.specs.Places.{HasPlaces, provider_count}
use Rattle.sign_desk.specs.Action.{Action, Performs}
use Rattle.sign_desk.specs.HoldAction.{Hold, first_hold, waited_hold, loading_hold, hold_action}
use Rattle.desk_parts.specs.HoldProgress.{desk_lookup, desk_load, next_load, desk_look_input, with_answer}
use Rattle.sign_desk.specs.Transition.{Transition, poll_action, first_poll_action, later_poll_action}
use Rattle.sign_desk.specs.Transition.{load_action, provided_action, signed_action, accept_action}
use Rattle.sign_desk.specs.Transition.{cancel_action, live_action}
use Rattle.desk_driver.specs.CallAt.{record_of, IsAt, IsWaiting, IsSigning, IsAsking}
use Rattle.signer.specs.DeskReplies.{AfterPoll, AfterFound, AfterNone, AfterAccepted}
use Rattle.sign_desk.specs.Records.{CallRecord}
use Rattle.desk_parts.specs.declared.call_record.Stage.{Stage}
use Rattle.desk_parts.specs.declared.call_record.Stage.TheVariants as stage
use Rattle.signer.specs.BegunCall.{BegunCall}
use Rattle.desk_parts.specs.declared.tables.LiveCallView.{LiveCallView}
use Rattle.desk_parts.proofs.Views.{find_view-is}
use Rattle.desk_driver.proofs.CallSteps.{SameCalls, same-self, DeskStep, leaves, leaves-same, at, asks}
use Rattle.desk_driver.proofs.CallSteps.{for-places}
use Rattle.desk_driver.proofs.Looks.{IsLook, IsFoundLoad, IsOtherLoad, look-is, check-found, next-other}
use Rattle.desk_driver.proofs.Looks.{some_load}

-- a hold whose desks differ in their caches and queues alone
record HoldsCalls {K D : Type 0} (old : DeskState K D) (hold : Hold K D) : Type 0 where
  asking_desk : SameCalls old hold.asking_desk
  signing_desk : (c : K) → SameCalls old (hold.signing_desk c)
  ended_desk : SameCalls old hold.ended_desk

module _ {K D : Type 0} (old new : DeskState K D) (reply : Reply K) (begun : BegunCall) where
  module _ (h : Handle) (under : slice_get old.handles begun.id.handle ≡ Some h) (loader : Loader)
      (loads : slice_get old.loaders h.cache ≡ Some loader) where
    poll-hold : (hold : Hold K D) → HoldsCalls old hold → (s : Stage) → IsAt begun s 0 old
        → IsWaiting begun old → (v : LiveCallView) → v.call ≡ begun.id → v.answers ≡ 0 → (p : Progress K)
        → IsLook loader p → Performs (hold_action hold v (Some p)) begun.id old reply new
        → DeskStep begun.id old new (AfterPoll begun reply new)
    poll-hold hold same s found waiting v named none (Asking provider) look m =
        let few : v.answers < provider_count loader = subst (λ n. n < provider_count loader) (sym none) look.1 in
        let asking : IsAsking begun v.answers new = asks begun h under loader loads same.asking_desk found (record v { stage = stage.Loading }) named refl m.1 few in
        let first : provider ≡ v.answers = look.0 ∙ sym none in
        record {
          after = subst (λ r. AfterPoll begun r new) (sym m.0) (look.0, subst (λ n. IsAsking begun n new) (sym first) asking);
          others = leaves same.asking_desk m.1;
        }
    poll-hold hold same s found waiting v named none (Over (HandOut c) cache) look (inl m) = record {
      after = subst (λ r. AfterPoll begun r new) (sym m.0) (v.answers, at begun (same.signing_desk c) found (record v { stage = stage.Signing }) named m.1);
      others = leaves (same.signing_desk c) m.1;
    }
    poll-hold hold same s found waiting v named none (Over (HandOut c) cache) look (inr m) = record {
      after = subst (λ r. AfterPoll begun r new) (sym m.0) (subst (IsWaiting begun) (sym m.1) waiting);
      others = leaves-same m.1;
    }
    poll-hold hold same s found waiting v named none (Over (Refuse cause) cache) look m = record {
      after = subst (λ r. AfterPoll begun r new) (sym m.0) look;
      others = leaves same.ended_desk m.1;
    }

    found-hold : (hold : Hold K D) → HoldsCalls old hold → (provider : ℕ) → IsAsking begun provider old
        → (v : LiveCallView) → v.call ≡ begun.id → (p : Progress K) → IsFoundLoad p
        → Performs (hold_action hold v (Some p)) begun.id old reply new
        → DeskStep begun.id old new (AfterFound begun provider reply new)
    found-hold hold same provider asking v named (Asking k) load m = absurd load
    found-hold hold same provider asking v named (Over (HandOut c) cache) load (inl m) = record {
      after = subst (λ r. AfterFound begun provider r new) (sym m.0) (v.answers, at begun (same.signing_desk c) asking.0 (record v { stage = stage.Signing }) named m.1);
      others = leaves (same.signing_desk c) m.1;
    }
    found-hold hold same provider asking v named (Over (HandOut c) cache) load (inr m) = record {
      after = subst (λ r. AfterFound begun provider r new) (sym m.0) (subst (IsAsking begun provider) (sym m.1) asking);
      others = leaves-same m.1;
    }
    found-hold hold same provider asking v named (Over (Refuse cause) cache) load m = record {
      after = subst (λ r. AfterFound begun provider r new) (sym m.0) load;
      others = leaves same.ended_desk m.1;
    }

    refuses-none : (provider : ℕ) (cause other : Why) (wake : Option CallId)
        → (other ≡ why.Missing) ⊎ (other ≡ cause)
        → AfterNone begun provider cause (let r : Reply K = Refused other wake in r) new
    refuses-none provider cause why.Missing wake e = tt
    refuses-none provider cause (why.Short d) wake (inl e) = absurd (cc)
    refuses-none provider cause (why.Short d) wake (inr e) = e
    refuses-none provider cause why.Range wake (inl e) = absurd (cc)
    refuses-none provider cause why.Range wake (inr e) = e
    refuses-none provider cause (why.Loader n) wake (inl e) = absurd (cc)
    refuses-none provider cause (why.Loader n) wake (inr e) = e
    refuses-none provider cause (why.Service n) wake (inl e) = absurd (cc)
    refuses-none provider cause (why.Service n) wake (inr e) = e

    none-hold : (hold : Hold K D) → HoldsCalls old hold → (provider : ℕ) → IsAsking begun provider old
        → (cause : Why) → (v : LiveCallView) → v.call ≡ begun.id → v.answers ≡ provider + 1
        → (o : Option (Progress K)) → is_some o ≡ true → IfSome o (IsOtherLoad loader (provider + 1) cause)
        → Performs (hold_action hold v o) begun.id old reply new
        → DeskStep begun.id old new (AfterNone begun provider cause reply new)
    none-hold hold same provider asking cause v named more None s load m = absurd (cc)
    none-hold hold same provider asking cause v named more (Some (Asking next)) s load m =
        let few : v.answers < provider_count loader = subst (λ n. n < provider_count loader) (sym more) load.1 in
        let now_asking : IsAsking begun v.answers new = asks begun h under loader loads same.asking_desk asking.0 (record v { stage = stage.Loading }) named refl m.1 few in
        let at_next : next ≡ v.answers = load.0 ∙ sym more in
        record {
          after = subst (λ r. AfterNone begun provider cause r new) (sym m.0) (load.0, subst (λ n. IsAsking begun n new) (sym at_next) now_asking);
          others = leaves same.asking_desk m.1;
        }
    none-hold hold same provider asking cause v named more (Some (Over (HandOut c) cache)) s load m = absurd load
    none-hold hold same provider asking cause v named more (Some (Over (Refuse other) cache)) s load m = record {
      after = subst (λ r. AfterNone begun provider cause r new) (sym m.0) (refuses-none provider cause other hold.wake load);
      others = leaves same.ended_desk m.1;
    }

same-first : {K D : Type 0} (old : DeskState K D) (view : LiveCallView) → HoldsCalls old (first_hold old view)
same-first old view = record {
  asking_desk = record { loaders = refl; rules = refl; handles = refl; greatest = refl; calls = refl };
  signing_desk = λ c. record { loaders = refl; rules = refl; handles = refl; greatest = refl; calls = refl };
  ended_desk = record { loaders = refl; rules = refl; handles = refl; greatest = refl; calls = refl };
}

same-waited : {K D : Type 0} (old : DeskState K D) (view : LiveCallView)
    → HoldsCalls old (waited_hold old view)
same-waited old view = record {
  asking_desk = same-self old;
  signing_desk = λ c. record { loaders = refl; rules = refl; handles = refl; greatest = refl; calls = refl };
  ended_desk = record { loaders = refl; rules = refl; handles = refl; greatest = refl; calls = refl };
}

same-loading : {K D : Type 0} (old : DeskState K D) (view : LiveCallView)
    → HoldsCalls old (loading_hold old view)
same-loading old view = record {
  asking_desk = same-self old;
  signing_desk = λ c. record { loaders = refl; rules = refl; handles = refl; greatest = refl; calls = refl };
  ended_desk = record { loaders = refl; rules = refl; handles = refl; greatest = refl; calls = refl };
}

module _ {K D : Type 0} (policy : Policy K D) (old new : DeskState K D) (reply : Reply K) (begun : BegunCall)
    (sound : StepPrecondition old) (there : IsSome (slice_get old.handles begun.id.handle)) where
  -- what a transition does at the live call
  at_live : (action : LiveCallView → Action K D) (h : Handle) → slice_get old.handles begun.id.handle ≡ Some h
      → (s : Stage) (n : ℕ) → IsAt begun s n old
      → Performs (live_action action (find_view old begun.id)) begun.id old reply new
      → Performs (action (stored_view begun.id h (record_of begun s n))) begun.id old reply new
  at_live action h under s n found m = subst (λ o. Performs (live_action action o) begun.id old reply new) (find_view-is old begun.id h (record_of begun s n) under found) m

  module _ (now : ℤ) (h : Handle) (under : slice_get old.handles begun.id.handle ≡ Some h) (loader : Loader)
      (loads : slice_get old.loaders h.cache ≡ Some loader)
      (cached : Option K) (caches : slice_get old.caches h.cache ≡ Some cached) (rule : D) (ruled : slice_get old.rules h.rule ≡ Some rule) where
    abbrev view : Stage → ℕ → LiveCallView
    view s n = stored_view begun.id h (record_of begun s n)

    looks : (s : Stage)
        → desk_lookup policy old now (view s 0)
        ≡ Some (sequential_call policy cached loader (desk_look_input (view s 0) now rule))
    looks s = rw (loads, caches, ruled) refl

    polled : (s : Stage) (hold : Hold K D) → HoldsCalls old hold → IsAt begun s 0 old → IsWaiting begun old
        → Performs (hold_action hold (view s 0) (desk_lookup policy old now (view s 0))) begun.id old reply
        new
        → DeskStep begun.id old new (AfterPoll begun reply new)
    polled s hold same found waiting m =
        poll-hold old new reply begun h under loader loads hold same s found waiting (view s 0) refl refl (sequential_call policy cached loader (desk_look_input (view s 0) now rule)) (look-is policy cached loader (view s 0) now rule)
        (subst (λ o. Performs (hold_action hold (view s 0) o) begun.id old reply new) (looks s) m)

    first_polled : (held : Bool) → IsAt begun stage.Unpolled 0 old
        → Performs
        (first_poll_action old (view stage.Unpolled 0) held
        (desk_lookup policy old now (view stage.Unpolled 0)))
        begun.id old reply new
        → DeskStep begun.id old new (AfterPoll begun reply new)
    first_polled true found m =
        let waits : IsAt begun stage.Queued 0 new = at begun (same-first old (view stage.Unpolled 0)).asking_desk found (record (view stage.Unpolled 0) { stage = stage.Queued }) refl m.1 in
        record {
          after = subst (λ r. AfterPoll begun r new) (sym m.0) (inr waits);
          others = leaves (same-first old (view stage.Unpolled 0)).asking_desk m.1;
        }
    first_polled false found m = polled stage.Unpolled (first_hold old (view stage.Unpolled 0)) (same-first old (view stage.Unpolled 0)) found (inl found) m

    later_polled : (held : Bool) → IsAt begun stage.Queued 0 old
        → Performs
        (later_poll_action old (view stage.Queued 0) held (desk_lookup policy old now (view stage.Queued 0)))
        begun.id old reply new
        → DeskStep begun.id old new (AfterPoll begun reply new)
    later_polled true found m = polled stage.Queued (waited_hold old (view stage.Queued 0)) (same-waited old (view stage.Queued 0)) found (inr found) m
    later_polled false found m =
        let found-new : IsAt begun stage.Queued 0 new = ap (λ (d : DeskState K D). find_call begun.id d.calls) m.1 ∙ found in
        record
        { after = subst (λ r. AfterPoll begun r new) (sym m.0) (inr found-new); others = leaves-same m.1 }

    by_waiting : IsWaiting begun old → Transition policy (Poll begun.id now) old reply new
        → DeskStep begun.id old new (AfterPoll begun reply new)
    by_waiting (inl found) m = first_polled (is_held_queue (queue_at h.cache old.queues)) found (at_live (λ v. poll_action policy old now v v.stage) h under stage.Unpolled 0 found m)
    by_waiting (inr found) m = later_polled (is_first begun.id (queue_at h.cache old.queues)) found (at_live (λ v. poll_action policy old now v v.stage) h under stage.Queued 0 found m)

    checks : (n : ℕ) (c : K)
        → desk_load policy old now (view stage.Loading n) (Found c)
        ≡ Some
        (found_progress (check_refreshed policy rule (option_map as_nanos begun.expires_in) c now) None)
    checks n c = rw ruled refl

    by_found : (provider : ℕ) (c : K) → IsAsking begun provider old
        → Transition policy (Provided begun.id now (Found c)) old reply new
        → DeskStep begun.id old new (AfterFound begun provider reply new)
    by_found provider c asking m =
        let action = λ (v : LiveCallView). provided_action (load_action policy old now (Found c) v) v.stage in
        let done = at_live action h under stage.Loading provider asking.0 m in
        found-hold old new reply begun h under loader loads (loading_hold old (view stage.Loading provider)) (same-loading old (view stage.Loading provider)) provider asking (with_answer (view stage.Loading provider)) refl
        (found_progress (check_refreshed policy rule (option_map as_nanos begun.expires_in) c now) None) (check-found policy c now (policy.deadline rule c (option_map as_nanos begun.expires_in) now))
        (subst (λ o. Performs (hold_action (loading_hold old (view stage.Loading provider)) (with_answer (view stage.Loading provider)) o) begun.id old reply new) (checks provider c) done)

    by_none : (provider : ℕ) (cause : Why) → IsAsking begun provider old
        → Performs
        (hold_action (loading_hold old (view stage.Loading provider))
        (with_answer (view stage.Loading provider))
        (next_load (slice_get old.loaders h.cache) (provider + 1) cause))
        begun.id old reply new
        → DeskStep begun.id old new (AfterNone begun provider cause reply new)
    by_none provider cause asking m =
        none-hold old new reply begun h under loader loads (loading_hold old (view stage.Loading provider)) (same-loading old (view stage.Loading provider)) provider asking cause (with_answer (view stage.Loading provider)) refl refl
        (next_load (Some loader) (provider + 1) cause) (some_load K loader (provider + 1) cause) (next-other K loader (provider + 1) cause)
        (subst (λ o. Performs (hold_action (loading_hold old (view stage.Loading provider)) (with_answer (view stage.Loading provider)) (next_load o (provider + 1) cause)) begun.id old reply new) loads m)

    by_missing : (provider : ℕ) → IsAsking begun provider old
        → Transition policy (Provided begun.id now Missing) old reply new
        → DeskStep begun.id old new (AfterNone begun provider why.Missing reply new)
    by_missing provider asking m =
        let action = λ (v : LiveCallView). provided_action (load_action policy old now Missing v) v.stage in
        by_none provider why.Missing asking (at_live action h under stage.Loading provider asking.0 m)

    by_failed : (provider e : ℕ) → IsAsking begun provider old
        → Transition policy (Provided begun.id now (Failed e)) old reply new
        → DeskStep begun.id old new (AfterNone begun provider (why.Loader e) reply new)
    by_failed provider e asking m =
        let action = λ (v : LiveCallView). provided_action (load_action policy old now (Failed e) v) v.stage in
        by_none provider (why.Loader e) asking (at_live action h under stage.Loading provider asking.0 m)

  -- the places of the call
  by_places : (C : Type 0)
      → ((h : Handle) → slice_get old.handles begun.id.handle ≡ Some h → (loader : Loader)
      → slice_get old.loaders h.cache ≡ Some loader → (cached : Option K)
      → slice_get old.caches h.cache ≡ Some cached → (rule : D) → slice_get old.rules h.rule ≡ Some rule → C)
      → C
  by_places C k = by_handle (slice_get old.handles begun.id.handle) refl there (sound.places begun.id.handle)
    where
      by_handle : (o : Option Handle) → slice_get old.handles begun.id.handle ≡ o → is_some o ≡ true
          → IfSome o (λ (x : Handle). HasPlaces old x.cache x.rule) → C
      by_handle None under t p = absurd (cc)
      by_handle (Some h) under t p = for-places old h p.loader p.cached p.rules C (k h under)

  pub after-poll : (now : ℤ) → IsWaiting begun old → Transition policy (Poll begun.id now) old reply new
      → DeskStep begun.id old new (AfterPoll begun reply new)
  after-poll now waiting m = by_places (DeskStep begun.id old new (AfterPoll begun reply new)) (λ h under l ls c cs r rs. by_waiting now h under l ls c cs r rs waiting m)

  pub after-found : (now : ℤ) (provider : ℕ) (c : K) → IsAsking begun provider old
      → Transition policy (Provided begun.id now (Found c)) old reply new
      → DeskStep begun.id old new (AfterFound begun provider reply new)
  after-found now provider c asking m = by_places (DeskStep begun.id old new (AfterFound begun provider reply new)) (λ h under l ls x cs r rs. by_found now h under l ls x cs r rs provider c asking m)

  pub after-missing : (now : ℤ) (provider : ℕ) → IsAsking begun provider old
      → Transition policy (Provided begun.id now Missing) old reply new
      → DeskStep begun.id old new (AfterNone begun provider why.Missing reply new)
  after-missing now provider asking m = by_places (DeskStep begun.id old new (AfterNone begun provider why.Missing reply new)) (λ h under l ls x cs r rs. by_missing now h under l ls x cs r rs provider asking m)

  pub after-failed : (now : ℤ) (provider e : ℕ) → IsAsking begun provider old
      → Transition policy (Provided begun.id now (Failed e)) old reply new
      → DeskStep begun.id old new (AfterNone begun provider (why.Loader e) reply new)
  after-failed now provider e asking m = by_places (DeskStep begun.id old new (AfterNone begun provider (why.Loader e) reply new)) (λ h under l ls x cs r rs. by_failed now h under l ls x cs r rs provider e asking m)

  accepted : (candidate : Head) (answers : ℕ) → IsAt begun stage.Signing answers old → (h : Handle)
      → slice_get old.handles begun.id.handle ≡ Some h → (o : Option CallRecord)
      → o ≡ Some (record_of begun stage.Signing answers)
      → Performs (accept_action old candidate o) begun.id old reply new
      → DeskStep begun.id old new (AfterAccepted begun reply new)
  accepted candidate answers found h under None e m = absurd (cc)
  accepted candidate answers found h under (Some r) e (inl m) = record { after = subst (λ x. AfterAccepted begun x new) (sym m.0) tt; others = leaves (same-self old) m.1 }
  accepted candidate answers found h under (Some r) e (inr m) =
      let still : IsAt begun stage.Signing answers new = ap (λ (d : DeskState K D). find_call begun.id d.calls) m.1 ∙ found in
      record
      { after = subst (λ x. AfterAccepted begun x new) (sym m.0) (answers, still); others = leaves-same m.1 }

  pub after-accepted : (candidate : Head) → IsSigning begun old
      → Transition policy (Signed begun.id (verdict.Accepted candidate)) old reply new
      → DeskStep begun.id old new (AfterAccepted begun reply new)
  after-accepted candidate signing m =
      let action = λ (v : LiveCallView). signed_action old (verdict.Accepted candidate) v v.stage in
      by_places (DeskStep begun.id old new (AfterAccepted begun reply new))
      (λ h under l ls x cs r rs. accepted candidate signing.0 signing.1 h under (find_call begun.id old.calls) signing.1 (at_live action h under stage.Signing signing.0 signing.1 m))

  pub after-rejected : (e : ℕ) → IsSigning begun old
      → Transition policy (Signed begun.id (verdict.Failed e)) old reply new
      → DeskStep begun.id old new (reply ≡ Refused (why.Service e) None)
  after-rejected e signing m =
      let action = λ (v : LiveCallView). signed_action old (verdict.Failed e) v v.stage in
      by_places (DeskStep begun.id old new (reply ≡ Refused (why.Service e) None))
      (λ h under l ls x cs r rs.
      let done = at_live action h under stage.Signing signing.0 signing.1 m in
      record { after = done.0; others = leaves (same-self old) done.1 })

  cancelled : (s : Stage) (n : ℕ) (h : Handle)
      → Performs (cancel_action old (stored_view begun.id h (record_of begun s n)) s) begun.id old reply new
      → DeskStep begun.id old new ((wake : Option CallId) × (reply ≡ Cancelled wake))
  cancelled stage.Unpolled n h m =
      let v = stored_view begun.id h (record_of begun stage.Unpolled n) in
      record { after = (None, m.0); others = leaves (same-first old v).ended_desk m.1 }
  cancelled stage.Queued n h m =
      let v = stored_view begun.id h (record_of begun stage.Queued n) in
      record { after = ((waited_hold old v).wake, m.0); others = leaves (same-waited old v).ended_desk m.1 }
  cancelled stage.Loading n h m =
      let v = stored_view begun.id h (record_of begun stage.Loading n) in
      record { after = ((waited_hold old v).wake, m.0); others = leaves (same-waited old v).ended_desk m.1 }
  cancelled stage.Signing n h m = record { after = (None, m.0); others = leaves (same-self old) m.1 }

  pub after-cancel : (s : Stage) (n : ℕ) → IsAt begun s n old
      → Transition policy (Cancel begun.id) old reply new
      → DeskStep begun.id old new ((wake : Option CallId) × (reply ≡ Cancelled wake))
  after-cancel s n found m =
      let action = λ (v : LiveCallView). cancel_action old v v.stage in
      by_places (DeskStep begun.id old new ((wake : Option CallId) × (reply ≡ Cancelled wake)))
      (λ h under l ls x cs r rs. cancelled s n h (at_live action h under s n found m))
