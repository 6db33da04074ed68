-- What the steps of a call that a granter drives do to the call, and that they leave the others.
use Rattle.std.specs.Duration.{as_nanos}
use Rattle.std.proofs.Common.{◌≡◌, ◌⊎◌, inl, inr, ℕ, ℤ, ◌<◌, ◌+◌, true, false, Bool, cond, Option, Some, None}
use Rattle.std.proofs.Common.{IsSome, is_some, IfSome, IsTrue, option_map, slice_get, refl, sym, ◌∙◌, ap}
use Rattle.std.proofs.Common.{subst}
use Rattle.sequential_signer.specs.Policy.{Policy}
use Rattle.sequential_signer.specs.Setup.{Handle}
use Rattle.sequential_signer.specs.Lookup.{HandOut, Refuse, check_refreshed}
use Rattle.sequential_signer.specs.SequentialCall.{Progress, Asking, Over, sequential_call, found_progress}
use Rattle.sequential_signer.specs.ExpectedGrantReply.{grant_why}
use Rattle.sequential_signer.specs.declared.event.Answer.TheVariants.{Found, Missing, Failed}
use Rattle.sequential_signer.specs.declared.event.Loader.{Loader}
use Rattle.sequential_signer.specs.declared.event.Why.{Why}
use Rattle.sequential_signer.specs.declared.event.Why.TheVariants as why
use Rattle.sequential_signer.specs.declared.grant_event.GrantEvent.TheVariants.{Poll, Provided, Granted}
use Rattle.sequential_signer.specs.declared.grant_event.GrantEvent.TheVariants.{Cancel}
use Rattle.sequential_signer.specs.declared.grant_event.GrantReply.{GrantReply}
use Rattle.sequential_signer.specs.declared.grant_event.GrantReply.TheVariants.{Refused, Given, Cancelled}
use Rattle.sequential_signer.specs.declared.grant_event.GrantWhy.TheVariants as cause
use Rattle.sequential_signer.specs.declared.grant_event.Made.TheVariants as made
use Rattle.desk_parts.specs.Action.{Does, Allocates, end_effect}
use Rattle.desk_driver.specs.CallAt.{record_of, IsAt, IsSigning, IsAsking}
use Rattle.desk_parts.specs.Change.{with_cached}
use Rattle.desk_parts.specs.HoldProgress.{desk_lookup, desk_load, next_load, desk_look_input, with_answer}
use Rattle.desk_parts.specs.LiveCallView.{stored_view, find_view}
use Rattle.desk_parts.specs.Places.{provider_count}
use Rattle.desk_parts.specs.declared.call_record.Stage.{Stage}
use Rattle.desk_parts.specs.declared.call_record.Stage.TheVariants as stage
use Rattle.desk_parts.specs.declared.tables.LiveCallView.{LiveCallView}
use Rattle.desk_parts.proofs.Views.{find_view-is}
use Rattle.desk_driver.specs.Causes.{is_of_look as by_look, is_of_check as by_check}
use Rattle.desk_driver.proofs.CallSteps.{SameCalls, same-self, DeskStep, leaves, leaves-same, at, asks}
use Rattle.desk_driver.proofs.CallSteps.{for-places}
use Rattle.desk_driver.proofs.Looks.{IsLook, IsFoundLoad, IsOtherLoad, look-is, check-found, next-other}
use Rattle.desk_driver.proofs.Looks.{some_load}
use Rattle.grant_desk.specs.GrantAction.{GrantAction, GrantPerforms, GrantTransition, progress_action}
use Rattle.grant_desk.specs.GrantAction.{look_action, grant_poll_action, grant_load_action}
use Rattle.grant_desk.specs.GrantAction.{grant_provided_action, granted_action, live_grant_action}
use Rattle.grant_desk.specs.GrantDeskState.{GrantState}
use Rattle.grant_desk.specs.GrantPlaces.{IsGrantPlaced, GrantPrecondition}
use Rattle.granter.specs.DeskReplies.{IsUnpolled, AfterPoll, AfterFound, AfterNone, AfterMade, is_of_look}
use Rattle.granter.specs.DeskReplies.{is_of_check}
use Rattle.granter.specs.ObjectPoll.{BegunCall}

-- what a look and a check refuse for, in a granter's words
look-refuses : (refused : Why) → IsTrue (by_look refused) → IsTrue (is_of_look (grant_why refused))
look-refuses why.Missing h = refl
look-refuses (why.Short d) h = absurd (cc)
look-refuses why.Range h = refl
look-refuses (why.Loader n) h = absurd (cc)
look-refuses (why.Service n) h = absurd (cc)

check-refuses : (refused : Why) → IsTrue (by_check refused) → IsTrue (is_of_check (grant_why refused))
check-refuses why.Missing h = absurd (cc)
check-refuses (why.Short d) h = refl
check-refuses why.Range h = refl
check-refuses (why.Loader n) h = absurd (cc)
check-refuses (why.Service n) h = absurd (cc)

module _ {K D : Type 0} (old new : GrantState K D) (reply : GrantReply K) (begun : BegunCall) where
  refuses-none : (provider : ℕ) (refused other : Why) → (other ≡ why.Missing) ⊎ (other ≡ refused)
      → AfterNone begun provider (grant_why refused) (let r : GrantReply K = Refused (grant_why other) in r)
      new
  refuses-none provider refused why.Missing e = tt
  refuses-none provider refused (why.Short d) (inl e) = absurd (cc)
  refuses-none provider refused (why.Short d) (inr e) = ap grant_why e
  refuses-none provider refused why.Range (inl e) = absurd (cc)
  refuses-none provider refused why.Range (inr e) = ap grant_why e
  refuses-none provider refused (why.Loader n) (inl e) = absurd (cc)
  refuses-none provider refused (why.Loader n) (inr e) = ap grant_why e
  refuses-none provider refused (why.Service n) (inl e) = absurd (cc)
  refuses-none provider refused (why.Service n) (inr e) = ap grant_why e

  module _ (h : Handle) (under : slice_get old.handles begun.id.handle ≡ Some h) (loader : Loader)
      (loads : slice_get old.loaders h.cache ≡ Some loader)
      (handed : K → GrantState K D) (same : (c : K) → SameCalls old (handed c)) (v : LiveCallView) (named : v.call ≡ begun.id) where
    looked : IsUnpolled begun old → v.answers ≡ 0 → (p : Progress K) → IsLook loader p
        → GrantPerforms (progress_action handed old v (Some p)) begun.id old reply new
        → DeskStep begun.id old new (AfterPoll begun reply new)
    looked found none (Asking provider) look m =
        let few : v.answers < provider_count loader = subst (λ n. n < provider_count loader) (sym none) look.1 in
        let asking : IsAsking begun v.answers new = asks begun h under loader loads (same-self old) found (record v { stage = stage.Loading }) named refl m.1 few in
        let first : provider ≡ v.answers = look.0 ∙ sym none in
        record {
          after = subst (λ r. AfterPoll begun r new) (sym m.0) (look.0, subst (λ n. IsAsking begun n new) (sym first) asking);
          others = leaves (same-self old) m.1;
        }
    looked found none (Over (HandOut c) cache) look (inl m) = record {
      after = subst (λ r. AfterPoll begun r new) (sym m.0) (v.answers, at begun (same c) found (record v { stage = stage.Signing }) named m.1);
      others = leaves (same c) m.1;
    }
    looked found none (Over (HandOut c) cache) look (inr m) = record {
      after = subst (λ r. AfterPoll begun r new) (sym m.0) (subst (IsUnpolled begun) (sym m.1) found);
      others = leaves-same m.1;
    }
    looked found none (Over (Refuse refused) cache) look m = record {
      after = subst (λ r. AfterPoll begun r new) (sym m.0) (look-refuses refused look);
      others = leaves (same-self old) m.1;
    }

    found-load : (provider : ℕ) → IsAsking begun provider old → (p : Progress K) → IsFoundLoad p
        → GrantPerforms (progress_action handed old v (Some p)) begun.id old reply new
        → DeskStep begun.id old new (AfterFound begun provider reply new)
    found-load provider asking (Asking k) load m = absurd load
    found-load provider asking (Over (HandOut c) cache) load (inl m) = record {
      after = subst (λ r. AfterFound begun provider r new) (sym m.0) (v.answers, at begun (same c) asking.0 (record v { stage = stage.Signing }) named m.1);
      others = leaves (same c) m.1;
    }
    found-load provider asking (Over (HandOut c) cache) load (inr m) = record {
      after = subst (λ r. AfterFound begun provider r new) (sym m.0) (subst (IsAsking begun provider) (sym m.1) asking);
      others = leaves-same m.1;
    }
    found-load provider asking (Over (Refuse refused) cache) load m = record {
      after = subst (λ r. AfterFound begun provider r new) (sym m.0) (check-refuses refused load);
      others = leaves (same-self old) m.1;
    }

    none-load : (provider : ℕ) → IsAsking begun provider old → (refused : Why) → v.answers ≡ provider + 1
        → (o : Option (Progress K)) → is_some o ≡ true → IfSome o (IsOtherLoad loader (provider + 1) refused)
        → GrantPerforms (progress_action handed old v o) begun.id old reply new
        → DeskStep begun.id old new (AfterNone begun provider (grant_why refused) reply new)
    none-load provider asking refused more None s load m = absurd (cc)
    none-load provider asking refused more (Some (Asking next)) s load m =
        let few : v.answers < provider_count loader = subst (λ n. n < provider_count loader) (sym more) load.1 in
        let now_asking : IsAsking begun v.answers new = asks begun h under loader loads (same-self old) asking.0 (record v { stage = stage.Loading }) named refl m.1 few in
        let at_next : next ≡ v.answers = load.0 ∙ sym more in
        record {
          after = subst (λ r. AfterNone begun provider (grant_why refused) r new) (sym m.0) (load.0, subst (λ n. IsAsking begun n new) (sym at_next) now_asking);
          others = leaves (same-self old) m.1;
        }
    none-load provider asking refused more (Some (Over (HandOut c) cache)) s load m = absurd load
    none-load provider asking refused more (Some (Over (Refuse other) cache)) s load m = record {
      after = subst (λ r. AfterNone begun provider (grant_why refused) r new) (sym m.0) (refuses-none provider refused other load);
      others = leaves (same-self old) m.1;
    }

module _ {K D : Type 0} (policy : Policy K D) (old new : GrantState K D) (reply : GrantReply K)
    (begun : BegunCall) (sound : GrantPrecondition old)
    (there : IsSome (slice_get old.handles begun.id.handle)) where
  -- what a transition does at the live call
  at_live : (action : LiveCallView → GrantAction K D) (h : Handle)
      → slice_get old.handles begun.id.handle ≡ Some h → (s : Stage) (n : ℕ) → IsAt begun s n old
      → GrantPerforms (live_grant_action action (find_view old begun.id)) begun.id old reply new
      → GrantPerforms (action (stored_view begun.id h (record_of begun s n))) begun.id old reply new
  at_live action h under s n found m = subst (λ o. GrantPerforms (live_grant_action action o) begun.id old reply new) (find_view-is old begun.id h (record_of begun s n) under found) m

  same-cached : (c : K) (v : LiveCallView) → SameCalls old (with_cached c v old)
  same-cached c v = record { loaders = refl; rules = refl; handles = refl; greatest = refl; calls = refl }

  module _ (now : ℤ) (h : Handle) (under : slice_get old.handles begun.id.handle ≡ Some h) (loader : Loader)
      (loads : slice_get old.loaders h.cache ≡ Some loader)
      (cached : Option K) (caches : slice_get old.caches h.cache ≡ Some cached) (rule : D) (ruled : slice_get old.rules h.rule ≡ Some rule) where
    abbrev view : Stage → ℕ → LiveCallView
    view s n = stored_view begun.id h (record_of begun s n)

    looks : (s : Stage)
        → desk_lookup policy old now (view s 0)
        ≡ Some (sequential_call policy cached loader (desk_look_input (view s 0) now rule))
    looks s = rw (loads, caches, ruled) refl

    by_polled : IsUnpolled begun old → GrantTransition policy (Poll begun.id now) old reply new
        → DeskStep begun.id old new (AfterPoll begun reply new)
    by_polled found m =
        let v = view stage.Unpolled 0 in
        let done = at_live (λ x. grant_poll_action (look_action policy old now x) x.stage) h under stage.Unpolled 0 found m in
        looked old new reply begun h under loader loads (λ c. old) (λ c. same-self old) v refl found refl (sequential_call policy cached loader (desk_look_input v now rule)) (look-is policy cached loader v now rule)
        (subst (λ o. GrantPerforms (progress_action (λ c. old) old v o) begun.id old reply new) (looks stage.Unpolled) done)

    checks : (n : ℕ) (c : K)
        → desk_load policy old now (view stage.Loading n) (Found c)
        ≡ Some
        (found_progress (check_refreshed policy rule (option_map as_nanos begun.expires_in) c now) None)
    checks n c = rw ruled refl

    by_found : (provider : ℕ) (c : K) → IsAsking begun provider old
        → GrantTransition policy (Provided begun.id now (Found c)) old reply new
        → DeskStep begun.id old new (AfterFound begun provider reply new)
    by_found provider c asking m =
        let v = view stage.Loading provider in
        let done = at_live (λ x. grant_provided_action (grant_load_action policy old now (Found c) x) x.stage) h under stage.Loading provider asking.0 m in
        found-load old new reply begun h under loader loads (λ x. with_cached x v old) (λ x. same-cached x v) (with_answer v) refl provider asking
        (found_progress (check_refreshed policy rule (option_map as_nanos begun.expires_in) c now) None) (check-found policy c now (policy.deadline rule c (option_map as_nanos begun.expires_in) now))
        (subst (λ o. GrantPerforms (progress_action (λ x. with_cached x v old) old (with_answer v) o) begun.id old reply new) (checks provider c) done)

    by_none : (provider : ℕ) (refused : Why) → IsAsking begun provider old
        → GrantPerforms
        (progress_action (λ x. with_cached x (view stage.Loading provider) old) old
        (with_answer (view stage.Loading provider))
        (next_load (slice_get old.loaders h.cache) (provider + 1) refused))
        begun.id old reply new
        → DeskStep begun.id old new (AfterNone begun provider (grant_why refused) reply new)
    by_none provider refused asking m =
        let v = view stage.Loading provider in
        none-load old new reply begun h under loader loads (λ x. with_cached x v old) (λ x. same-cached x v) (with_answer v) refl provider asking refused refl
        (next_load (Some loader) (provider + 1) refused) (some_load K loader (provider + 1) refused) (next-other K loader (provider + 1) refused)
        (subst (λ o. GrantPerforms (progress_action (λ x. with_cached x v old) old (with_answer v) (next_load o (provider + 1) refused)) begun.id old reply new) loads m)

    by_missing : (provider : ℕ) → IsAsking begun provider old
        → GrantTransition policy (Provided begun.id now Missing) old reply new
        → DeskStep begun.id old new (AfterNone begun provider cause.Missing reply new)
    by_missing provider asking m =
        by_none provider why.Missing asking (at_live (λ x. grant_provided_action (grant_load_action policy old now Missing x) x.stage) h under stage.Loading provider asking.0 m)

    by_failed : (provider e : ℕ) → IsAsking begun provider old
        → GrantTransition policy (Provided begun.id now (Failed e)) old reply new
        → DeskStep begun.id old new (AfterNone begun provider (cause.Loader e) reply new)
    by_failed provider e asking m =
        by_none provider (why.Loader e) asking (at_live (λ x. grant_provided_action (grant_load_action policy old now (Failed e) x) x.stage) h under stage.Loading provider asking.0 m)

  -- the places of the call
  by_places : (s : Stage) (n : ℕ) → IsAt begun s n old → (C : Type 0)
      → ((h : Handle) → slice_get old.handles begun.id.handle ≡ Some h → (loader : Loader)
      → slice_get old.loaders h.cache ≡ Some loader → (cached : Option K)
      → slice_get old.caches h.cache ≡ Some cached → (rule : D) → slice_get old.rules h.rule ≡ Some rule → C)
      → C
  by_places s n found C k = by_handle (slice_get old.handles begun.id.handle) refl there
    where
      by_handle : (o : Option Handle) → slice_get old.handles begun.id.handle ≡ o → is_some o ≡ true → C
      by_handle None under t = absurd (cc)
      by_handle (Some h) under t =
          let p : IsGrantPlaced old (stored_view begun.id h (record_of begun s n)) = subst (λ o. IfSome o (IsGrantPlaced old)) (find_view-is old begun.id h (record_of begun s n) under found) (sound.calls begun.id) in
          for-places old h p.loader p.cached p.rules C (k h under)

  pub after-poll : (now : ℤ) → IsUnpolled begun old → GrantTransition policy (Poll begun.id now) old reply new
      → DeskStep begun.id old new (AfterPoll begun reply new)
  after-poll now unpolled m = by_places stage.Unpolled 0 unpolled (DeskStep begun.id old new (AfterPoll begun reply new)) (λ h under l ls c cs r rs. by_polled now h under l ls c cs r rs unpolled m)

  pub after-found : (now : ℤ) (provider : ℕ) (c : K) → IsAsking begun provider old
      → GrantTransition policy (Provided begun.id now (Found c)) old reply new
      → DeskStep begun.id old new (AfterFound begun provider reply new)
  after-found now provider c asking m = by_places stage.Loading provider asking.0 (DeskStep begun.id old new (AfterFound begun provider reply new)) (λ h under l ls x cs r rs. by_found now h under l ls x cs r rs provider c asking m)

  pub after-missing : (now : ℤ) (provider : ℕ) → IsAsking begun provider old
      → GrantTransition policy (Provided begun.id now Missing) old reply new
      → DeskStep begun.id old new (AfterNone begun provider cause.Missing reply new)
  after-missing now provider asking m = by_places stage.Loading provider asking.0 (DeskStep begun.id old new (AfterNone begun provider cause.Missing reply new)) (λ h under l ls x cs r rs. by_missing now h under l ls x cs r rs provider asking m)

  pub after-failed : (now : ℤ) (provider e : ℕ) → IsAsking begun provider old
      → GrantTransition policy (Provided begun.id now (Failed e)) old reply new
      → DeskStep begun.id old new (AfterNone begun provider (cause.Loader e) reply new)
  after-failed now provider e asking m = by_places stage.Loading provider asking.0 (DeskStep begun.id old new (AfterNone begun provider (cause.Loader e) reply new)) (λ h under l ls x cs r rs. by_failed now h under l ls x cs r rs provider e asking m)

  made_by : (now : ℤ) (c : K) → IsSigning begun old → (valid : Bool)
      → GrantPerforms
      (cond valid (let a : GrantAction K D = Allocates (end_effect old (Given c)) in a)
      (Does (end_effect old (Refused (cause.Stale now)))))
      begun.id old reply new
      → DeskStep begun.id old new (AfterMade begun now c reply new)
  made_by now c granting true (inl m) = record { after = subst (λ r. AfterMade begun now c r new) (sym m.0) refl; others = leaves (same-self old) m.1 }
  made_by now c granting true (inr m) = record {
    after = subst (λ r. AfterMade begun now c r new) (sym m.0) (subst (IsSigning begun) (sym m.1) granting);
    others = leaves-same m.1;
  }
  made_by now c granting false m = record { after = subst (λ r. AfterMade begun now c r new) (sym m.0) refl; others = leaves (same-self old) m.1 }

  pub after-made : (now : ℤ) (c : K) → IsSigning begun old
      → GrantTransition policy (Granted begun.id now (made.Made c)) old reply new
      → DeskStep begun.id old new (AfterMade begun now c reply new)
  after-made now c granting m =
      by_places stage.Signing granting.0 granting.1 (DeskStep begun.id old new (AfterMade begun now c reply new))
      (λ h under l ls x cs r rs. made_by now c granting (policy.valid_at c now now) (at_live (λ v. granted_action policy old now (made.Made c) v.stage) h under stage.Signing granting.0 granting.1 m))

  pub after-unmade : (now : ℤ) (e : ℕ) → IsSigning begun old
      → GrantTransition policy (Granted begun.id now (made.Failed e)) old reply new
      → DeskStep begun.id old new (reply ≡ Refused (cause.Service e))
  after-unmade now e granting m =
      by_places stage.Signing granting.0 granting.1 (DeskStep begun.id old new (reply ≡ Refused (cause.Service e)))
      (λ h under l ls x cs r rs.
      let done = at_live (λ v. granted_action policy old now (made.Failed e) v.stage) h under stage.Signing granting.0 granting.1 m in
      record { after = done.0; others = leaves (same-self old) done.1 })

  pub after-cancel : (s : Stage) (n : ℕ) → IsAt begun s n old
      → GrantTransition policy (Cancel begun.id) old reply new → DeskStep begun.id old new (reply ≡ Cancelled)
  after-cancel s n found m =
      by_places s n found (DeskStep begun.id old new (reply ≡ Cancelled))
      (λ h under l ls x cs r rs.
      let done = at_live (λ v. Does (end_effect old Cancelled)) h under s n found m in
      record { after = done.0; others = leaves (same-self old) done.1 })
