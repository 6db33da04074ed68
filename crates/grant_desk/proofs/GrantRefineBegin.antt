-- What is done at a granter's begin is one more entry of the transcript.
use Rattle.std.proofs.Common.{◌≡◌, ℕ, Bool, true, false, cond, ◌&&◌, ◌+◌, ◌==◌, List, [], ◌∷◌, ◌++◌, Option, Some, None, is_some, option_map, slice_get, slice_set, length, refl, sym, ◌∙◌, ap, subst, inl, inr, arith}
use Rattle.std.specs.declared.time.Duration.{Duration}
use Rattle.sign_base.specs.declared.call_id.CallId.{CallId}
use Rattle.sequential_signer.specs.Policy.{Policy}
use Rattle.sequential_signer.specs.Setup.{Handle, cache_of}
use Rattle.sequential_signer.specs.Phase.{Unpolled, is_live, is_begun, is_new_number, begin_fits}
use Rattle.sequential_signer.specs.LiveCall.{live_call, live_calls, greatest_begun, greater, is_above}
use Rattle.sequential_signer.specs.GrantTranscript.{as_entry, as_signer, committed_grants, grant_phase_of}
use Rattle.sequential_signer.specs.declared.event.Entry.{Entry}
use Rattle.sequential_signer.specs.declared.grant_event.GrantEntry.{GrantEntry}
use Rattle.sequential_signer.specs.declared.grant_event.GrantEvent.TheVariants.{Begin}
use Rattle.sequential_signer.specs.declared.grant_event.GrantReply.{GrantReply}
use Rattle.sequential_signer.specs.declared.grant_event.GrantReply.TheVariants.{Begun, NotNow, OutOfMemory}
use Rattle.sign_base.proofs.Calls.{same_call-refl}
use Rattle.sign_base.proofs.Truth.{number_refl, and_left, and_right, same_number, other_number}
use Rattle.sequential_signer.proofs.Lists.{list_any-more, or_true}
use Rattle.sequential_signer.proofs.Places.{slice_get-set_same, slice_get-set_other}
use Rattle.sequential_signer.proofs.Greatest.{is_new_number-is, greater_above}
use Rattle.sequential_signer.proofs.GrantEntries.{as_signer-more, grant_greatest-more, phase_after-begun}
use Rattle.sequential_signer.proofs.GrantCalls.{run_grant_blank, live_after-begun, new_grant-not_live}
use Rattle.sequential_signer.proofs.GrantBegun.{live_grants-begun}
use Rattle.sequential_signer.proofs.GrantRows.{grant_misfit, expected_begin, begin_allocates}
use Rattle.desk_parts.specs.Action.{Leaves, Allocates}
use Rattle.desk_parts.specs.Begin.{can_begin, is_new_at, with_number, new_record}
use Rattle.desk_parts.specs.Change.{ChangesOnlyCall, one_if}
use Rattle.desk_parts.specs.Tables.{setup_of, find_call, was_begun}
use Rattle.grant_desk.specs.GrantAction.{GrantPerforms, grant_begin_action}
use Rattle.grant_desk.specs.GrantDeskState.{GrantState, GrantRecord, granted_view, GrantRepresents}
use Rattle.grant_desk.proofs.GrantRefine.{GrantFollows, GrantRefines, grants_ran, grant_refines-more, grant_refines-lost, grant_refines-not_now, sources_same}

-- reads by a handle that is there
handle_by : (number : ℕ) (n : Option ℕ) (o : Option Handle)
    → (is_some o && is_new_at number (option_map (λ _. n) o))
    ≡ (is_some (option_map (λ (h : Handle). h.cache) o) && is_above number n)
handle_by number n None = refl
handle_by number n (Some x) = refl

greatest_here : (n : ℕ) (o : Option Handle) (g : Option ℕ)
    → is_some (option_map (λ (h : Handle). h.cache) o) ≡ true → g ≡ Some n
    → Some (Some n) ≡ option_map (λ _. g) o
greatest_here n None g s e = absurd (cc)
greatest_here n (Some x) g s e = ap Some (sym e)

there_both : (o : Option Handle) (g : Option ℕ) → is_some (option_map (λ (h : Handle). h.cache) o) ≡ true
    → is_some (option_map (λ _. g) o) ≡ true
there_both None g h = cc
there_both (Some x) g h = refl

module _ {K D : Type 0} (policy : Policy K D) (old : GrantState K D) (entries : List (GrantEntry K))
    (stood : GrantRepresents policy old entries) (call : CallId) (expires_in : Option Duration) where
  abbrev before : List (GrantEntry K)
  before = committed_grants entries

  abbrev begins : GrantEntry K
  begins = record { event = Begin call expires_in; reply = Begun }

  abbrev after : List (GrantEntry K)
  after = committed_grants entries ++ record { event = Begin call expires_in; reply = Begun } ∷ []

  -- whether a begin fits, on what is kept
  fits_same : can_begin old call ≡ begin_fits (setup_of old) (as_signer before) call
  fits_same =
      ap (λ g. is_some (slice_get old.handles call.handle) && is_new_at call.number g) (stood.greatest call.handle)
      ∙ handle_by call.number (greatest_begun call.handle (as_signer before)) (slice_get old.handles call.handle)
      ∙ ap (λ v. is_some (cache_of (setup_of old) call) && v) (sym (is_new_number-is (as_signer before) call))

  -- a begin that fits
  module _ (fits : begin_fits (setup_of old) (as_signer before) call ≡ true) where
    there : is_some (cache_of (setup_of old) call) ≡ true
    there = and_left _ _ fits

    new_number : is_new_number (as_signer before) call ≡ true
    new_number = and_right _ _ fits

    -- the greatest numbers after it
    greatest_begins : (h : ℕ) (s : Bool) → (call.handle == h) ≡ s
        → slice_get (slice_set old.greatest call.handle (Some call.number)) h
        ≡ option_map (λ _. greatest_begun h (as_signer after)) (slice_get old.handles h)
    greatest_begins h true s =
        let here : is_some (slice_get old.greatest call.handle) ≡ true = ap is_some (stood.greatest call.handle) ∙ there_both (slice_get old.handles call.handle) (greatest_begun call.handle (as_signer before)) there in
        let above : is_above call.number (greatest_begun call.handle (as_signer before)) ≡ true = sym (is_new_number-is (as_signer before) call) ∙ new_number in
        let now : greatest_begun call.handle (as_signer after) ≡ Some call.number =
        grant_greatest-more call.handle before begins
        ∙ ap (λ v. cond v (greater call.number (greatest_begun call.handle (as_signer before))) (greatest_begun call.handle (as_signer before))) (number_refl call.handle)
        ∙ greater_above call.number (greatest_begun call.handle (as_signer before)) above in
        subst (λ k. slice_get (slice_set old.greatest call.handle (Some call.number)) k ≡ option_map (λ _. greatest_begun k (as_signer after)) (slice_get old.handles k)) (same_number call.handle h s)
        (slice_get-set_same old.greatest call.handle (Some call.number) here ∙ greatest_here call.number (slice_get old.handles call.handle) (greatest_begun call.handle (as_signer after)) there now)
    greatest_begins h false s =
        let same : greatest_begun h (as_signer after) ≡ greatest_begun h (as_signer before) =
        grant_greatest-more h before begins ∙ ap (λ v. cond v (greater call.number (greatest_begun h (as_signer before))) (greatest_begun h (as_signer before))) s in
        slice_get-set_other old.greatest call.handle h (Some call.number) (other_number call.handle h s) ∙ stood.greatest h ∙ ap (λ c. option_map (λ _. c) (slice_get old.handles h)) (sym same)

    begin_follows : GrantFollows policy old entries (with_number call old) begins
    begin_follows = record {
      loaders = refl;
      rules = refl;
      handles = refl;
      calls = refl;
      caches = refl;
      sources = sources_same policy old entries stood begins refl;
      greatest = λ h. greatest_begins h (call.handle == h) refl;
      started = sym (ap was_begun (as_signer-more before begins) ∙ list_any-more (λ (x : Entry K). is_begun x.reply) (as_signer before) (as_entry begins) ∙ or_true (was_begun (as_signer before)));
    }

    -- the call had no record
    not_kept : (o : Option GrantRecord) → find_call call old.calls ≡ o → one_if o ≡ 0
    not_kept None f = refl
    not_kept (Some r) f =
        let none : live_call (as_signer before) call ≡ None = new_grant-not_live policy (setup_of old) before (grants_ran policy old entries stood) call new_number in
        let some : Some (granted_view r) ≡ live_call (as_signer before) call = ap (option_map granted_view) (sym f) ∙ stood.calls call in
        absurd (cc)

    phase_begun : grant_phase_of after call ≡ Unpolled
    phase_begun = phase_after-begun before (Begin call expires_in) call (same_call-refl call) (run_grant_blank policy (setup_of old) before (grants_ran policy old entries stood) call new_number).waited

    begin_refines : (new : GrantState K D)
        → ChangesOnlyCall (with_number call old) call (Some (new_record tt expires_in)) new → (o : Option ℕ)
        → cache_of (setup_of old) call ≡ o → is_some o ≡ true → GrantRefines policy old entries begins new
    begin_refines new changes None at s = absurd (cc)
    begin_refines new changes (Some i) at s =
        let counted : length (live_calls (as_signer after)) ≡ length (live_calls (as_signer before)) + 1 = live_grants-begun policy (setup_of old) before begins refl new_number (ap is_live phase_begun) in
        let none : one_if (find_call call old.calls) ≡ 0 = not_kept (find_call call old.calls) refl in
        grant_refines-more policy old entries stood begins (sym (expected_begin policy (setup_of old) before call i at expires_in new_number)) refl refl (with_number call old) new begin_follows
        (Some (new_record tt expires_in)) changes (sym (live_after-begun policy (setup_of old) before (grants_ran policy old entries stood) call expires_in new_number)) (omega (arith, counted, none))

    begin_lost : (o : Option ℕ) → cache_of (setup_of old) call ≡ o → is_some o ≡ true
        → GrantRefines policy old entries (record { event = Begin call expires_in; reply = OutOfMemory }) old
    begin_lost None at s = absurd (cc)
    begin_lost (Some i) at s = grant_refines-lost policy old entries stood (Begin call expires_in) (begin_allocates policy (setup_of old) before call i at expires_in new_number)

  begin_at : (b : Bool) → can_begin old call ≡ b → (reply : GrantReply K) (new : GrantState K D)
      → GrantPerforms
      (cond b
      (Allocates (record { reply = Begun; desk = with_number call old; live = Some (new_record tt expires_in) }))
      (Leaves NotNow))
      call old reply new
      → GrantRefines policy old entries (record { event = Begin call expires_in; reply = reply }) new
  begin_at true c reply new (inl m) = rw (m.0) (begin_refines (sym fits_same ∙ c) new m.1 (cache_of (setup_of old) call) refl (and_left _ _ (sym fits_same ∙ c)))
  begin_at true c reply new (inr m) = rw (m.0, m.1) (begin_lost (sym fits_same ∙ c) (cache_of (setup_of old) call) refl (and_left _ _ (sym fits_same ∙ c)))
  begin_at false c reply new m = rw (m.0, m.1) (grant_refines-not_now policy old entries stood (Begin call expires_in) (grant_misfit policy (setup_of old) before (Begin call expires_in) (sym fits_same ∙ c)))

  -- what is done at a begin
  pub grant_refines-begin : (reply : GrantReply K) (new : GrantState K D)
      → GrantPerforms (grant_begin_action old call (new_record tt expires_in)) call old reply new
      → GrantRefines policy old entries (record { event = Begin call expires_in; reply = reply }) new
  grant_refines-begin reply new m = begin_at (can_begin old call) refl reply new m
