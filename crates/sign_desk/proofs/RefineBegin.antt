-- What is done at a begin is one more entry of the transcript.
use Rattle.std.proofs.Common.{◌≡◌, ℕ, Bool, true, false, cond, ◌&&◌, ◌||◌, ◌+◌, ◌==◌, List, [], ◌∷◌, ◌++◌, Option, Some, None, is_some, option_map, slice_get, slice_set, length, refl, sym, ◌∙◌, ap, subst, inl, inr, IsTrue, arith}
use Rattle.std.specs.Duration.{as_nanos}
use Rattle.std.specs.declared.time.Duration.{Duration}
use Rattle.sign_base.specs.declared.head.Head.{Head}
use Rattle.sign_base.specs.declared.call_id.CallId.{CallId}
use Rattle.sign_base.specs.Calls.{same_call}
use Rattle.sequential_signer.specs.Policy.{Policy}
use Rattle.sequential_signer.specs.Setup.{Setup, Handle, cache_of}
use Rattle.sequential_signer.specs.Transcript.{committed_entries, entries_of}
use Rattle.sequential_signer.specs.Phase.{Unpolled, Queued, phase_of, begin_fits, is_live, is_new_number, is_begun}
use Rattle.sequential_signer.specs.Hold.{begin_of, begin_in, answers_of}
use Rattle.sequential_signer.specs.ExpectedReply.{expected_reply, reply_at}
use Rattle.sequential_signer.specs.Legal.{allocates}
use Rattle.sequential_signer.specs.LiveCall.{live_call, live_by, greatest_begun, greater, is_above}
use Rattle.sequential_signer.specs.declared.event.Entry.{Entry}
use Rattle.sequential_signer.specs.declared.event.Event.TheVariants.{Begin}
use Rattle.sequential_signer.specs.declared.event.Reply.{Reply}
use Rattle.sequential_signer.specs.declared.event.Reply.TheVariants.{Begun, NotNow}
use Rattle.sign_base.proofs.Calls.{same_call-refl}
use Rattle.sign_base.proofs.Truth.{number_refl, and_left, and_right, same_number, other_number}
use Rattle.sequential_signer.proofs.Lists.{list_any-more, or_true}
use Rattle.sequential_signer.proofs.OwnEntries.{entries_of-own, begin_in-new}
use Rattle.sequential_signer.proofs.Places.{slice_get-set_same, slice_get-set_other}
use Rattle.sequential_signer.proofs.Greatest.{is_new_number-is, greatest_begun-more, greater_above}
use Rattle.sequential_signer.proofs.Run.{IsRun, legal_run}
use Rattle.sequential_signer.proofs.NewNumbers.{new_is_unbegun}
use Rattle.sequential_signer.proofs.CallInvariant.{IsBlank, phase-own_mark, answers-own_none}
use Rattle.sequential_signer.proofs.CallInvariantSteps.{stands, unbegun, unbegun_blank}
use Rattle.desk_parts.specs.Queue.{with_room}
use Rattle.sign_desk.specs.TranscriptQueue.{is_unpolled}
use Rattle.sequential_signer.specs.LiveCall.{live_calls}
use Rattle.sign_desk.specs.DeskState.{DeskState, live_view, Represents}
use Rattle.desk_parts.specs.Tables.{setup_of, find_call, was_begun}
use Rattle.desk_parts.specs.Change.{ChangesOnlyCall, one_if}
use Rattle.desk_parts.specs.Action.{Leaves, Allocates}
use Rattle.sign_desk.specs.Action.{Performs}
use Rattle.desk_parts.specs.Begin.{can_begin, is_new_at, cache_at, new_record}
use Rattle.desk_parts.specs.Begin.{with_begin}
use Rattle.sign_desk.specs.BeginAction.{begin_action}
use Rattle.sign_desk.specs.Records.{CallRecord}
use Rattle.sequential_signer.proofs.BegunCalls.{passing-more}
use Rattle.sign_desk.proofs.QueueLaw.{queue-with_room, queue-begun_elsewhere}
use Rattle.sign_desk.proofs.Refine.{Follows, Refines, refines-more, refines-lost, refines-not_now, queues_changed}

module _ {K D : Type 0} (policy : Policy K D) where
  module _ (old : DeskState K D) (entries : List (Entry K)) (stood : Represents policy old entries) where
    abbrev setup : Setup D
    setup = setup_of old

    abbrev before : List (Entry K)
    before = committed_entries entries

    abbrev after : CallId → Head → Option Duration → List (Entry K)
    after call head expires_in = committed_entries entries ++ record { event = Begin call head expires_in; reply = Begun } ∷ []

    ran : IsRun policy (setup_of old) (committed_entries entries)
    ran = legal_run policy (setup_of old) entries stood.legal

    -- whether a begin fits, on what is kept
    handle_by : (call : CallId) (n : Option ℕ) → (o : Option Handle) → slice_get old.handles call.handle ≡ o
        → (is_some o && is_new_at call.number (option_map (λ _. n) o))
        ≡ (is_some (option_map (λ (h : Handle). h.cache) o) && is_above call.number n)
    handle_by call n None h = refl
    handle_by call n (Some x) h = refl

    fits_same : (call : CallId) → can_begin old call ≡ begin_fits setup before call
    fits_same call =
        ap (λ g. is_some (slice_get old.handles call.handle) && is_new_at call.number g) (stood.greatest call.handle)
        ∙ handle_by call (greatest_begun call.handle before) (slice_get old.handles call.handle) refl
        ∙ ap (λ v. is_some (cache_of setup call) && v) (sym (is_new_number-is before call))

    begun_by : (call : CallId) (head : Head) (expires_in : Option Duration) (o : Option ℕ)
        → cache_of setup call ≡ o → (b : Bool) → begin_fits setup before call ≡ b → is_some o ≡ true
        → b ≡ true → Begun ≡ reply_at policy setup before (Begin call head expires_in) o
    begun_by call head expires_in None at b f s t = absurd (cc)
    begun_by call head expires_in (Some i) at b f s t = rw (f, t) refl

    begin_expected : (call : CallId) (head : Head) (expires_in : Option Duration)
        → begin_fits setup before call ≡ true
        → Begun ≡ expected_reply policy setup before (Begin call head expires_in)
    unfolding expected_reply
    begin_expected call head expires_in fits = begun_by call head expires_in (cache_of setup call) refl (begin_fits setup before call) refl (and_left _ _ fits) fits

    unfit_by : (call : CallId) (head : Head) (expires_in : Option Duration) (o : Option ℕ)
        → begin_fits setup before call ≡ false
        → NotNow ≡ reply_at policy setup before (Begin call head expires_in) o
    unfit_by call head expires_in None f = refl
    unfit_by call head expires_in (Some i) f = rw f refl

    unfit_expected : (call : CallId) (head : Head) (expires_in : Option Duration)
        → begin_fits setup before call ≡ false
        → NotNow ≡ expected_reply policy setup before (Begin call head expires_in)
    unfolding expected_reply
    unfit_expected call head expires_in f = unfit_by call head expires_in (cache_of setup call) f

    greatest_here : (n : ℕ) (o : Option Handle) (g : Option ℕ) → is_some o ≡ true → g ≡ Some n
        → Some (Some n) ≡ option_map (λ _. g) o
    greatest_here n None g s e = cc
    greatest_here n (Some x) g s e = ap Some (sym e)

    there_both : (n : ℕ) (o : Option Handle) (g : Option ℕ)
        → is_some (option_map (λ (h : Handle). h.cache) o) ≡ true → is_some (option_map (λ _. g) o) ≡ true
    there_both n None g h = cc
    there_both n (Some x) g h = refl

    there_handle : (o : Option Handle) → is_some (option_map (λ (h : Handle). h.cache) o) ≡ true
        → is_some o ≡ true
    there_handle None h = cc
    there_handle (Some x) h = refl

    greatest_begins : (call : CallId) (head : Head) (expires_in : Option Duration)
        → begin_fits setup before call ≡ true → (h : ℕ) → (s : Bool) → (call.handle == h) ≡ s
        → slice_get (slice_set old.greatest call.handle (Some call.number)) h
        ≡ option_map (λ _. greatest_begun h (after call head expires_in)) (slice_get old.handles h)
    greatest_begins call head expires_in fits h true s =
        let here : call.handle ≡ h = same_number call.handle h s in
        let e : Entry K = record { event = Begin call head expires_in; reply = Begun } in
        let there : is_some (slice_get old.greatest call.handle) ≡ true = ap is_some (stood.greatest call.handle) ∙ there_both call.number (slice_get old.handles call.handle) (greatest_begun call.handle before) (and_left _ _ fits) in
        let above : is_above call.number (greatest_begun call.handle before) ≡ true = sym (is_new_number-is before call) ∙ and_right _ _ fits in
        let now : greatest_begun call.handle (after call head expires_in) ≡ Some call.number =
        greatest_begun-more call.handle before e ∙ ap (λ v. cond v (greater call.number (greatest_begun call.handle before)) (greatest_begun call.handle before)) (number_refl call.handle) ∙ greater_above call.number (greatest_begun call.handle before) above in
        subst (λ k. slice_get (slice_set old.greatest call.handle (Some call.number)) k ≡ option_map (λ _. greatest_begun k (after call head expires_in)) (slice_get old.handles k)) here
        (slice_get-set_same old.greatest call.handle (Some call.number) there ∙ greatest_here call.number (slice_get old.handles call.handle) (greatest_begun call.handle (after call head expires_in)) (there_handle (slice_get old.handles call.handle) (and_left _ _ fits)) now)
    greatest_begins call head expires_in fits h false s =
        let e : Entry K = record { event = Begin call head expires_in; reply = Begun } in
        let same : greatest_begun h (after call head expires_in) ≡ greatest_begun h before =
        greatest_begun-more h before e ∙ ap (λ v. cond v (greater call.number (greatest_begun h before)) (greatest_begun h before)) s in
        slice_get-set_other old.greatest call.handle h (Some call.number) (other_number call.handle h s) ∙ stood.greatest h ∙ ap (λ c. option_map (λ _. c) (slice_get old.handles h)) (sym same)

    -- a begin that fits
    module _ (call : CallId) (head : Head) (expires_in : Option Duration)
        (fits : begin_fits setup before call ≡ true) (i : ℕ) (at : cache_of setup call ≡ Some i) where
      abbrev begins : Entry K
      begins = record { event = Begin call head expires_in; reply = Begun }

      new_number : is_new_number before call ≡ true
      new_number = and_right _ _ fits

      blank : IsBlank setup before i call
      blank = unbegun_blank policy setup before i call (phase_of before call) (unbegun policy setup (entries_of before call) (new_is_unbegun call before new_number)) (stands policy setup before ran call i at)

      phase_begun : phase_of (after call head expires_in) call ≡ Unpolled
      phase_begun =
          phase-own_mark setup before i begins call (same_call-refl call) refl
          ∙ ap (λ v. cond (v || false) Queued Unpolled) blank.waited

      own_begun : Some (live_view (new_record head expires_in)) ≡ live_call (after call head expires_in) call
      own_begun =
          let own : same_call call call ≡ true = same_call-refl call in
          let a : answers_of (after call head expires_in) call ≡ [] = answers-own_none setup before i begins call own refl ∙ blank.answers in
          let b : begin_of (after call head expires_in) call ≡ Some (record { head = head; duration = option_map as_nanos expires_in }) = ap begin_in (entries_of-own before call begins own) ∙ begin_in-new (entries_of before call) begins (new_is_unbegun call before new_number) refl in
          rw (phase_begun, a, b) refl

      not_kept : (o : Option CallRecord) → find_call call old.calls ≡ o → one_if o ≡ 0
      not_kept None f = refl
      not_kept (Some r) f =
          let none : live_call before call ≡ None = ap (live_by (phase_of before call) (length (answers_of before call))) blank.begin in
          let some : Some (live_view r) ≡ live_call before call = ap (option_map live_view) (sym f) ∙ stood.calls call in
          absurd (cc)

      cache_is : cache_at (slice_get old.handles call.handle) ≡ i
      cache_is = cache_by (slice_get old.handles call.handle) at
        where
          cache_by : (o : Option Handle) → option_map (λ (h : Handle). h.cache) o ≡ Some i → cache_at o ≡ i
          cache_by None h = cc
          cache_by (Some x) h = cc

      begin_follows : Follows policy old entries (with_begin call old) begins
      begin_follows = record {
        loaders = refl;
        rules = refl;
        handles = refl;
        calls = refl;
        caches = refl;
        queues = λ j. rw cache_is (queues_changed policy old entries stood begins i with_room (queue-with_room policy setup before ran begins i at refl new_number refl refl (ap is_unpolled phase_begun)) (queue-begun_elsewhere policy setup before ran begins i at refl new_number) j);
        greatest = λ h. greatest_begins call head expires_in fits h (call.handle == h) refl;
        started = sym (list_any-more (λ (x : Entry K). is_begun x.reply) before begins ∙ or_true (was_begun before));
      }

      begin_refines : (new : DeskState K D)
          → ChangesOnlyCall (with_begin call old) call (Some (new_record head expires_in)) new
          → Refines policy old entries begins new
      begin_refines new changes =
          let counted : length (live_calls (after call head expires_in)) ≡ length (live_calls before) + 1 = passing-more policy setup (λ _ p. is_live p) before begins refl new_number (ap is_live phase_begun) in
          let none : one_if (find_call call old.calls) ≡ 0 = not_kept (find_call call old.calls) refl in
          refines-more policy old entries stood begins (begin_expected call head expires_in fits) refl refl (with_begin call old) new begin_follows
          (Some (new_record head expires_in)) changes own_begun (omega (arith, counted, none))

    begin_by : (call : CallId) (head : Head) (expires_in : Option Duration)
        → begin_fits setup before call ≡ true → (o : Option ℕ) → cache_of setup call ≡ o → is_some o ≡ true
        → (new : DeskState K D)
        → ChangesOnlyCall (with_begin call old) call (Some (new_record head expires_in)) new
        → Refines policy old entries (record { event = Begin call head expires_in; reply = Begun }) new
    begin_by call head expires_in fits None at s new changes = absurd (cc)
    begin_by call head expires_in fits (Some i) at s new changes = begin_refines call head expires_in fits i at new changes

    begin_allocates : (call : CallId) (head : Head) (expires_in : Option Duration)
        → begin_fits setup before call ≡ true
        → IsTrue (allocates policy setup before (Begin call head expires_in))
    begin_allocates call head expires_in fits = rw fits refl

    begin_at : (call : CallId) (head : Head) (expires_in : Option Duration) (b : Bool)
        → can_begin old call ≡ b → (reply : Reply K) (new : DeskState K D)
        → Performs
        (cond b
        (Allocates (record { reply = Begun; desk = with_begin call old; live = Some (new_record head expires_in) }))
        (Leaves NotNow))
        call old reply new
        → Refines policy old entries (record { event = Begin call head expires_in; reply = reply }) new
    begin_at call head expires_in true c reply new (inl m) = rw (m.0) (begin_by call head expires_in (sym (fits_same call) ∙ c) (cache_of setup call) refl (and_left _ _ (sym (fits_same call) ∙ c)) new m.1)
    begin_at call head expires_in true c reply new (inr m) = rw (m.0, m.1) (refines-lost policy old entries stood (Begin call head expires_in) (begin_allocates call head expires_in (sym (fits_same call) ∙ c)))
    begin_at call head expires_in false c reply new m = rw (m.0, m.1) (refines-not_now policy old entries stood (Begin call head expires_in) (unfit_expected call head expires_in (sym (fits_same call) ∙ c)))

    -- what is done at a begin
    pub refines-begin : (call : CallId) (head : Head) (expires_in : Option Duration) (reply : Reply K)
        (new : DeskState K D)
        → Performs (begin_action old call (new_record head expires_in)) call old reply new
        → Refines policy old entries (record { event = Begin call head expires_in; reply = reply }) new
    refines-begin call head expires_in reply new m = begin_at call head expires_in (can_begin old call) refl reply new m
