-- What a step does to an auditor.
use Rattle.std.proofs.Common.{◌≡◌, ℕ, zero, suc, ◌<◌, ◌&&◌, true, false, List, [], ◌∷◌, ◌++◌, Option, Some, None, IfSome, Result, Ok, Err, OnOk, OnErr, is_err, option_map, length, slice_get, slice_index_or, refl, sym, ◌∙◌, ap, subst, inl, inr}
use Rattle.sign_base.specs.declared.call_id.CallId.{CallId}
use Rattle.sign_base.specs.Calls.{is_among}
use Rattle.sequential_signer.specs.ExpectedReply.{expected_reply}
use Rattle.sequential_signer.specs.Legal.{allocates, IsLegalEntry}
use Rattle.sequential_signer.specs.Replies.{is_sign}
use Rattle.sequential_signer.specs.Phase.{Unpolled, phase_of, is_live}
use Rattle.sequential_signer.specs.Policy.{Policy}
use Rattle.sequential_signer.specs.Setup.{Setup, Handle, cache_of}
use Rattle.sequential_signer.specs.Transcript.{call_of, committed_entries, is_out_of_memory}
use Rattle.sequential_signer.specs.declared.event.Entry.{Entry}
use Rattle.sequential_signer.specs.declared.event.Event.{Event}
use Rattle.sequential_signer.specs.declared.event.Event.TheVariants.{Begin, Poll, Provided, Signed, Cancel}
use Rattle.sequential_signer.specs.declared.event.Reply.{Reply}
use Rattle.sequential_signer.specs.declared.event.Reply.TheVariants.{Begun, Pending, NotNow, OutOfMemory, Ask, Sign, Refused, Done, Cancelled}
use Rattle.sequential_signer.proofs.Lists.{and_false}
use Rattle.sequential_signer.proofs.Run.{expected_in_memory, out_of_memory-is}
use Rattle.desk_parts.specs.Action.{Leaves as LeavesAction}
use Rattle.desk_parts.specs.LiveCallView.{stored_view}
use Rattle.desk_parts.specs.Queue.{Queue, MayEnter, calls_of_queue, queue_at, with_changed}
use Rattle.desk_parts.specs.Tables.{setup_of, find_call, phase_of_stage}
use Rattle.desk_parts.specs.declared.call_record.Stage.{Stage}
use Rattle.desk_parts.specs.declared.call_record.Stage.TheVariants as stage
use Rattle.desk_parts.specs.declared.tables.LiveCallView.{LiveCallView}
use Rattle.desk_parts.proofs.Views.{find_view-is, find_view-no_handle}
use Rattle.sign_desk.specs.Action.{Action, Performs}
use Rattle.sign_desk.specs.Change.{UnchangedBy}
use Rattle.sign_desk.specs.DeskState.{DeskState, Represents}
use Rattle.sign_desk.specs.Records.{CallRecord}
use Rattle.sign_desk.specs.ReplyKinds.{is_reply_to}
use Rattle.sign_desk.specs.StepPrecondition.{IsPlaced, StepPrecondition}
use Rattle.sign_desk.specs.Steps.{IsStep}
use Rattle.sign_desk.specs.Transition.{action_of, live_action, Transition}
use Rattle.sign_desk.proofs.LiveRecord.{misfit_unset}
use Rattle.sign_audit.specs.Answers.{reply_due}
use Rattle.sign_audit.specs.AuditState.{AuditState, AuditRepresents}
use Rattle.sign_audit.specs.Counts.{counts_of, counts_up_to_end, counted}
use Rattle.sign_audit.specs.IsAudit.{IsAudit}
use Rattle.sign_audit.specs.OrderChange.{first_change, later_change, order_change, changed_order, changed_orders, orders_of, change_before, change_after, MayCome}
use Rattle.sign_audit.specs.declared.counts.Counts.{Counts}
use Rattle.sign_audit.specs.declared.order_change.OrderChange.{OrderChange}
use Rattle.sign_audit.specs.declared.order_change.OrderChange.TheVariants.{Enters, Leaves, Stays}
use Rattle.sign_audit.proofs.Blocking.{line-read}
use Rattle.sign_audit.proofs.Counting.{counts-after, counts-same}
use Rattle.sign_audit.proofs.OrdersAfter.{lines-stay, stage_in, lines-after}
use Rattle.sign_audit.proofs.Phases.{phase-kept}

-- the change before a step and the change after it are the whole change
pub lines-both : (change : OrderChange) (call : CallId) (i : ℕ) (lines : List (List CallId))
    → changed_orders (change_after change) i call (changed_orders (change_before change) i call lines)
    ≡ changed_orders change i call lines
lines-both Enters call i lines = lines-stay call i (changed_orders Enters i call lines)
lines-both Leaves call i lines = ap (changed_orders Leaves i call) (lines-stay call i lines)
lines-both Stays call i lines = lines-stay call i (changed_orders Stays i call lines)

-- where nobody comes, nothing is done before a step
pub lines-before : (change : OrderChange) (call : CallId) (i : ℕ) (lines : List (List CallId))
    → (change ≡ Enters → ⊥) → changed_orders (change_before change) i call lines ≡ lines
lines-before Enters call i lines h = absurd (h refl)
lines-before Leaves call i lines h = lines-stay call i lines
lines-before Stays call i lines h = lines-stay call i lines

stays_may : {K : Type 0} (reply : Reply K) (call : CallId) (line : List CallId)
    → MayCome (later_change reply) call line
stays_may Begun call line = tt
stays_may Pending call line = tt
stays_may NotNow call line = tt
stays_may OutOfMemory call line = tt
stays_may (Ask p) call line = tt
stays_may (Sign c w) call line = tt
stays_may (Refused y w) call line = tt
stays_may (Done h) call line = tt
stays_may (Cancelled w) call line = tt

first_may : {K : Type 0} (reply : Reply K) (call : CallId) (line : List CallId) → is_among call line ≡ false
    → MayCome (first_change reply) call line
first_may Begun call line out = tt
first_may Pending call line out = out
first_may NotNow call line out = tt
first_may OutOfMemory call line out = tt
first_may (Ask p) call line out = out
first_may (Sign c w) call line out = tt
first_may (Refused y w) call line out = tt
first_may (Done h) call line out = tt
first_may (Cancelled w) call line out = tt

outside_line : (call : CallId) (o : Option Queue) → IfSome o (MayEnter call)
    → is_among call (calls_of_queue o) ≡ false
outside_line call None may = refl
outside_line call (Some q) may = may.outside

module _ {K D : Type 0} (policy : Policy K D) (old : DeskState K D) where
  -- an event of no handle does nothing
  unset-leaves : (event : Event K) → slice_get old.handles (call_of event).handle ≡ None
      → action_of policy old event ≡ LeavesAction NotNow
  unset-leaves (Begin call head expires_in) unset = rw unset refl
  unset-leaves (Poll call now) unset = ap (live_action _) (find_view-no_handle old call unset)
  unset-leaves (Provided call now answer) unset = ap (live_action _) (find_view-no_handle old call unset)
  unset-leaves (Signed call answer) unset = ap (live_action _) (find_view-no_handle old call unset)
  unset-leaves (Cancel call) unset = ap (live_action _) (find_view-no_handle old call unset)

  no_handle : (o : Option Handle) → option_map (λ (h : Handle). h.cache) o ≡ None → o ≡ None
  no_handle None e = refl
  no_handle (Some h) e = absurd (cc)

  -- a step at an event of no cache
  pub unset-step : (event : Event K) (reply : Reply K) (new : DeskState K D)
      → cache_of (setup_of old) (call_of event) ≡ None → Transition policy event old reply new
      → (reply ≡ NotNow) × (new ≡ old)
  unset-step event reply new unset m = subst (λ (a : Action K D). Performs a (call_of event) old reply new) (unset-leaves event (no_handle (slice_get old.handles (call_of event).handle) unset)) m

  module _ (sound : StepPrecondition old) (call : CallId) (i : ℕ) (at : cache_of (setup_of old) call ≡ Some i) where
    outside_by : (r : CallRecord) → find_call call old.calls ≡ Some r → r.stage ≡ stage.Unpolled
        → (o : Option Handle) → slice_get old.handles call.handle ≡ o
        → option_map (λ (h : Handle). h.cache) o ≡ Some i → is_among call (queue_at i old.queues) ≡ false
    outside_by r found first None under e = absurd (cc)
    outside_by r found first (Some h) under e =
        let is : h.cache ≡ i = cc in
        let placed : IsPlaced old (stored_view call h r) = subst (λ (o : Option LiveCallView). IfSome o (IsPlaced old)) (find_view-is old call h r under found) (sound.calls call) in
        subst (λ n. is_among call (queue_at n old.queues) ≡ false) is (outside_line call (slice_get old.queues h.cache) (placed.unpolled first))

    -- a call that was not polled is not in line
    outside : (r : CallRecord) → find_call call old.calls ≡ Some r → r.stage ≡ stage.Unpolled
        → is_among call (slice_index_or (orders_of old.queues) i []) ≡ false
    outside r found first = ap (is_among call) (line-read old.queues i) ∙ outside_by r found first (slice_get old.handles call.handle) refl at

    -- a call that comes is not in line yet
    pub may-come : (reply : Reply K)
        → MayCome (order_change (stage_in policy old 0 call) reply) call
        (slice_index_or (orders_of old.queues) i [])
    may-come reply = by_record (find_call call old.calls) refl
      where
        by_stage : (s : Stage)
            → (s ≡ stage.Unpolled → is_among call (slice_index_or (orders_of old.queues) i []) ≡ false)
            → MayCome (order_change (Some s) reply) call (slice_index_or (orders_of old.queues) i [])
        by_stage stage.Unpolled out = first_may reply call (slice_index_or (orders_of old.queues) i []) (out refl)
        by_stage stage.Queued out = stays_may reply call (slice_index_or (orders_of old.queues) i [])
        by_stage stage.Loading out = stays_may reply call (slice_index_or (orders_of old.queues) i [])
        by_stage stage.Signing out = tt

        by_record : (o : Option CallRecord) → find_call call old.calls ≡ o
            → MayCome (order_change (option_map (λ (r : CallRecord). r.stage) o) reply) call
            (slice_index_or (orders_of old.queues) i [])
        by_record None found = tt
        by_record (Some r) found = by_stage r.stage (outside r found)

-- the event is no begin
abbrev IsNoBegin : {K : Type 0} → Event K → Type 0
IsNoBegin (Begin call head expires_in) = ⊥
IsNoBegin event = Unit {0}

later-stays : {K : Type 0} (reply : Reply K) → later_change reply ≡ Enters → ⊥
later-stays Begun e = cc
later-stays Pending e = cc
later-stays NotNow e = cc
later-stays OutOfMemory e = cc
later-stays (Ask p) e = cc
later-stays (Sign c w) e = cc
later-stays (Refused y w) e = cc
later-stays (Done h) e = cc
later-stays (Cancelled w) e = cc

-- a reply by which a call comes hands nothing out
enters-unsigned : {K : Type 0} (reply : Reply K) → first_change reply ≡ Enters → is_sign reply ≡ false
enters-unsigned Begun e = refl
enters-unsigned Pending e = refl
enters-unsigned NotNow e = refl
enters-unsigned OutOfMemory e = refl
enters-unsigned (Ask p) e = refl
enters-unsigned (Sign c w) e = absurd (cc)
enters-unsigned (Refused y w) e = refl
enters-unsigned (Done h) e = refl
enters-unsigned (Cancelled w) e = refl

-- nor is it one to a begin
enters-begun : {K : Type 0} (event : Event K) (reply : Reply K) → is_reply_to event reply ≡ true
    → first_change reply ≡ Enters → IsNoBegin event
enters-begun (Begin call head expires_in) Begun k e = cc
enters-begun (Begin call head expires_in) Pending k e = cc
enters-begun (Begin call head expires_in) NotNow k e = cc
enters-begun (Begin call head expires_in) OutOfMemory k e = cc
enters-begun (Begin call head expires_in) (Ask p) k e = cc
enters-begun (Begin call head expires_in) (Sign c w) k e = cc
enters-begun (Begin call head expires_in) (Refused y w) k e = cc
enters-begun (Begin call head expires_in) (Done h) k e = cc
enters-begun (Begin call head expires_in) (Cancelled w) k e = cc
enters-begun (Poll call now) reply k e = tt
enters-begun (Provided call now answer) reply k e = tt
enters-begun (Signed call answer) reply k e = tt
enters-begun (Cancel call) reply k e = tt

module _ {K D : Type 0} (policy : Policy K D) (desk : DeskState K D) (entries : List (Entry K)) (stood : Represents policy desk entries) where
  -- an event by which a call comes takes no memory
  enters-free : (event : Event K) → IsNoBegin event
      → phase_of (committed_entries entries) (call_of event) ≡ Unpolled
      → is_sign (expected_reply policy (setup_of desk) (committed_entries entries) event) ≡ false
      → allocates policy (setup_of desk) (committed_entries entries) event ≡ false
  enters-free (Begin call head expires_in) n p s = absurd n
  enters-free (Poll call now) n p s = ap (λ b. is_live (phase_of (committed_entries entries) call) && b) s ∙ and_false (is_live (phase_of (committed_entries entries) call))
  enters-free (Provided call now answer) n p s = rw p refl
  enters-free (Signed call answer) n p s = rw p refl
  enters-free (Cancel call) n p s = and_false (is_live (phase_of (committed_entries entries) call))

  enters-fits : (event : Event K) (expected : Reply K)
      → expected ≡ expected_reply policy (setup_of desk) (committed_entries entries) event
      → is_reply_to event expected ≡ true
      → order_change (stage_in policy desk 0 (call_of event)) expected ≡ Enters
      → allocates policy (setup_of desk) (committed_entries entries) event ≡ false
  enters-fits event expected is kind e = by_record (find_call (call_of event) desk.calls) refl e
    where
      by_stage : (s : Stage) → phase_of (committed_entries entries) (call_of event) ≡ phase_of_stage s
          → order_change (Some s) expected ≡ Enters
          → allocates policy (setup_of desk) (committed_entries entries) event ≡ false
      by_stage stage.Unpolled p e = enters-free event (enters-begun event expected kind e) p (ap is_sign (sym is) ∙ enters-unsigned expected e)
      by_stage stage.Queued p e = absurd (later-stays expected e)
      by_stage stage.Loading p e = absurd (later-stays expected e)
      by_stage stage.Signing p e = absurd (cc)

      by_record : (o : Option CallRecord) → find_call (call_of event) desk.calls ≡ o
          → order_change (option_map (λ (r : CallRecord). r.stage) o) expected ≡ Enters
          → allocates policy (setup_of desk) (committed_entries entries) event ≡ false
      by_record None found e = absurd (cc)
      by_record (Some r) found e = by_stage r.stage (phase-kept policy desk entries stood (call_of event) r found) e

  -- where an allocation fails, nobody comes
  pub enters-in_memory : (event : Event K) (expected reply : Reply K)
      → expected ≡ expected_reply policy (setup_of desk) (committed_entries entries) event
      → is_reply_to event expected ≡ true
      → IsLegalEntry policy (setup_of desk) (committed_entries entries)
      (record { event = event; reply = reply })
      → is_out_of_memory reply ≡ true → order_change (stage_in policy desk 0 (call_of event)) expected ≡ Enters
      → ⊥
  enters-in_memory event expected reply is kind (inl l) m e =
      let no : is_out_of_memory reply ≡ false = ap is_out_of_memory l ∙ expected_in_memory policy (setup_of desk) (committed_entries entries) event in
      cc
  enters-in_memory event expected reply is kind (inr l) m e =
      let yes : allocates policy (setup_of desk) (committed_entries entries) event ≡ true = l.1 in
      let no : allocates policy (setup_of desk) (committed_entries entries) event ≡ false = enters-fits event expected is kind e in
      cc

-- a legal reply is the expected one where no allocation failed
pub legal-expected : {K D : Type 0} (policy : Policy K D) (setup : Setup D) (entries : List (Entry K))
    (event : Event K) (reply : Reply K)
    → IsLegalEntry policy setup entries (record { event = event; reply = reply })
    → is_out_of_memory reply ≡ false → reply ≡ expected_reply policy setup entries event
legal-expected policy setup entries event reply (inl l) m = l
legal-expected policy setup entries event reply (inr l) m = let yes : is_out_of_memory reply ≡ true = ap is_out_of_memory l.0 in absurd (cc)

-- where an allocation failed, the desk is as it was
pub lost-unchanged : {K D : Type 0} (reply : Reply K) (old new : DeskState K D)
    → is_out_of_memory reply ≡ true → UnchangedBy reply old new → new ≡ old
lost-unchanged reply old new m u = subst (λ r. UnchangedBy r old new) (out_of_memory-is reply m) u

module _ {K D : Type 0} (policy : Policy K D) (old : AuditState K D) (event : Event K) (reply : Reply K) (new : DeskState K D) (step : IsStep policy event old.desk reply new) where
  moved : (entries : List (Entry K)) (i : ℕ)
      → option_map (λ _. counts_up_to_end (counts_of (setup_of old.desk) entries i))
      (slice_get old.desk.loaders i)
      ≡ option_map (λ _. counts_up_to_end (counts_of (setup_of new) entries i)) (slice_get new.loaders i)
  moved entries i = ap (λ (s : Setup D). option_map (λ _. counts_up_to_end (counts_of s entries i)) (slice_get s.loaders i)) (sym step.setup)

  -- an auditor represents the entry of a step too, where it counted that at its cache
  pub counted-step : (cache : ℕ) → cache_of (setup_of old.desk) (call_of event) ≡ Some cache
      → (entries : List (Entry K)) → AuditRepresents policy old entries
      → AuditRepresents policy (record { desk = new; counts = with_changed (counted reply) cache old.counts })
      (entries ++ record { event = event; reply = reply } ∷ [])
  counted-step cache at entries stood = record {
    desk = step.represents entries stood.desk;
    counts = λ i. counts-after (setup_of old.desk) entries (record { event = event; reply = reply }) old.counts old.desk.loaders stood.counts cache at i ∙ moved (entries ++ record { event = event; reply = reply } ∷ []) i;
  }

  -- and where the event is of no cache
  pub uncounted-step : cache_of (setup_of old.desk) (call_of event) ≡ None → (entries : List (Entry K))
      → AuditRepresents policy old entries
      → AuditRepresents policy (record { desk = new; counts = old.counts })
      (entries ++ record { event = event; reply = reply } ∷ [])
  uncounted-step unset entries stood = record {
    desk = step.represents entries stood.desk;
    counts = λ i. counts-same (setup_of old.desk) entries (record { event = event; reply = reply }) old.counts old.desk.loaders stood.counts unset i ∙ moved (entries ++ record { event = event; reply = reply } ∷ []) i;
  }

-- what a call that may fail ensures where it didn't, and where it did
pub where-ok : {T E : Type 0} (P : Type 0) (r : Result T E) → is_err r ≡ false → OnOk r P → P
where-ok P (Ok x) e h = h
where-ok P (Err x) e h = absurd (cc)

pub where-err : {T E : Type 0} (P : Type 0) (r : Result T E) → is_err r ≡ true → OnErr r P → P
where-err P (Ok x) e h = absurd (cc)
where-err P (Err x) e h = h

module _ {K D : Type 0} (policy : Policy K D) (desk : DeskState K D) (counts : List Counts) (now : AuditState K D) (is : record { desk = desk; counts = counts } ≡ now)
    (lines : List (List CallId)) (kept : IsAudit policy (record { desk = desk; counts = counts }) lines) where
  module _ (event : Event K) (expected : Reply K) (due : (entries : List (Entry K)) → AuditRepresents policy now entries → expected ≡ reply_due policy now entries event) (kind : is_reply_to event expected ≡ true)
      (call : CallId) (named : call ≡ call_of event) (reply : Reply K) (new : DeskState K D) (step : IsStep policy event desk reply new) (moves : Transition policy event desk reply new) where
    abbrev opened : AuditState K D
    opened = record { desk = desk; counts = counts }

    due-here : (entries : List (Entry K)) → AuditRepresents policy opened entries
        → expected ≡ expected_reply policy (setup_of desk) (committed_entries entries) event
    due-here entries stood =
        due entries (subst (λ (a : AuditState K D). AuditRepresents policy a entries) is stood)
        ∙ ap (λ (a : AuditState K D). expected_reply policy (setup_of a.desk) (committed_entries entries) event) (sym is)

    from_now : (entries : List (Entry K)) → AuditRepresents policy now entries
        → AuditRepresents policy opened entries
    from_now entries stood = subst (λ (a : AuditState K D). AuditRepresents policy a entries) (sym is) stood

    module _ (unset : cache_of (setup_of desk) call ≡ None) where
      unset-here : cache_of (setup_of desk) (call_of event) ≡ None
      unset-here = ap (cache_of (setup_of desk)) (sym named) ∙ unset

      unset-done : (reply ≡ NotNow) × (new ≡ desk)
      unset-done = unset-step policy desk event reply new unset-here moves

      unset-expected : (entries : List (Entry K)) → AuditRepresents policy opened entries → reply ≡ expected
      unset-expected entries stood =
          unset-done.0
          ∙ misfit_unset policy desk entries stood.desk event (no_handle policy desk (slice_get desk.handles (call_of event).handle) unset-here)
          ∙ sym (due-here entries stood)

      -- an event of no cache happens
      pub unset-answer : (entries : List (Entry K)) → AuditRepresents policy now entries
          → AuditRepresents policy (record { desk = new; counts = counts })
          (entries ++ record { event = event; reply = expected } ∷ [])
      unset-answer entries stood =
          subst (λ (r : Reply K). AuditRepresents policy (record { desk = new; counts = counts }) (entries ++ record { event = event; reply = r } ∷ []))
          (unset-expected entries (from_now entries stood))
          (uncounted-step policy opened event reply new step unset-here entries (from_now entries stood))

      pub unset-invariant : IsAudit policy (record { desk = new; counts = counts }) lines
      unset-invariant = record {
        entries = kept.entries ++ record { event = event; reply = reply } ∷ [];
        represents = uncounted-step policy opened event reply new step unset-here kept.entries kept.represents;
        orders_are = kept.orders_are ∙ ap (λ (d : DeskState K D). orders_of d.queues) (sym unset-done.1);
      }

    module _ (cache : ℕ) (at : cache_of (setup_of desk) call ≡ Some cache) (change : OrderChange) (does : change ≡ order_change (stage_in policy desk 0 call) expected)
        (between : List (List CallId)) (comes : between ≡ changed_orders (change_before change) cache call lines) where
      at-here : cache_of (setup_of desk) (call_of event) ≡ Some cache
      at-here = ap (cache_of (setup_of desk)) (sym named) ∙ at

      change-is : change ≡ order_change (stage_in policy desk 0 (call_of event)) expected
      change-is = does ∙ ap (λ (c : CallId). order_change (stage_in policy desk 0 c) expected) named

      module _ (lost : is_out_of_memory reply ≡ true) where
        lost-desk : new ≡ desk
        lost-desk = lost-unchanged reply desk new lost step.unchanged

        lost-lines : between ≡ lines
        lost-lines = comes ∙ lines-before change call cache lines (λ e. enters-in_memory policy desk kept.entries kept.represents.desk event expected reply (due-here kept.entries kept.represents) kind (step.expected kept.entries kept.represents.desk) lost (sym change-is ∙ e))

        -- where an allocation fails nothing changes
        pub lost-answer : record { desk = new; counts = counts } ≡ now
        lost-answer = ap (λ (d : DeskState K D). let a : AuditState K D = record { desk = d; counts = counts } in a) lost-desk ∙ is

        pub lost-invariant : IsAudit policy (record { desk = new; counts = counts }) between
        lost-invariant = record {
          entries = kept.entries;
          represents = subst (λ (d : DeskState K D). AuditRepresents policy (record { desk = d; counts = counts }) kept.entries) (sym lost-desk) kept.represents;
          orders_are = lost-lines ∙ kept.orders_are ∙ ap (λ (d : DeskState K D). orders_of d.queues) (sym lost-desk);
        }

      module _ (memory : is_out_of_memory reply ≡ false) (after : List (List CallId)) (goes : after ≡ changed_orders (change_after change) cache call between) (counted_ones : List Counts) (counts_are : counted_ones ≡ with_changed (counted reply) cache counts) where
        reply-is : (entries : List (Entry K)) → AuditRepresents policy opened entries → reply ≡ expected
        reply-is entries stood = legal-expected policy (setup_of desk) (committed_entries entries) event reply (step.expected entries stood.desk) memory ∙ sym (due-here entries stood)

        represents-more : (entries : List (Entry K)) → AuditRepresents policy opened entries
            → AuditRepresents policy (record { desk = new; counts = counted_ones })
            (entries ++ record { event = event; reply = reply } ∷ [])
        represents-more entries stood =
            subst (λ (cs : List Counts). AuditRepresents policy (record { desk = new; counts = cs }) (entries ++ record { event = event; reply = reply } ∷ [])) (sym counts_are)
            (counted-step policy opened event reply new step cache at-here entries stood)

        -- else the event happens
        pub happened-answer : (entries : List (Entry K)) → AuditRepresents policy now entries
            → AuditRepresents policy (record { desk = new; counts = counted_ones })
            (entries ++ record { event = event; reply = expected } ∷ [])
        happened-answer entries stood =
            subst (λ (r : Reply K). AuditRepresents policy (record { desk = new; counts = counted_ones }) (entries ++ record { event = event; reply = r } ∷ []))
            (reply-is entries (from_now entries stood))
            (represents-more entries (from_now entries stood))

        happened-lines : after ≡ orders_of new.queues
        happened-lines =
            goes
            ∙ ap (changed_orders (change_after change) cache call) comes
            ∙ lines-both change call cache lines
            ∙ ap (changed_orders change cache call) kept.orders_are
            ∙ ap (λ (c : CallId). changed_orders change cache c (orders_of desk.queues)) named
            ∙ ap (λ (ch : OrderChange). changed_orders ch cache (call_of event) (orders_of desk.queues)) change-is
            ∙ ap (λ (r : Reply K). changed_orders (order_change (stage_in policy desk 0 (call_of event)) r) cache (call_of event) (orders_of desk.queues)) (sym (reply-is kept.entries kept.represents))
            ∙ sym (lines-after policy desk cache event reply new at-here moves)

        pub happened-invariant : IsAudit policy (record { desk = new; counts = counted_ones }) after
        happened-invariant = record {
          entries = kept.entries ++ record { event = event; reply = reply } ∷ [];
          represents = represents-more kept.entries kept.represents;
          orders_are = happened-lines;
        }

changed-length : {A : Type 0} (f : A → A) (i : ℕ) (xs : List A) → length (with_changed f i xs) ≡ length xs
changed-length f i [] = refl
changed-length f zero (x ∷ xs) = refl
changed-length f (suc i) (x ∷ xs) = ap suc (changed-length f i xs)

-- a cache that has a line has one after a change
pub changed-there : (change : OrderChange) (cache i : ℕ) (call : CallId) (lines between : List (List CallId))
    → between ≡ changed_orders change i call lines → cache < length lines → cache < length between
changed-there change cache i call lines between is below = subst (λ n. cache < n) (sym (ap length is ∙ changed-length (changed_order change call) i lines)) below
