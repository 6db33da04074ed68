-- What a step does to the lines of a desk.
use Rattle.std.proofs.Common.{◌≡◌, ℕ, ℤ, zero, suc, Bool, true, false, List, [], ◌∷◌, Option, Some, None, option_map, slice_get, refl, sym, ◌∙◌, ap, inl, inr}
use Rattle.sign_base.specs.declared.call_id.CallId.{CallId}
use Rattle.sign_base.specs.Calls.{is_first}
use Rattle.sequential_signer.specs.Lookup.{HandOut, Refuse}
use Rattle.sequential_signer.specs.Policy.{Policy}
use Rattle.sequential_signer.specs.SequentialCall.{Progress, Asking, Over}
use Rattle.sequential_signer.specs.Setup.{Handle, cache_of}
use Rattle.sequential_signer.specs.Transcript.{call_of}
use Rattle.sequential_signer.specs.declared.event.Answer.{Answer}
use Rattle.sequential_signer.specs.declared.event.Event.{Event}
use Rattle.sequential_signer.specs.declared.event.Event.TheVariants.{Begin, Poll, Provided, Signed, Cancel}
use Rattle.sequential_signer.specs.declared.event.Reply.{Reply}
use Rattle.sequential_signer.specs.declared.event.Reply.TheVariants.{Begun, NotNow, OutOfMemory}
use Rattle.sequential_signer.specs.declared.event.Verdict.{Verdict}
use Rattle.sequential_signer.specs.declared.event.Verdict.TheVariants.{Accepted, Failed}
use Rattle.desk_parts.specs.Action.{Leaves, Does, Allocates}
use Rattle.desk_parts.specs.Begin.{can_begin, cache_at, new_record}
use Rattle.desk_parts.specs.HoldProgress.{desk_lookup, desk_load, with_answer}
use Rattle.desk_parts.specs.LiveCallView.{stored_view, find_view}
use Rattle.desk_parts.specs.Queue.{Queue, with_changed, with_room, with_last, without_room, without_call, queue_at, is_held_queue}
use Rattle.desk_parts.specs.Tables.{setup_of, find_call}
use Rattle.desk_parts.specs.declared.call_record.Stage.{Stage}
use Rattle.desk_parts.specs.declared.call_record.Stage.TheVariants as stage
use Rattle.desk_parts.specs.declared.tables.LiveCallView.{LiveCallView}
use Rattle.desk_parts.proofs.Views.{view-cases}
use Rattle.sign_desk.specs.Action.{Action, Performs}
use Rattle.sign_desk.specs.BeginAction.{begin_action}
use Rattle.sign_desk.specs.DeskState.{DeskState}
use Rattle.sign_desk.specs.HoldAction.{first_hold, waited_hold, loading_hold, hold_action}
use Rattle.sign_desk.specs.Records.{CallRecord}
use Rattle.sign_desk.specs.Transition.{first_poll_action, later_poll_action, poll_action, load_action, provided_action, accept_action, signed_action, cancel_action, live_action, action_of, Transition}
use Rattle.sign_audit.specs.OrderChange.{order_change, changed_order, changed_orders, orders_of}
use Rattle.sign_audit.specs.declared.order_change.OrderChange.TheVariants.{Enters, Leaves as LeavesLine, Stays}

-- a queue that changes at one place changes the lines there
pub lines-changed : (f : Queue → Queue) (g : List CallId → List CallId)
    → ((q : Queue) → (f q).line ≡ g q.line) → (i : ℕ) (queues : List Queue)
    → orders_of (with_changed f i queues) ≡ with_changed g i (orders_of queues)
lines-changed f g h i [] = refl
lines-changed f g h zero (q ∷ rest) = ap (λ l. l ∷ orders_of rest) (h q)
lines-changed f g h (suc i) (q ∷ rest) = ap (λ ls. q.line ∷ ls) (lines-changed f g h i rest)

-- what does not change
pub lines-stay : (call : CallId) (i : ℕ) (lines : List (List CallId))
    → changed_orders Stays i call lines ≡ lines
lines-stay call i [] = refl
lines-stay call zero (l ∷ rest) = refl
lines-stay call (suc i) (l ∷ rest) = ap (λ ls. l ∷ ls) (lines-stay call i rest)

module _ {K D : Type 0} (old : DeskState K D) (call : CallId) (i : ℕ) where
  -- the lines after a reply to the call at this stage
  abbrev LinesBy : Option Stage → Reply K → List Queue → Type 0
  LinesBy at reply queues = orders_of queues ≡ changed_orders (order_change at reply) i call (orders_of old.queues)

  -- what is done changes the lines so
  abbrev ChangesLines : Option Stage → Action K D → Type 0
  ChangesLines at (Leaves given) = LinesBy at given old.queues
  ChangesLines at (Does effect) = LinesBy at effect.reply effect.desk.queues
  ChangesLines at (Allocates effect) = LinesBy at effect.reply effect.desk.queues

  same : orders_of old.queues ≡ changed_orders Stays i call (orders_of old.queues)
  same = sym (lines-stay call i (orders_of old.queues))

  out_of_memory : (at : Option Stage) → LinesBy at OutOfMemory old.queues
  out_of_memory None = same
  out_of_memory (Some stage.Unpolled) = same
  out_of_memory (Some stage.Queued) = same
  out_of_memory (Some stage.Loading) = same
  out_of_memory (Some stage.Signing) = same

  not_now : (at : Option Stage) → LinesBy at NotNow old.queues
  not_now None = same
  not_now (Some stage.Unpolled) = same
  not_now (Some stage.Queued) = same
  not_now (Some stage.Loading) = same
  not_now (Some stage.Signing) = same

  performed : (at : Option Stage) (action : Action K D) (about : CallId) (reply : Reply K)
      (new : DeskState K D) → ChangesLines at action → Performs action about old reply new
      → LinesBy at reply new.queues
  performed at (Leaves given) about reply new g m = rw (m.0, m.1) g
  performed at (Does effect) about reply new g m = rw (m.0, m.1.queues) g
  performed at (Allocates effect) about reply new g (inl m) = rw (m.0, m.1.queues) g
  performed at (Allocates effect) about reply new g (inr m) = rw (m.0, m.1) (out_of_memory at)

  enters : orders_of (with_changed (with_last call) i old.queues)
      ≡ changed_orders Enters i call (orders_of old.queues)
  enters = lines-changed (with_last call) (changed_order Enters call) (λ q. refl) i old.queues

  leaves : orders_of (with_changed (without_call call) i old.queues)
      ≡ changed_orders LeavesLine i call (orders_of old.queues)
  leaves = lines-changed (without_call call) (changed_order LeavesLine call) (λ q. refl) i old.queues

  returns_room : orders_of (with_changed without_room i old.queues)
      ≡ changed_orders Stays i call (orders_of old.queues)
  returns_room = lines-changed without_room (changed_order Stays call) (λ q. refl) i old.queues

  takes_room : orders_of (with_changed with_room i old.queues)
      ≡ changed_orders Stays i call (orders_of old.queues)
  takes_room = lines-changed with_room (changed_order Stays call) (λ q. refl) i old.queues

module _ {K D : Type 0} (policy : Policy K D) (old : DeskState K D) (call : CallId) (h : Handle) (r : CallRecord) where
  abbrev view : LiveCallView
  view = stored_view call h r

  abbrev Changes : Stage → Action K D → Type 0
  Changes at action = ChangesLines old call h.cache (Some at) action

  first_held : (look : Option (Progress K))
      → Changes stage.Unpolled (hold_action (first_hold old view) view look)
  first_held None = same old call h.cache
  first_held (Some (Asking k)) = enters old call h.cache
  first_held (Some (Over (HandOut c) cached)) = returns_room old call h.cache
  first_held (Some (Over (Refuse why) cached)) = returns_room old call h.cache

  first_poll : (held : Bool) (look : Option (Progress K))
      → Changes stage.Unpolled (first_poll_action old view held look)
  first_poll true look = enters old call h.cache
  first_poll false look = first_held look

  later_held : (look : Option (Progress K))
      → Changes stage.Queued (hold_action (waited_hold old view) view look)
  later_held None = same old call h.cache
  later_held (Some (Asking k)) = same old call h.cache
  later_held (Some (Over (HandOut c) cached)) = leaves old call h.cache
  later_held (Some (Over (Refuse why) cached)) = leaves old call h.cache

  later_poll : (held : Bool) (look : Option (Progress K))
      → Changes stage.Queued (later_poll_action old view held look)
  later_poll true look = later_held look
  later_poll false look = same old call h.cache

  polled : (now : ℤ) (at : Stage) → Changes at (poll_action policy old now view at)
  polled now stage.Unpolled = first_poll (is_held_queue (queue_at h.cache old.queues)) (desk_lookup policy old now view)
  polled now stage.Queued = later_poll (is_first call (queue_at h.cache old.queues)) (desk_lookup policy old now view)
  polled now stage.Loading = same old call h.cache
  polled now stage.Signing = same old call h.cache

  loaded : (load : Option (Progress K))
      → Changes stage.Loading (hold_action (loading_hold old view) (with_answer view) load)
  loaded None = same old call h.cache
  loaded (Some (Asking k)) = same old call h.cache
  loaded (Some (Over (HandOut c) cached)) = leaves old call h.cache
  loaded (Some (Over (Refuse why) cached)) = leaves old call h.cache

  provided : (now : ℤ) (answer : Answer K) (at : Stage)
      → Changes at (provided_action (load_action policy old now answer view) at)
  provided now answer stage.Loading = loaded (desk_load policy old now view answer)
  provided now answer stage.Unpolled = same old call h.cache
  provided now answer stage.Queued = same old call h.cache
  provided now answer stage.Signing = same old call h.cache

  accepted : (o : Option CallRecord) (candidate : _) → Changes stage.Signing (accept_action old candidate o)
  accepted None candidate = same old call h.cache
  accepted (Some live) candidate = same old call h.cache

  signed : (answer : Verdict) (at : Stage) → Changes at (signed_action old answer view at)
  signed (Accepted candidate) stage.Signing = accepted (find_call call old.calls) candidate
  signed (Accepted candidate) stage.Unpolled = same old call h.cache
  signed (Accepted candidate) stage.Queued = same old call h.cache
  signed (Accepted candidate) stage.Loading = same old call h.cache
  signed (Failed e) stage.Signing = same old call h.cache
  signed (Failed e) stage.Unpolled = same old call h.cache
  signed (Failed e) stage.Queued = same old call h.cache
  signed (Failed e) stage.Loading = same old call h.cache

  cancelled : (at : Stage) → Changes at (cancel_action old view at)
  cancelled stage.Unpolled = returns_room old call h.cache
  cancelled stage.Queued = leaves old call h.cache
  cancelled stage.Loading = leaves old call h.cache
  cancelled stage.Signing = same old call h.cache

module _ {K D : Type 0} (policy : Policy K D) (old : DeskState K D) (i : ℕ) where
  -- how far the call is
  abbrev pub stage_in : CallId → Option Stage
  stage_in call = option_map (λ (live : CallRecord). live.stage) (find_call call old.calls)

  abbrev ChangesAt : CallId → Action K D → Type 0
  ChangesAt call action = ChangesLines old call i (stage_in call) action

  begun_lines : (call : CallId) (at : Option Stage)
      → LinesBy old call i at Begun (with_changed with_room i old.queues)
  begun_lines call None = takes_room old call i
  begun_lines call (Some stage.Unpolled) = takes_room old call i
  begun_lines call (Some stage.Queued) = takes_room old call i
  begun_lines call (Some stage.Loading) = takes_room old call i
  begun_lines call (Some stage.Signing) = takes_room old call i

  begin_by : (call : CallId) (r : CallRecord) (at : Option Stage)
      → cache_at (slice_get old.handles call.handle) ≡ i → (fits : Bool) → can_begin old call ≡ fits
      → ChangesLines old call i at (begin_action old call r)
  begin_by call r at here true fits = rw (fits, here) (begun_lines call at)
  begin_by call r at here false fits = rw fits (not_now old call i at)

  live : (call : CallId) → cache_of (setup_of old) call ≡ Some i → (action : LiveCallView → Action K D)
      → ((h : Handle) (r : CallRecord)
      → ChangesLines old call h.cache (Some r.stage) (action (stored_view call h r)))
      → ChangesAt call (live_action action (find_view old call))
  live call at action each =
      view-cases old call (λ v. ChangesAt call (live_action action v))
      (λ under. not_now old call i (stage_in call))
      (λ h under found. not_now old call i (stage_in call))
      (λ h r under found. by_handle h r under found)
    where
      by_handle : (h : Handle) (r : CallRecord) → slice_get old.handles call.handle ≡ Some h
          → find_call call old.calls ≡ Some r → ChangesAt call (action (stored_view call h r))
      by_handle h r under found =
          let here : Some h.cache ≡ Some i = sym (ap (option_map (λ (x : Handle). x.cache)) under) ∙ at in
          let is : h.cache ≡ i = cc in
          rw (found, ← is) (each h r)

  changes : (event : Event K) → cache_of (setup_of old) (call_of event) ≡ Some i
      → ChangesAt (call_of event) (action_of policy old event)
  changes (Begin call head expires_in) at = begin_by call (new_record head expires_in) (stage_in call) (here (slice_get old.handles call.handle) at) (can_begin old call) refl
    where
      here : (o : Option Handle) → option_map (λ (x : Handle). x.cache) o ≡ Some i → cache_at o ≡ i
      here None e = absurd (cc)
      here (Some h) e = cc
  changes (Poll call now) at = live call at _ (λ h r. polled policy old call h r now r.stage)
  changes (Provided call now answer) at = live call at _ (λ h r. provided policy old call h r now answer r.stage)
  changes (Signed call answer) at = live call at _ (λ h r. signed policy old call h r answer r.stage)
  changes (Cancel call) at = live call at _ (λ h r. cancelled policy old call h r r.stage)

  -- a step changes the line of its call's cache, as its reply says
  pub lines-after : (event : Event K) (reply : Reply K) (new : DeskState K D)
      → cache_of (setup_of old) (call_of event) ≡ Some i → Transition policy event old reply new
      → orders_of new.queues
      ≡ changed_orders (order_change (stage_in (call_of event)) reply) i (call_of event) (orders_of old.queues)
  lines-after event reply new at m = performed old (call_of event) i (stage_in (call_of event)) (action_of policy old event) (call_of event) reply new (changes event at) m
