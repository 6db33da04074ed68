-- What a call on a handle does: it steps the desk that the handle holds, or it changes nothing.
use Rattle.std.specs.Prelude.{◌≡◌, ◌⊎◌, ◌<◌, ◌≤◌, ◌+◌, ◌*◌, ℕ, nat_lt, Bool, true, false, []}
use Rattle.std.specs.Prelude.{Option, Some, None, option_map, option_and_then, Result, Ok, Err}
use Rattle.std.specs.Prelude.{length, slice_get}
use Rattle.std.specs.Duration.{as_nanos}
use Rattle.std.specs.declared.time.Duration.{Duration}
use Rattle.sign_base.specs.declared.call_id.CallId.{CallId}
use Rattle.sequential_signer.specs.declared.event.Event.{Event}
use Rattle.sequential_signer.specs.declared.event.Event.TheVariants.{Begin}
use Rattle.sequential_signer.specs.declared.event.Loader.{Loader}
use Rattle.desk_parts.specs.Adding.{late_refusal, handle_refusal, with_rule, with_handle}
use Rattle.desk_parts.specs.declared.adding.AddError.{AddError}
use Rattle.sign_desk.specs.DeskState.{DeskState, Represents, with_cache}
use Rattle.domreth_desk.specs.Crossing.{ticket_out}
use Rattle.domreth_desk.specs.Events.{no_head, IsTold}
use Rattle.domreth_desk.specs.Setup.{IsAdded}
use Rattle.domreth_desk.specs.TicketPolicy.{ticket_policy}
use Rattle.domreth_desk.specs.declared.crossing.DeskReply.{DeskReply}
use Rattle.domreth_desk.specs.declared.crossing.GivenTicket.{GivenTicket}
use Rattle.domreth_desk.specs.declared.setup.SetupError.{SetupError}
use Rattle.domreth_desk.specs.declared.ticket.Margin.{Margin}
use Rattle.domreth_desk.specs.declared.ticket.Ticket.{Ticket}
use Rattle.domreth_desk.specs.declared.ticket_desk.TicketDesk.{TicketDesk}
use Rattle.domreth_handle.specs.Statuses.{setup_status}

-- what a handle holds before and after a call, and what stands in the caller's place for the answer
pub record Change (A : Type 0) : Type 0 where
  pub before : Option TicketDesk
  pub after : Option TicketDesk
  pub old : A
  pub new : A

-- the status is this one, and the handle and the place are as they were
abbrev pub ChangesNothing : {A : Type 0} → ℕ → ℕ → Change A → Type 0
ChangesNothing why status change = (status ≡ why) × (change.after ≡ change.before) × (change.new ≡ change.old)

-- the desk was stepped with the event, and its reply stands in the place
abbrev pub StepsDesk : Event Ticket → TicketDesk → ℕ → Change DeskReply → Type 0
StepsDesk event old status change =
    (new : TicketDesk) × (status ≡ 0) × (change.after ≡ Some new) × IsTold event old.desk change.new new.desk

-- an event that is given is told to the desk; a closed handle is 40, and an event with no moment 11
abbrev pub Tells : Option (Event Ticket) → Option TicketDesk → ℕ → Change DeskReply → Type 0
Tells given None status change = ChangesNothing 40 status change
Tells None (Some old) status change = ChangesNothing 11 status change
Tells (Some event) (Some old) status change = StepsDesk event old status change

-- the reply stands in the place, or there is none and the status is 11
abbrev pub IsReplied : Option DeskReply → DeskReply → ℕ → DeskReply → Type 0
IsReplied None old status new = (status ≡ 11) × (new ≡ old)
IsReplied (Some reply) old status new = (status ≡ 0) × (new ≡ reply)

-- so many seconds and nanoseconds, where these are less than a second
abbrev pub IsTime : ℕ → ℕ → Option Duration → Type 0
IsTime seconds nanos None = 1_000_000_000 ≤ nanos
IsTime seconds nanos (Some time) =
    (nanos < 1_000_000_000) × (as_nanos time ≡ seconds * 1_000_000_000 + nanos)

-- how long an operation takes, where it says so
abbrev pub IsSpan : Bool → ℕ → ℕ → Option (Option Duration) → Type 0
IsSpan lasts seconds nanos None = (lasts ≡ true) × IsTime seconds nanos None
IsSpan lasts seconds nanos (Some None) = lasts ≡ false
IsSpan lasts seconds nanos (Some (Some time)) = (lasts ≡ true) × IsTime seconds nanos (Some time)

-- a begin of an operation that takes so long is told, or the handle is closed
abbrev pub TellsBegin : CallId → Bool → ℕ → ℕ → Option TicketDesk → ℕ → Change DeskReply → Type 0
TellsBegin call lasts seconds nanos None status change = ChangesNothing 40 status change
TellsBegin call lasts seconds nanos (Some old) status change =
    (span : Option (Option Duration)) × IsSpan lasts seconds nanos span
    × Tells (option_map (λ time. Begin call no_head time) span) (Some old) status change

-- the number stands in the place, and the desk is the grown one; or there is a cause why nothing was added
abbrev pub HandsNumber : DeskState Ticket Margin → ℕ → Change ℕ → Result ℕ SetupError → Type 0
HandsNumber grown status change (Ok number) =
    (status ≡ 0) × (change.new ≡ number) × (option_map (λ desk. desk.desk) change.after ≡ Some grown)
HandsNumber grown status change (Err why) = ChangesNothing (setup_status why) status change

-- an addition to a desk that has so many of these, which refuses it for this cause, if there is one
abbrev pub AddsTo : Option AddError → ℕ → DeskState Ticket Margin → ℕ → Change ℕ → Type 0
AddsTo refusal count grown status change =
    (answer : Result ℕ SetupError) × IsAdded refusal count answer × HandsNumber grown status change answer

-- a cache is added, or the handle is closed
abbrev pub AddsCache : Loader → Option TicketDesk → ℕ → Change ℕ → Type 0
AddsCache loader None status change = ChangesNothing 40 status change
AddsCache loader (Some old) status change =
    AddsTo (late_refusal old.desk) (length old.desk.loaders) (with_cache loader old.desk) status change

-- a rule is added
abbrev pub AddsMargin : Margin → TicketDesk → ℕ → Change ℕ → Type 0
AddsMargin rule old status change =
    AddsTo (late_refusal old.desk) (length old.desk.rules) (with_rule rule old.desk) status change

-- a rule is added that asks for so much time, or the handle is closed, or the time is none
abbrev pub AddsRule : ℕ → ℕ → Option TicketDesk → ℕ → Change ℕ → Type 0
AddsRule seconds nanos None status change = ChangesNothing 40 status change
AddsRule seconds nanos (Some old) status change =
    (IsTime seconds nanos None × ChangesNothing 11 status change)
    ⊎ ((time : Duration) × IsTime seconds nanos (Some time)
    × AddsMargin (record { margin = time }) old status change)

-- a handle of the desk's is added on this cache with this rule, or the handle of the call is closed
abbrev pub AddsHandle : ℕ → ℕ → Option TicketDesk → ℕ → Change ℕ → Type 0
AddsHandle cache rule None status change = ChangesNothing 40 status change
AddsHandle cache rule (Some old) status change =
    AddsTo (handle_refusal old.desk cache rule) (length old.desk.handles) (with_handle cache rule old.desk)
    status change

-- the credential that is held stands in the place; else 46 where there is such a cache, and 43 where not
abbrev pub HandsTicket : Bool → Option Ticket → ℕ → Change GivenTicket → Type 0
HandsTicket true None status change = ChangesNothing 46 status change
HandsTicket false None status change = ChangesNothing 43 status change
HandsTicket there (Some ticket) status change =
    (status ≡ 0) × (change.new ≡ ticket_out ticket) × (change.after ≡ change.before)

-- what a cache of the desk holds is handed out, or the handle is closed
abbrev pub ShowsCached : ℕ → Option TicketDesk → ℕ → Change GivenTicket → Type 0
ShowsCached cache None status change = ChangesNothing 40 status change
ShowsCached cache (Some desk) status change =
    HandsTicket (nat_lt cache (length desk.desk.loaders))
    (option_and_then (λ held. held) (slice_get desk.desk.caches cache)) status change

-- a closed handle gets a desk with nothing on it, or memory runs out; 45 where it is open, and stays as it is
abbrev pub Opens : Option TicketDesk → ℕ → Option TicketDesk → Type 0
Opens (Some old) status after = (status ≡ 45) × (after ≡ Some old)
Opens None status (Some desk) = (status ≡ 0) × Represents ticket_policy desk.desk []
Opens None status None = status ≡ 6
