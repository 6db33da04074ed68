-- What a reply does to the order of its call's cache.
use Rattle.std.specs.Prelude.{◌≡◌, ℕ, false, not, List, [], ◌∷◌, ◌++◌, Option, Some, None, filter, map}
use Rattle.sign_base.specs.declared.call_id.CallId.{CallId}
use Rattle.sign_base.specs.Calls.{same_call, is_among}
use Rattle.sequential_signer.specs.declared.event.Reply.{Reply}
use Rattle.sequential_signer.specs.declared.event.Reply.TheVariants.{Pending, Ask, Sign, Refused, Cancelled}
use Rattle.desk_parts.specs.Queue.{Queue, with_changed}
use Rattle.desk_parts.specs.declared.call_record.Stage.{Stage}
use Rattle.desk_parts.specs.declared.call_record.Stage.TheVariants as stage
use Rattle.sign_audit.specs.declared.order_change.OrderChange.{OrderChange}
use Rattle.sign_audit.specs.declared.order_change.OrderChange.TheVariants.{Enters, Leaves, Stays}

-- the reply to a call that was not polled yet: it takes its place where it waits or loads
abbrev pub first_change : {K : Type 0} → Reply K → OrderChange
first_change Pending = Enters
first_change (Ask provider) = Enters
first_change _ = Stays

-- the reply to a call that is in order: it leaves where its hold is over
abbrev pub later_change : {K : Type 0} → Reply K → OrderChange
later_change (Sign credential wake) = Leaves
later_change (Refused why wake) = Leaves
later_change (Cancelled wake) = Leaves
later_change _ = Stays

-- what a reply does to the order, where the call was at this stage before
abbrev pub order_change : {K : Type 0} → Option Stage → Reply K → OrderChange
order_change (Some stage.Unpolled) reply = first_change reply
order_change (Some stage.Queued) reply = later_change reply
order_change (Some stage.Loading) reply = later_change reply
order_change (Some stage.Signing) reply = Stays
order_change None reply = Stays

-- the order after it
abbrev pub changed_order : OrderChange → CallId → List CallId → List CallId
changed_order Enters call order = order ++ call ∷ []
changed_order Leaves call order = filter (λ other. not (same_call other call)) order
changed_order Stays call order = order

-- the orders of all caches, of which that of cache i changed
abbrev pub changed_orders : OrderChange → ℕ → CallId → List (List CallId) → List (List CallId)
changed_orders change i call orders = with_changed (changed_order change call) i orders

-- the orders of queues
abbrev pub orders_of : List Queue → List (List CallId)
orders_of queues = map (λ queue. queue.line) queues

-- what is done to the order before the step: a call that comes takes its place
abbrev pub change_before : OrderChange → OrderChange
change_before Enters = Enters
change_before _ = Stays

-- and after it: one that leaves gives its place back
abbrev pub change_after : OrderChange → OrderChange
change_after Leaves = Leaves
change_after _ = Stays

-- a call that comes is not in order yet
abbrev pub MayCome : OrderChange → CallId → List CallId → Type 0
MayCome Enters call order = is_among call order ≡ false
MayCome _ call order = Unit {0}
