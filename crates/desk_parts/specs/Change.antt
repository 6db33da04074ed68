-- What one step changes of the live calls, the queues and the caches.
use Rattle.std.specs.Prelude.{◌≡◌, ℕ, ◌+◌, false, Option, Some, None, length, slice_set}
use Rattle.sign_base.specs.declared.call_id.CallId.{CallId}
use Rattle.sign_base.specs.Calls.{same_call}
use Rattle.desk_parts.specs.Queue.{Queue, with_changed}
use Rattle.desk_parts.specs.Tables.{DeskTables, find_call}
use Rattle.desk_parts.specs.declared.call_record.CallRecord.{CallRecord}
use Rattle.desk_parts.specs.declared.tables.LiveCallView.{LiveCallView}

-- one, where there is a value
abbrev pub one_if : {A : Type 0} → Option A → ℕ
one_if None = 0
one_if (Some x) = 1

-- the desk has this record of the call, and is else as this one
pub record ChangesOnlyCall {K D Q H : Type 0} (base : DeskTables K D Q H) (call : CallId)
    (live : Option (CallRecord H)) (new : DeskTables K D Q H) : Type 0 where
  pub loaders : new.loaders ≡ base.loaders
  pub rules : new.rules ≡ base.rules
  pub handles : new.handles ≡ base.handles
  pub caches : new.caches ≡ base.caches
  pub queues : new.queues ≡ base.queues
  pub greatest : new.greatest ≡ base.greatest
  pub started : new.started ≡ base.started
  pub this_call : find_call call new.calls ≡ live
  pub other_calls : (other : CallId) → same_call call other ≡ false
      → find_call other new.calls ≡ find_call other base.calls
  pub count : length new.calls + one_if (find_call call base.calls) ≡ length base.calls + one_if live

-- the desk where the queue of cache i changed
abbrev pub with_queue : {K D H : Type 0} → (Queue → Queue) → ℕ → DeskTables K D Queue H
    → DeskTables K D Queue H
with_queue change i desk = record desk { queues = with_changed change i desk.queues }

-- the desk where this cache holds this credential
abbrev pub with_cached : {K D Q H : Type 0} → K → LiveCallView → DeskTables K D Q H → DeskTables K D Q H
with_cached credential view desk = record desk { caches = slice_set desk.caches view.cache (Some credential) }
