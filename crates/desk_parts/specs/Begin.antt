-- A begin, at the tables of a desk.
use Rattle.std.specs.Prelude.{ℕ, Bool, true, false, ◌&&◌, Option, Some, None, slice_get, slice_set, is_some}
use Rattle.std.specs.declared.time.Duration.{Duration}
use Rattle.sign_base.specs.declared.call_id.CallId.{CallId}
use Rattle.sequential_signer.specs.LiveCall.{is_above}
use Rattle.sequential_signer.specs.Setup.{Handle}
use Rattle.desk_parts.specs.Queue.{Queue, with_room, with_changed}
use Rattle.desk_parts.specs.Tables.{DeskTables}
use Rattle.desk_parts.specs.declared.call_record.CallRecord.{CallRecord}
use Rattle.desk_parts.specs.declared.call_record.Stage.TheVariants as stage

-- whether the greatest number of a handle is there, and is below this one
abbrev pub is_new_at : ℕ → Option (Option ℕ) → Bool
is_new_at n None = false
is_new_at n (Some greatest) = is_above n greatest

-- whether a begin fits: the handle is there, and the number is above the greatest
abbrev pub can_begin : {K D Q H : Type 0} → DeskTables K D Q H → CallId → Bool
can_begin desk call =
    is_some (slice_get desk.handles call.handle)
    && is_new_at call.number (slice_get desk.greatest call.handle)

-- the cache of a handle that is there
abbrev pub cache_at : Option Handle → ℕ
cache_at None = 0
cache_at (Some handle) = handle.cache

-- the tables where a call was begun, but for its record and its place: its number is the greatest
abbrev pub with_number : {K D Q H : Type 0} → CallId → DeskTables K D Q H → DeskTables K D Q H
with_number call desk = record desk {
  greatest = slice_set desk.greatest call.handle (Some call.number);
  started = true;
}

-- the same, with room for the call in its queue
abbrev pub with_begin : {K D H : Type 0} → CallId → DeskTables K D Queue H → DeskTables K D Queue H
with_begin call desk = record (with_number call desk) {
  queues = with_changed with_room (cache_at (slice_get desk.handles call.handle)) desk.queues;
}

-- the record of a call that is begun
abbrev pub new_record : {H : Type 0} → H → Option Duration → CallRecord H
new_record head expires_in =
    record { stage = stage.Unpolled; head = head; expires_in = expires_in; answers = 0 }
