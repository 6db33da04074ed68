-- A live call as an event finds it.
use Rattle.std.specs.Prelude.{Option, Some, None, slice_get}
use Rattle.sign_base.specs.declared.call_id.CallId.{CallId}
use Rattle.sequential_signer.specs.Setup.{Handle}
use Rattle.desk_parts.specs.Tables.{DeskTables, find_call}
use Rattle.desk_parts.specs.declared.call_record.CallRecord.{CallRecord}
use Rattle.desk_parts.specs.declared.tables.LiveCallView.{LiveCallView}

-- the call with the places of its handle, and what its record says beside the head
abbrev pub stored_view : {H : Type 0} → CallId → Handle → CallRecord H → LiveCallView
stored_view call handle live = record {
  call = call;
  cache = handle.cache;
  rule = handle.rule;
  stage = live.stage;
  expires_in = live.expires_in;
  answers = live.answers;
}

-- the same, where handle and record are there
abbrev pub view_by : {H : Type 0} → CallId → Option Handle → Option (CallRecord H) → Option LiveCallView
view_by call (Some handle) (Some live) = Some (stored_view call handle live)
view_by call handle live = None

-- the live call of this name, if there is one
unfoldable pub find_view : {K D Q H : Type 0} → DeskTables K D Q H → CallId → Option LiveCallView
find_view desk call = view_by call (slice_get desk.handles call.handle) (find_call call desk.calls)
