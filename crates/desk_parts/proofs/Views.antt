-- The live call of a name, by its handle and its record.
use Rattle.std.proofs.Common.{◌≡◌, Option, Some, None, slice_get, refl}
use Rattle.sign_base.specs.declared.call_id.CallId.{CallId}
use Rattle.sequential_signer.specs.Setup.{Handle}
use Rattle.desk_parts.specs.Tables.{DeskTables, find_call}
use Rattle.desk_parts.specs.LiveCallView.{stored_view, view_by, find_view}
use Rattle.desk_parts.specs.declared.call_record.CallRecord.{CallRecord}
use Rattle.desk_parts.specs.declared.tables.LiveCallView.{LiveCallView}

view_by-no_record : (H : Type 0) (call : CallId) (handle : Option Handle)
    → view_by {H = H} call handle None ≡ None
view_by-no_record H call None = refl
view_by-no_record H call (Some handle) = refl

module _ {K D Q H : Type 0} (desk : DeskTables K D Q H) (call : CallId) where
  -- without a record no live call is found
  pub find_view-no_record : find_call call desk.calls ≡ None → find_view desk call ≡ None
  unfolding find_view
  find_view-no_record h = rw h (view_by-no_record H call (slice_get desk.handles call.handle))

  -- without a handle no live call is found
  pub find_view-no_handle : slice_get desk.handles call.handle ≡ None → find_view desk call ≡ None
  unfolding find_view
  find_view-no_handle h = rw h refl

  -- with both the live call is found
  pub find_view-is : (handle : Handle) (live : CallRecord H)
      → slice_get desk.handles call.handle ≡ Some handle → find_call call desk.calls ≡ Some live
      → find_view desk call ≡ Some (stored_view call handle live)
  unfolding find_view
  find_view-is handle live h l = rw (h, l) refl

  -- what holds without a handle, without a record, and at each live call, holds of the one that is found
  pub view-cases : (P : Option LiveCallView → Type 0) → (slice_get desk.handles call.handle ≡ None → P None)
      → ((h : Handle) → slice_get desk.handles call.handle ≡ Some h → find_call call desk.calls ≡ None
      → P None)
      → ((h : Handle) (r : CallRecord H) → slice_get desk.handles call.handle ≡ Some h
      → find_call call desk.calls ≡ Some r → P (Some (stored_view call h r)))
      → P (find_view desk call)
  unfolding find_view
  view-cases P unset ended live = by_view (slice_get desk.handles call.handle) refl (find_call call desk.calls) refl
    where
      by_view : (o : Option Handle) → slice_get desk.handles call.handle ≡ o → (f : Option (CallRecord H))
          → find_call call desk.calls ≡ f → P (view_by call o f)
      by_view None under f found = unset under
      by_view (Some h) under None found = ended h under found
      by_view (Some h) under (Some r) found = live h r under found
