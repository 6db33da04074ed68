-- A call that is live in a desk, and one that is not.
use Rattle.std.proofs.Common.{◌≡◌, ◌<◌, true, Option, Some, None, is_some, slice_get, length, refl}
use Rattle.sign_base.specs.declared.call_id.CallId.{CallId}
use Rattle.sequential_signer.specs.Setup.{Handle}
use Rattle.sequential_signer.specs.declared.event.Loader.{Loader}
use Rattle.desk_parts.specs.LiveCallView.{stored_view, find_view}
use Rattle.desk_parts.specs.WellFormedSetup.{IsWellFormedSetup}
use Rattle.desk_parts.specs.Tables.{DeskTables, setup_of, find_call}
use Rattle.desk_parts.specs.declared.call_record.CallRecord.{CallRecord}
use Rattle.desk_parts.specs.declared.tables.LiveCallView.{LiveCallView}
use Rattle.desk_parts.proofs.ListPlaces.{place-there}
use Rattle.desk_parts.proofs.LiveRecord.{Lives}
use Rattle.desk_parts.proofs.Views.{view-cases}

module _ {K D Q H : Type 0} (desk : DeskTables K D Q H) (set_up : IsWellFormedSetup (setup_of desk))
    (call : CallId) where
  lives : (h : Handle) (r : CallRecord H) → slice_get desk.handles call.handle ≡ Some h
      → find_call call desk.calls ≡ Some r → Lives desk call h r
  lives h r under found =
      let places : (h.cache < length desk.loaders) × (h.rule < length desk.rules) = rw under at (set_up.handles call.handle) in
      by_places (slice_get desk.loaders h.cache) refl (place-there desk.loaders h.cache places.0) (slice_get desk.rules h.rule) refl (place-there desk.rules h.rule places.1)
    where
      by_places : (l : Option Loader) → slice_get desk.loaders h.cache ≡ l → is_some l ≡ true
          → (rule : Option D) → slice_get desk.rules h.rule ≡ rule → is_some rule ≡ true → Lives desk call h r
      by_places None loads s rule ruled t = absurd (cc)
      by_places (Some l) loads s None ruled t = absurd (cc)
      by_places (Some l) loads s (Some rule) ruled t = record { under = under; found = found; loader = l; loads = loads; rule = rule; ruled = ruled }

  -- what holds without a handle, without a record, and where the call lives, holds of the call that is found
  pub lives-cases : (P : Option LiveCallView → Type 0) → (slice_get desk.handles call.handle ≡ None → P None)
      → ((h : Handle) → slice_get desk.handles call.handle ≡ Some h → find_call call desk.calls ≡ None
      → P None)
      → ((h : Handle) (r : CallRecord H) → Lives desk call h r → P (Some (stored_view call h r)))
      → P (find_view desk call)
  lives-cases P unset ended live = view-cases desk call P unset ended (λ h r under found. live h r (lives h r under found))
