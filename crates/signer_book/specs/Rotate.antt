-- Why a volume is not closed, and why a history is not gone on with.
use Rattle.std.specs.Prelude.{◌≡◌, ◌≢◌, List, length}
use Rattle.sign_desk.specs.DeskState.{DeskState}
use Rattle.signer_book.specs.Settled.{IsSettled}
use Rattle.signer_book.specs.Close.{IsCloseCause}
use Rattle.signer_book.specs.VolumeState.{VolumeState}
use Rattle.signer_book.specs.declared.pass.Receipt.{Receipt}
use Rattle.signer_book.specs.declared.next_volume.VolumeError.{VolumeError}
use Rattle.signer_book.specs.declared.next_volume.VolumeError.TheVariants as volume_error
use Rattle.signer_book.specs.declared.next_volume.RotateError.{RotateError}
use Rattle.signer_book.specs.declared.next_volume.RotateError.TheVariants as rotate_error

-- why a volume is not closed: the plan is not the desk that it was opened at, or else as of a book
abbrev pub IsVolumeCause : {K D : Type 0} → DeskState K D → VolumeState K D → List (List (Receipt K))
    → VolumeError → Type 0
IsVolumeCause plan volume passes volume_error.Plan = plan ≢ volume.opened
IsVolumeCause plan volume passes (volume_error.Close why) =
    (plan ≡ volume.opened)
    × IsCloseCause plan (record { desk = volume.desk; journal = volume.journal }) passes why

-- why a history is not gone on with: as a volume is not closed; or between these, calls are live; or an
-- allocation failed, where none of that holds
abbrev pub IsRotateCause : {K D : Type 0} → DeskState K D → VolumeState K D → List (List (Receipt K))
    → RotateError → Type 0
IsRotateCause plan volume passes rotate_error.Plan = plan ≢ volume.opened
IsRotateCause plan volume passes (rotate_error.Live calls) =
    (plan ≡ volume.opened) × (calls ≡ length volume.desk.calls) × (calls ≢ 0)
IsRotateCause plan volume passes (rotate_error.Close why) =
    (plan ≡ volume.opened) × (length volume.desk.calls ≡ 0)
    × IsCloseCause plan (record { desk = volume.desk; journal = volume.journal }) passes why
IsRotateCause plan volume passes rotate_error.OutOfMemory =
    (plan ≡ volume.opened) × (length volume.desk.calls ≡ 0) × IsSettled volume.journal passes
