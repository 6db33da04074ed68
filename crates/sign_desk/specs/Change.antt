-- What one step changes.
use Rattle.std.specs.Prelude.{◌≡◌}
use Rattle.sequential_signer.specs.declared.event.Reply.{Reply}
use Rattle.sequential_signer.specs.declared.event.Reply.TheVariants.{NotNow, OutOfMemory}
use Rattle.sign_desk.specs.DeskState.{DeskState}

-- an event that does not fit, or that ran out of memory, changes nothing
abbrev pub UnchangedBy : {K D : Type 0} → Reply K → DeskState K D → DeskState K D → Type 0
UnchangedBy NotNow old new = new ≡ old
UnchangedBy OutOfMemory old new = new ≡ old
UnchangedBy _ old new = Unit {0}
