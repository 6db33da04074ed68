-- A journal that goes on from a desk with a past.
use Rattle.std.specs.Prelude.{◌++◌, List}
use Rattle.sequential_signer.specs.Policy.{Policy}
use Rattle.sequential_signer.specs.declared.event.Entry.{Entry}
use Rattle.desk_parts.specs.Tables.{setup_of}
use Rattle.sign_desk.specs.DeskState.{DeskState, Represents}
use Rattle.sign_desk.specs.Idle.{IdleState, desk_at}
use Rattle.signer_book.specs.BookState.{BookState}

-- the desk that a volume was opened at, the desk as it is now, and the journal of the events between
pub record VolumeState (K D : Type 0) : Type 0 where
  pub opened : DeskState K D
  pub desk : DeskState K D
  pub journal : List (Entry K)

-- a volume, by what its desk kept beside its setup when it was opened
abbrev pub volume_of : {K D : Type 0} → IdleState K → BookState K D → VolumeState K D
volume_of idle kept =
    record { opened = desk_at (setup_of kept.desk) idle; desk = kept.desk; journal = kept.journal }

-- whatever transcript the earlier desk represents, the later one represents that with the journal behind it
abbrev pub Continues : {K D : Type 0} → Policy K D → DeskState K D → List (Entry K) → DeskState K D → Type 0
Continues {K} policy earlier journal later =
    (before : List (Entry K)) → Represents policy earlier before → Represents policy later (before ++ journal)

-- the desk as it is now goes on from the desk that the volume was opened at, by its journal
abbrev pub IsVolume : {K D : Type 0} → Policy K D → VolumeState K D → Type 0
IsVolume policy volume = Continues policy volume.opened volume.journal volume.desk
