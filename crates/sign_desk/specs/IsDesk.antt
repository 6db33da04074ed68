-- What holds of every desk.
use Rattle.std.specs.Prelude.{◌≡◌, false, List, []}
use Rattle.sequential_signer.specs.Policy.{Policy}
use Rattle.sequential_signer.specs.declared.event.Entry.{Entry}
use Rattle.desk_parts.specs.Tables.{setup_of}
use Rattle.desk_parts.specs.WellFormedSetup.{IsWellFormedSetup}
use Rattle.sign_desk.specs.DeskState.{DeskState, Represents}

-- the desk represents some transcript, and the empty one until a begin is accepted
pub record IsDesk {K D : Type 0} (policy : Policy K D) (desk : DeskState K D) : Type 0 where
  pub set_up : IsWellFormedSetup (setup_of desk)
  pub entries : List (Entry K)
  pub represents : Represents policy desk entries
  pub empty : desk.started ≡ false → entries ≡ []
