-- What holds of every desk of a granter.
use Rattle.std.specs.Prelude.{◌≡◌, false, List, []}
use Rattle.sequential_signer.specs.Policy.{Policy}
use Rattle.sequential_signer.specs.declared.grant_event.GrantEntry.{GrantEntry}
use Rattle.desk_parts.specs.Tables.{setup_of}
use Rattle.desk_parts.specs.WellFormedSetup.{IsWellFormedSetup}
use Rattle.grant_desk.specs.GrantDeskState.{GrantState, GrantRepresents}

-- the desk represents some transcript, and the empty one until a begin is accepted
pub record IsGrantDesk {K D : Type 0} (policy : Policy K D) (desk : GrantState K D) : Type 0 where
  pub set_up : IsWellFormedSetup (setup_of desk)
  pub entries : List (GrantEntry K)
  pub represents : GrantRepresents policy desk entries
  pub empty : desk.started ≡ false → entries ≡ []
