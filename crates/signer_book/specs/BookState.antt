-- What a book keeps.
use Rattle.std.specs.Prelude.{◌+◌, ◌++◌, ◌≤◌, List, ℕ, length}
use Rattle.sequential_signer.specs.Policy.{Policy}
use Rattle.sequential_signer.specs.declared.event.Entry.{Entry}
use Rattle.sign_desk.specs.DeskState.{DeskState, Represents}

-- a desk, and the journal of its events and replies
pub record BookState (K D : Type 0) : Type 0 where
  pub desk : DeskState K D
  pub journal : List (Entry K)

-- the desk represents some past with the journal behind it, and beside the journal there is room for a cancel
-- of each live call
pub record IsJournaled {K D : Type 0} (policy : Policy K D) (desk : DeskState K D) (journal : List (Entry K))
    (capacity : ℕ) : Type 0 where
  pub past : List (Entry K)
  pub represents : Represents policy desk (past ++ journal)
  pub room : length journal + length desk.calls ≤ capacity
