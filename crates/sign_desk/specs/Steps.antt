-- Steps one after another.
use Rattle.std.specs.Prelude.{◌≡◌, List, [], ◌∷◌, ◌++◌}
use Rattle.sequential_signer.specs.Policy.{Policy}
use Rattle.sequential_signer.specs.Transcript.{committed_entries}
use Rattle.sequential_signer.specs.Legal.{IsLegalEntry}
use Rattle.sequential_signer.specs.declared.event.Entry.{Entry}
use Rattle.sequential_signer.specs.declared.event.Event.{Event}
use Rattle.sequential_signer.specs.declared.event.Reply.{Reply}
use Rattle.sign_desk.specs.DeskState.{DeskState, Represents}
use Rattle.desk_parts.specs.StepsBy.{StepsBy}
use Rattle.desk_parts.specs.Tables.{setup_of}
use Rattle.sign_desk.specs.Change.{UnchangedBy}
use Rattle.sign_desk.specs.Cause.{cause_of, IsCaused}
use Rattle.sign_desk.specs.CachesAfter.{CachesAfter}
use Rattle.sign_desk.specs.Memory.{RunsOutAtHeads}

-- what a caller knows of a step at this event: the desk before it, its reply, and the desk after it
pub record IsStep {K D : Type 0} (policy : Policy K D) (event : Event K) (old : DeskState K D)
    (reply : Reply K) (new : DeskState K D) : Type 0 where
  pub represents : (entries : List (Entry K)) → Represents policy old entries
      → Represents policy new (entries ++ record { event = event; reply = reply } ∷ [])
  pub expected : (entries : List (Entry K)) → Represents policy old entries
      → IsLegalEntry policy (setup_of old) (committed_entries entries)
      (record { event = event; reply = reply })
  pub causes : IsCaused (cause_of policy old event) reply
  pub caches : CachesAfter event reply old new
  pub setup : setup_of new ≡ setup_of old
  pub unchanged : UnchangedBy reply old new

-- what a caller knows of a step of a run: besides, where clones of a credential take no memory, it runs out
-- of memory at an event that carries a head alone
abbrev pub IsRunStep : {K D : Type 0} → Policy K D → (FreeClones : Type 0) → Event K → DeskState K D → Reply K
    → DeskState K D → Type 0
IsRunStep policy FreeClones event old reply new =
    IsStep policy event old reply new × (FreeClones → RunsOutAtHeads event reply)

-- each event in turn has the reply at its place, by a step from the desk that the step before it left
abbrev pub AreSteps : {K D : Type 0} → Policy K D → (FreeClones : Type 0) → List (Event K) → List (Reply K)
    → DeskState K D → DeskState K D → Type 0
AreSteps policy FreeClones events replies old new =
    StepsBy (IsRunStep policy FreeClones) events replies old new
