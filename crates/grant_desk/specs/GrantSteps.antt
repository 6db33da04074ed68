-- What a step of a granter's desk does, and steps one after another.
use Rattle.std.specs.Prelude.{◌≡◌, List, [], ◌∷◌, ◌++◌}
use Rattle.sequential_signer.specs.Policy.{Policy}
use Rattle.sequential_signer.specs.GrantTranscript.{committed_grants}
use Rattle.sequential_signer.specs.GrantLegal.{IsLegalGrantEntry}
use Rattle.sequential_signer.specs.declared.event.Answer.TheVariants.{Found}
use Rattle.sequential_signer.specs.declared.grant_event.GrantEntry.{GrantEntry}
use Rattle.sequential_signer.specs.declared.grant_event.GrantEvent.{GrantEvent}
use Rattle.sequential_signer.specs.declared.grant_event.GrantEvent.TheVariants.{Begin, Provided}
use Rattle.sequential_signer.specs.declared.grant_event.GrantReply.{GrantReply}
use Rattle.sequential_signer.specs.declared.grant_event.GrantReply.TheVariants.{NotNow, OutOfMemory, Grant}
use Rattle.desk_parts.specs.Caches.{Caches}
use Rattle.desk_parts.specs.StepsBy.{StepsBy, paired_by}
use Rattle.desk_parts.specs.Tables.{setup_of}
use Rattle.grant_desk.specs.GrantCause.{grant_cause_of, IsGrantCaused}
use Rattle.grant_desk.specs.GrantDeskState.{GrantState, GrantRepresents}

-- a source that is found and handed to the granter is the one found, and its call's cache holds it; every
-- other reply leaves all caches
abbrev pub SourcesAfter : {K D : Type 0} → GrantEvent K → GrantReply K → GrantState K D
    → GrantState K D → Type 0
SourcesAfter (Provided call now (Found c)) (Grant source) old new = (source ≡ c) × Caches call c old new
SourcesAfter event reply old new = new.caches ≡ old.caches

-- an event that does not fit, or that ran out of memory, changes nothing
abbrev pub GrantUnchangedBy : {K D : Type 0} → GrantReply K → GrantState K D → GrantState K D → Type 0
GrantUnchangedBy NotNow old new = new ≡ old
GrantUnchangedBy OutOfMemory old new = new ≡ old
GrantUnchangedBy _ old new = Unit {0}

-- the event begins a call
abbrev pub BeginsGrant : {K : Type 0} → GrantEvent K → Type 0
BeginsGrant (Begin call expires_in) = Unit {0}
BeginsGrant event = ⊥

-- the reply is not out of memory, but at a begin
abbrev pub RunsOutAtBegins : {K : Type 0} → GrantEvent K → GrantReply K → Type 0
RunsOutAtBegins event reply = reply ≡ OutOfMemory → BeginsGrant event

-- what a caller knows of a step at this event: the desk before it, its reply, and the desk after it
pub record IsGrantStep {K D : Type 0} (policy : Policy K D) (event : GrantEvent K) (old : GrantState K D)
    (reply : GrantReply K) (new : GrantState K D) : Type 0 where
  pub represents : (entries : List (GrantEntry K)) → GrantRepresents policy old entries
      → GrantRepresents policy new (entries ++ record { event = event; reply = reply } ∷ [])
  pub expected : (entries : List (GrantEntry K)) → GrantRepresents policy old entries
      → IsLegalGrantEntry policy (setup_of old) (committed_grants entries)
      (record { event = event; reply = reply })
  pub causes : IsGrantCaused (grant_cause_of policy old event) reply
  pub caches : SourcesAfter event reply old new
  pub setup : setup_of new ≡ setup_of old
  pub unchanged : GrantUnchangedBy reply old new

-- what a caller knows of a step of a run: besides, where clones of a credential take no memory, it runs out
-- of memory at a begin alone
abbrev pub IsGrantRunStep : {K D : Type 0} → Policy K D → (FreeClones : Type 0) → GrantEvent K
    → GrantState K D → GrantReply K → GrantState K D → Type 0
IsGrantRunStep policy FreeClones event old reply new =
    IsGrantStep policy event old reply new × (FreeClones → RunsOutAtBegins event reply)

-- each event in turn has the reply at its place, by a step from the desk that the step before it left
abbrev pub AreGrantSteps : {K D : Type 0} → Policy K D → (FreeClones : Type 0) → List (GrantEvent K)
    → List (GrantReply K) → GrantState K D → GrantState K D → Type 0
AreGrantSteps policy FreeClones events replies old new =
    StepsBy (IsGrantRunStep policy FreeClones) events replies old new

-- an event with its reply
abbrev pub grant_entry_of : {K : Type 0} → GrantEvent K → GrantReply K → GrantEntry K
grant_entry_of event reply = record { event = event; reply = reply }

-- each event with the reply at its place
abbrev pub paired_grants : {K : Type 0} → List (GrantEvent K) → List (GrantReply K) → List (GrantEntry K)
paired_grants events replies = paired_by grant_entry_of events replies
