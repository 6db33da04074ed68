-- A desk without live calls.
use Rattle.std.specs.Prelude.{◌≡◌, ℕ, Bool, List, [], Option, map, length}
use Rattle.sequential_signer.specs.Policy.{Policy}
use Rattle.sequential_signer.specs.Setup.{Setup}
use Rattle.sequential_signer.specs.declared.event.Entry.{Entry}
use Rattle.desk_parts.specs.Queue.{Queue}
use Rattle.sign_desk.specs.DeskState.{DeskState, Represents}

-- what a desk without live calls keeps beside its setup: the credential of each cache, the greatest number
-- begun under each handle, and whether a begin was accepted
pub record IdleState (K : Type 0) : Type 0 where
  pub caches : List (Option K)
  pub greatest : List (Option ℕ)
  pub started : Bool

-- a queue with nobody in it
abbrev pub empty_queue : Queue
empty_queue = record { line = []; reserved = 0 }

-- the desk of this setup that keeps this, and has no live call
abbrev pub desk_at : {K D : Type 0} → Setup D → IdleState K → DeskState K D
desk_at setup idle = record {
  loaders = setup.loaders;
  rules = setup.rules;
  handles = setup.handles;
  caches = idle.caches;
  queues = map (λ _. empty_queue) setup.loaders;
  greatest = idle.greatest;
  started = idle.started;
  calls = [];
}

-- the desk has no live call, and keeps this beside its setup
pub record IsIdleAt {K D : Type 0} (desk : DeskState K D) (idle : IdleState K) : Type 0 where
  pub calls : length desk.calls ≡ 0
  pub caches : desk.caches ≡ idle.caches
  pub greatest : desk.greatest ≡ idle.greatest
  pub started : desk.started ≡ idle.started

-- the desk where the caches, the numbers and the mark of a begin are these
abbrev pub with_idle : {K D : Type 0} → IdleState K → DeskState K D → DeskState K D
with_idle idle desk =
    record desk { caches = idle.caches; greatest = idle.greatest; started = idle.started }

-- the desk represents some transcript
abbrev pub RepresentsSome : {K D : Type 0} → Policy K D → DeskState K D → Type 0
RepresentsSome {K} policy desk = (entries : List (Entry K)) × Represents policy desk entries
