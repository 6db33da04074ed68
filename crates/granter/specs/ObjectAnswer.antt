-- What a granting service answered, and what is kept of its work.
use Rattle.std.specs.Prelude.{◌≡◌}
use Rattle.credentials.specs.declared.polled.Polled.{Polled}
use Rattle.credentials.specs.declared.polled.Polled.TheVariants as polled
use Rattle.granter.specs.declared.object_answer.WorkAnswer.{WorkAnswer}
use Rattle.granter.specs.declared.object_answer.WorkAnswer.TheVariants.{Pending, OutOfMemory, Made, Failed}
use Rattle.granter.specs.declared.grant.WorkState.{WorkState}
use Rattle.granter.specs.declared.grant.WorkState.TheVariants as work_state

module _ {K W : Type 0} where
  -- the work was started by the service, or what is kept is what the service gives
  abbrev pub IsWorkKept : (W → Type 0) → (Polled K → Type 0) → WorkState K W → Type 0
  IsWorkKept started gives work_state.Unstarted = Unit {0}
  IsWorkKept started gives (work_state.Started work) = started work
  IsWorkKept started gives (work_state.Made credential) = gives (polled.Ready credential)

  -- the work was not ready, or one that was started now was not
  abbrev pub IsWorkPending : (W → Type 0) → (W → Type 0) → WorkState K W → Type 0
  IsWorkPending started ready work_state.Unstarted = (work : W) × started work × ¬ (ready work)
  IsWorkPending started ready (work_state.Started work) = ¬ (ready work)
  IsWorkPending started ready (work_state.Made credential) = ⊥

  -- what is kept of a work afterwards: a credential that was made stays
  abbrev pub KeepsWork : WorkState K W → WorkState K W → Type 0
  KeepsWork (work_state.Made credential) kept = kept ≡ work_state.Made credential
  KeepsWork before kept = Unit {0}

  -- no answer of the work is kept
  abbrev pub IsWorkOpen : WorkState K W → Type 0
  IsWorkOpen (work_state.Made credential) = ⊥
  IsWorkOpen w = Unit {0}

  -- what is left of a work for which its service had no memory: it is not started yet, or it was polled
  abbrev pub WorkRunsOut : (Polled K → Type 0) → WorkState K W → WorkState K W → Type 0
  WorkRunsOut gives before work_state.Unstarted = (before ≡ work_state.Unstarted) × gives polled.OutOfMemory
  WorkRunsOut gives before (work_state.Started work) = IsWorkOpen before × gives polled.OutOfMemory
  WorkRunsOut gives before (work_state.Made credential) = ⊥

-- what a granting service means for an operation
pub record ServiceMeaning (K W : Type 0) : Type 1 where
  pub started : W → Type 0
  pub ready : W → Type 0
  pub gives : Polled K → Type 0

-- what the service answered to a poll of what was kept of the work
abbrev pub IsWorkAnswer : {K W : Type 0} → ServiceMeaning K W → WorkState K W → WorkAnswer K W → Type 0
IsWorkAnswer m before (Pending work) = m.started work × IsWorkPending m.started m.ready before
IsWorkAnswer m before (OutOfMemory kept) = IsWorkKept m.started m.gives kept × WorkRunsOut m.gives before kept
IsWorkAnswer m before (Made credential) =
    m.gives (polled.Ready credential) × KeepsWork before (work_state.Made credential)
IsWorkAnswer m before (Failed e) = m.gives (polled.Failed e) × IsWorkOpen before
