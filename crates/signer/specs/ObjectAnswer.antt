-- What a provider or a service answered, and what is kept of its load or work.
use Rattle.std.specs.Prelude.{◌≡◌}
use Rattle.sign_base.specs.declared.head.Head.{Head}
use Rattle.credentials.specs.declared.polled.Polled.TheVariants as polled
use Rattle.credentials.specs.Operation.{SignOutcome, IsCandidate}
use Rattle.signer.specs.declared.object_answer.WorkAnswer.{WorkAnswer}
use Rattle.signer.specs.declared.object_answer.WorkAnswer.TheVariants as work
use Rattle.signer.specs.declared.sign.WorkState.{WorkState}
use Rattle.signer.specs.declared.sign.WorkState.TheVariants as work_state

module _ {W : Type 0} where
  -- the candidate is the head, or the work was started by the service and the candidate is one for the head,
  -- or what is kept is what the service gives
  abbrev pub IsWorkKept : (W → Type 0) → (SignOutcome → Type 0) → Head → WorkState W → Type 0
  IsWorkKept started gives head (work_state.Unstarted candidate) = candidate ≡ head
  IsWorkKept started gives head (work_state.Started work candidate) =
      started work × IsCandidate gives head candidate
  IsWorkKept started gives head (work_state.Signed candidate) =
      gives (record { answer = polled.Ready tt; candidate = candidate })

  -- the work was not ready, or one that was started now was not
  abbrev pub IsWorkPending : (W → Type 0) → (W → Type 0) → WorkState W → Type 0
  IsWorkPending started ready (work_state.Unstarted candidate) = (work : W) × started work × ¬ (ready work)
  IsWorkPending started ready (work_state.Started work candidate) = ¬ (ready work)
  IsWorkPending started ready (work_state.Signed candidate) = ⊥

  -- what is kept of a work afterwards: a head that was signed stays
  abbrev pub KeepsWork : WorkState W → WorkState W → Type 0
  KeepsWork (work_state.Signed candidate) kept = kept ≡ work_state.Signed candidate
  KeepsWork before kept = Unit {0}

  -- no answer of the work is kept
  abbrev pub IsWorkOpen : WorkState W → Type 0
  IsWorkOpen (work_state.Signed candidate) = ⊥
  IsWorkOpen w = Unit {0}

  -- what is left of a work for which its service had no memory: it is not started yet, or it was
  -- polled, which left this candidate
  abbrev pub WorkRunsOut : (SignOutcome → Type 0) → WorkState W → WorkState W → Type 0
  WorkRunsOut gives before (work_state.Unstarted candidate) =
      (before ≡ work_state.Unstarted candidate)
      × gives (record { answer = polled.OutOfMemory; candidate = candidate })
  WorkRunsOut gives before (work_state.Started work candidate) =
      IsWorkOpen before × gives (record { answer = polled.OutOfMemory; candidate = candidate })
  WorkRunsOut gives before (work_state.Signed candidate) = ⊥

-- what a service means for an operation on a head
pub record ServiceMeaning (W : Type 0) : Type 1 where
  pub started : W → Type 0
  pub ready : W → Type 0
  pub gives : SignOutcome → Type 0
  pub head : Head

-- what the service answered to a poll of what was kept of the work
abbrev pub IsWorkAnswer : {W : Type 0} → ServiceMeaning W → WorkState W → WorkAnswer W → Type 0
IsWorkAnswer m before (work.Pending w candidate) =
    m.started w × IsWorkPending m.started m.ready before
    × m.gives (record { answer = polled.Pending; candidate = candidate })
IsWorkAnswer m before (work.OutOfMemory kept) =
    IsWorkKept m.started m.gives m.head kept × WorkRunsOut m.gives before kept
IsWorkAnswer m before (work.Signed candidate) =
    m.gives (record { answer = polled.Ready tt; candidate = candidate })
    × KeepsWork before (work_state.Signed candidate)
IsWorkAnswer m before (work.Failed e) =
    ((candidate : Head) × m.gives (record { answer = polled.Failed e; candidate = candidate }))
    × IsWorkOpen before
