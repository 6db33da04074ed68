-- What providers and services answered to a poll, and what a gate makes of a load.
use Rattle.credentials.specs.Operation.{SignOutcome}
use Rattle.credentials.specs.declared.polled.Polled.TheVariants as polled
use Rattle.desk_driver.specs.declared.load_state.LoadAnswer.{LoadAnswer}
use Rattle.desk_driver.specs.declared.load_state.LoadAnswer.TheVariants as load
use Rattle.sequential_signer.specs.declared.event.Answer.TheVariants.{Found, Missing, Failed}
use Rattle.sign_base.specs.declared.head.Head.{Head}
use Rattle.signer_shared.specs.declared.gate.GateLoad.{GateLoad}
use Rattle.signer_shared.specs.declared.gate.GateLoad.TheVariants as gate
use Rattle.object_gate.specs.Cause.{error_number}
use Rattle.object_gate.specs.declared.work_answer.WorkAnswer.{WorkAnswer}
use Rattle.object_gate.specs.declared.work_answer.WorkAnswer.TheVariants as work

-- the answer is one that the service gives for the work, which can be polled again where it is pending
abbrev pub IsWorkAnswer : {W : Type 0} → (W → Type 0) → (SignOutcome → Type 0) → WorkAnswer W → Type 0
IsWorkAnswer started gives (work.Pending kept candidate) =
    started kept × gives (record { answer = polled.Pending; candidate = candidate })
IsWorkAnswer started gives (work.Signed candidate) =
    gives (record { answer = polled.Ready tt; candidate = candidate })
IsWorkAnswer started gives (work.Failed e) =
    (candidate : Head) × gives (record { answer = polled.Failed e; candidate = candidate })
IsWorkAnswer started gives work.OutOfMemory = Unit {0}

-- what a gate says of a provider's answer
abbrev pub gate_load : {K L : Type 0} → LoadAnswer K L → GateLoad K
gate_load (load.Pending kept) = gate.NotYet
gate_load (load.OutOfMemory kept) = gate.OutOfMemory
gate_load (load.Found credential) = gate.Answer (Found credential)
gate_load load.Missing = gate.Answer Missing
gate_load (load.Failed e) = gate.Answer (Failed (error_number e.kind))
