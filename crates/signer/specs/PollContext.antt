-- A call that is polled with the objects of a signer.
use Rattle.std.specs.Prelude.{ℤ}
use Rattle.credentials.specs.Operation.{SignOutcome}
use Rattle.credentials.specs.declared.provide.ProvideCredential as ProvideCredential
use Rattle.credentials.specs.declared.sign.SignRequest as SignRequest
use Rattle.sequential_signer.specs.Policy.{policy_of}
use Rattle.sequential_signer.specs.declared.credential.SigningCredential as SigningCredential
use Rattle.sequential_signer.specs.declared.rule.DeadlineRule as DeadlineRule
use Rattle.sign_base.specs.declared.head.Head.{Head}
use Rattle.sign_desk.specs.DeskState.{DeskState}
use Rattle.desk_driver.specs.PolledCall.{PollContextOf, HoldsOfCall}
use Rattle.signer.specs.BegunCall.{BegunCall}
use Rattle.signer.specs.PollEvents.{PollOutcome, IsDriven}
use Rattle.signer.specs.IssuedBy.{IsStateIssued}
use Rattle.signer.specs.SignerObjects.{meanings_of}
use Rattle.signer.specs.StepOutcome.{StepChange, IsStepOutcome}
use Rattle.signer.specs.declared.call_objects.CallObjects.{CallObjects}
use Rattle.signer.specs.declared.sign.SignState.{SignState}
use Rattle.signer.specs.declared.step_outcome.StepOutcome.{StepOutcome}

-- what a poll of a call works with
abbrev pub PollContext : Type 0 → Type 0 → Type 0 → Type 0 → Type 0 → Type 0 → Type 1
PollContext P S K C L W = PollContextOf P S K C L W Head SignOutcome

-- the same by what its credentials, its providers, its rule and its services mean
abbrev pub poll_context : {P S K C L W : Type 0} → SigningCredential.Ghosts K
    → ProvideCredential.Ghosts P K C L → DeadlineRule.Ghosts S K → SignRequest.Ghosts S C W K
    → CallObjects P C → BegunCall → ℤ → PollContext P S K C L W
poll_context credentials providers rule services objects begun now = record {
  policy = policy_of credentials.valid credentials.valid_at rule.deadline;
  clones_freely = credentials.clones_freely;
  meanings = meanings_of providers services;
  providers = objects.providers.now;
  ctx = objects.ctx.now;
  begun = begun;
  now = now;
}

module _ {P S K C L W : Type 0} (d : PollContext P S K C L W) where
  -- the state was issued for the call
  abbrev pub IsIssuedFor : DeskState K S → SignState K L W → Type 0
  IsIssuedFor desk state = HoldsOfCall d desk (λ v. IsStateIssued v.meaning v.begun desk state)

  -- the step of the call in this state
  abbrev pub IsOutcomeWith : SignState K L W → StepChange K S → StepOutcome K L W → Type 0
  IsOutcomeWith state change taken = HoldsOfCall d change.old (λ v. IsStepOutcome v state change taken)

  -- the call in this state is driven by events of the desk, and ends by them
  abbrev pub IsDrivenFrom : SignState K L W → DeskState K S → DeskState K S → PollOutcome P S K C L W → Type 0
  IsDrivenFrom state old new outcome = HoldsOfCall d old (λ v. IsDriven v state old new outcome)
