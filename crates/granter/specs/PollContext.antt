-- A call that is polled with the objects of a granter.
use Rattle.std.specs.Prelude.{ℤ}
use Rattle.credentials.specs.declared.grant.GrantCredential as GrantCredential
use Rattle.credentials.specs.declared.polled.Polled.{Polled}
use Rattle.credentials.specs.declared.provide.ProvideCredential as ProvideCredential
use Rattle.sequential_signer.specs.Policy.{policy_of}
use Rattle.sequential_signer.specs.declared.credential.SigningCredential as SigningCredential
use Rattle.sequential_signer.specs.declared.rule.DeadlineRule as DeadlineRule
use Rattle.grant_desk.specs.GrantDeskState.{GrantState}
use Rattle.desk_driver.specs.PolledCall.{PollContextOf, HoldsOfCall}
use Rattle.granter.specs.PollEvents.{IsDriven}
use Rattle.granter.specs.GranterObjects.{meanings_of}
use Rattle.granter.specs.IssuedBy.{IsStateIssued}
use Rattle.granter.specs.ObjectPoll.{BegunCall}
use Rattle.granter.specs.StepOutcome.{StepChange, IsStepOutcome}
use Rattle.granter.specs.declared.call_objects.CallObjects.{CallObjects}
use Rattle.granter.specs.declared.grant.CallState.{CallState}
use Rattle.granter.specs.declared.grant_poll.GrantPoll.{GrantPoll}
use Rattle.granter.specs.declared.step_outcome.StepFlow.{StepFlow}

-- what a poll of a call works with
abbrev pub PollContext : Type 0 → Type 0 → Type 0 → Type 0 → Type 0 → Type 0 → Type 1
PollContext P G K C L W = PollContextOf P G K C L W (Unit {0}) (Polled K)

-- the same by what its credentials, its providers, its rule and its services mean
abbrev pub poll_context : {P G K C L W : Type 0} → SigningCredential.Ghosts K
    → ProvideCredential.Ghosts P K C L → DeadlineRule.Ghosts G K → GrantCredential.Ghosts G C W K
    → CallObjects P C → BegunCall → ℤ → PollContext P G K C L W
poll_context credentials providers rule services objects begun now = record {
  policy = policy_of credentials.valid credentials.valid_at rule.deadline;
  clones_freely = credentials.clones_freely;
  meanings = meanings_of providers services;
  providers = objects.providers.now;
  ctx = objects.ctx.now;
  begun = begun;
  now = now;
}

module _ {P G K C L W : Type 0} (d : PollContext P G K C L W) where
  -- the state was issued for the call
  abbrev pub IsIssuedFor : GrantState K G → CallState K L W → Type 0
  IsIssuedFor desk state = HoldsOfCall d desk (λ v. IsStateIssued v.meaning v.begun desk state)

  -- the step of the call in this state
  abbrev pub IsOutcomeWith : CallState K L W → StepChange K G → StepFlow K L W → Type 0
  IsOutcomeWith state change flow = HoldsOfCall d change.old (λ v. IsStepOutcome v state change flow)

  -- the call in this state is driven by events of the desk, and ends by them
  abbrev pub IsDrivenFrom : CallState K L W → GrantState K G → GrantState K G
      → GrantPoll P G K C L C W K → Type 0
  IsDrivenFrom state old new poll = HoldsOfCall d old (λ v. IsDriven v state old new poll)
