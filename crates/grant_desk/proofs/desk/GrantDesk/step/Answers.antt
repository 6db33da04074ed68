use Rattle.std.proofs.Common.{subst}
use Rattle.sequential_signer.specs.Policy.{policy_for}
use Rattle.grant_desk.specs.GrantDeskState.{GrantState}
use Rattle.grant_desk.specs.GrantPlaces.{GrantPrecondition}
use Rattle.grant_desk.specs.GrantSteps.{IsGrantStep}
use Rattle.grant_desk.proofs.GrantStepTaken.{grant_desk-precondition, grant_desk-after, grant_step-taken}
use Rattle.grant_desk.proofs.desk.GrantDesk.step.Goals as goal

pub step-requires : goal.step-requires
step-requires g c = grant_desk-precondition (policy_for g.K.SigningCredential g.D.DeadlineRule) c.self.inside.state c.self.invariant

pub invariant_of-self : goal.invariant_of-self
invariant_of-self g c =
    let policy = policy_for g.K.SigningCredential g.D.DeadlineRule in
    grant_desk-after policy c.self.inside.state c.self.invariant c.args.event.now c.step.result c.step.new.self c.step.ensures.done

pub returns-clause-step : goal.returns-clause-step
returns-clause-step g c =
    let policy = policy_for g.K.SigningCredential g.D.DeadlineRule in
    subst (λ (k : GrantState g.row.K.Denot g.row.D.Denot). IsGrantStep policy c.args.event.now k c.step.result c.step.new.self) c.self.view_is
    (grant_step-taken policy c.self.inside.state c.self.invariant c.args.event.now c.step.result c.step.new.self c.step.ensures.done)

pub returns-clause-sound : goal.returns-clause-sound
returns-clause-sound g c =
    subst (λ (k : GrantState g.row.K.Denot g.row.D.Denot). GrantPrecondition k) c.self.view_is
    (grant_desk-precondition (policy_for g.K.SigningCredential g.D.DeadlineRule) c.self.inside.state c.self.invariant)
