use Rattle.std.proofs.Common.{length, subst}
use Rattle.sequential_signer.specs.Policy.{policy_for}
use Rattle.sign_desk.specs.DeskState.{DeskState}
use Rattle.sign_desk.specs.LiveCount.{LiveAfter}
use Rattle.sign_desk.specs.StepPrecondition.{StepPrecondition, AreNumbered}
use Rattle.sign_desk.specs.Steps.{IsStep}
use Rattle.sign_desk.specs.Transition.{Transition}
use Rattle.sign_desk.proofs.LiveCounts.{live-after}
use Rattle.sign_desk.proofs.OneStep.{desk-sound, desk-numbered, desk-after, is-step}
use Rattle.sign_desk.proofs.desk.Desk.step.Goals as goal

pub step-requires : goal.step-requires
step-requires g c = desk-sound (policy_for g.K.SigningCredential g.D.DeadlineRule) c.self.inside.state c.self.invariant

pub invariant_of-self : goal.invariant_of-self
invariant_of-self g c =
    desk-after (policy_for g.K.SigningCredential g.D.DeadlineRule) c.self.inside.state c.self.invariant c.args.event.now c.step.result c.step.new.self c.step.ensures.done

pub returns-clause-step : goal.returns-clause-step
returns-clause-step g c =
    let policy = policy_for g.K.SigningCredential g.D.DeadlineRule in
    subst (λ (k : DeskState g.row.K.Denot g.row.D.Denot). IsStep policy c.args.event.now k c.step.result c.step.new.self) c.self.view_is
    (is-step policy c.self.inside.state c.self.invariant c.args.event.now c.step.result c.step.new.self c.step.ensures.done)

pub returns-clause-transition : goal.returns-clause-transition
returns-clause-transition g c =
    let policy = policy_for g.K.SigningCredential g.D.DeadlineRule in
    subst (λ (k : DeskState g.row.K.Denot g.row.D.Denot). Transition policy c.args.event.now k c.step.result c.step.new.self) c.self.view_is c.step.ensures.done

pub returns-clause-live : goal.returns-clause-live
returns-clause-live g c =
    let policy = policy_for g.K.SigningCredential g.D.DeadlineRule in
    subst (λ (k : DeskState g.row.K.Denot g.row.D.Denot). LiveAfter c.step.result (length k.calls) (length c.step.new.self.calls)) c.self.view_is
    (live-after policy c.self.inside.state c.step.result c.step.new.self c.args.event.now c.step.ensures.done)

pub returns-clause-sound : goal.returns-clause-sound
returns-clause-sound g c =
    subst (λ (k : DeskState g.row.K.Denot g.row.D.Denot). StepPrecondition k) c.self.view_is
    (desk-sound (policy_for g.K.SigningCredential g.D.DeadlineRule) c.self.inside.state c.self.invariant)

pub returns-clause-numbered : goal.returns-clause-numbered
returns-clause-numbered g c =
    subst (λ (k : DeskState g.row.K.Denot g.row.D.Denot). AreNumbered k) c.self.view_is
    (desk-numbered (policy_for g.K.SigningCredential g.D.DeadlineRule) c.self.inside.state c.self.invariant)
