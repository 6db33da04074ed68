use Rattle.std.proofs.Common.{subst}
use Rattle.sequential_signer.specs.Policy.{policy_for}
use Rattle.sign_desk.specs.DeskState.{DeskState}
use Rattle.sign_desk.specs.StepPrecondition.{StepPrecondition}
use Rattle.sign_desk.proofs.OneStep.{desk-sound}
use Rattle.sign_desk.proofs.desk.Desk.stage_of.Goals as goal

pub returns-clause-sound : goal.returns-clause-sound
returns-clause-sound g c =
    subst (λ (k : DeskState g.row.K.Denot g.row.D.Denot). StepPrecondition k) c.self.view_is
    (desk-sound (policy_for g.K.SigningCredential g.D.DeadlineRule) c.self.inside.state c.self.invariant)

pub returns-in_err-live-clause-sound : goal.returns-in_err-live-clause-sound
returns-in_err-live-clause-sound g c =
    subst (λ (k : DeskState g.row.K.Denot g.row.D.Denot). StepPrecondition k) c.self.view_is
    (desk-sound (policy_for g.K.SigningCredential g.D.DeadlineRule) c.self.inside.state c.self.invariant)
