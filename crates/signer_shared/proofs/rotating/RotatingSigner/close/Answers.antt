use Rattle.std.proofs.Common.{subst}
use Rattle.sequential_signer.specs.Policy.{policy_of}
use Rattle.sign_desk.specs.DeskState.{DeskState}
use Rattle.signer_book.specs.VolumeState.{Continues}
use Rattle.signer_shared.proofs.rotating.RotatingSigner.close.Goals as goal

pub returns-in-Ok-clause-continues : goal.returns-in-Ok-clause-continues
returns-in-Ok-clause-continues g c =
    let policy = policy_of g.K.SigningCredential.valid g.K.SigningCredential.valid_at g.D.DeadlineRule.deadline in
    subst (λ (d : DeskState g.row.K.Denot g.row.D.Denot). Continues policy d c.in-Ok.settled.journal.items c.in-Ok.settled.desk) c.self.view_is c.in-Ok.ensures.continues
