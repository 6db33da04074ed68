use Rattle.std.proofs.Common.{sym, subst}
use Rattle.sequential_signer.specs.Policy.{policy_of}
use Rattle.sign_desk.specs.DeskState.{DeskState, Represents}
use Rattle.signer_book.specs.Rotate.{IsRotateCause}
use Rattle.signer_shared.proofs.rotating.RotatingSigner.rotate.Goals as goal

pub returns-in-Ok-clause-continues : goal.returns-in-Ok-clause-continues
returns-in-Ok-clause-continues g c = λ before stood.
    let policy = policy_of g.K.SigningCredential.valid g.K.SigningCredential.valid_at g.D.DeadlineRule.deadline in
    rw (c.share_next.ensures.0, c.share_next.ensures.1)
    (c.in-Ok.ensures.continues before (subst (λ (d : DeskState g.row.K.Denot g.row.D.Denot). Represents policy d before) (sym c.self.view_is) stood))

pub returns-in-Err-clause-why : goal.returns-in-Err-clause-why
returns-in-Err-clause-why g c =
    rw (c.in-Err.ensures.back.0, c.in-Err.ensures.back.2)
    (subst (λ (d : DeskState g.row.K.Denot g.row.D.Denot). IsRotateCause d c.into_inner.result c.args.passes.items c.in-Err.refused.why) c.self.view_is c.in-Err.ensures.why)
