use Rattle.std.proofs.Common.{ap, ◌∙◌}
use Rattle.sequential_signer.specs.Policy.{policy_of}
use Rattle.sequential_signer.specs.Setup.{Setup}
use Rattle.sign_desk.specs.Idle.{desk_at}
use Rattle.signer_book.specs.VolumeState.{VolumeState}
use Rattle.signer_book.proofs.Volumes.{volume-follows}
use Rattle.signer_book.proofs.volume.Volume.apply.Goals as goal

pub invariant_of-self : goal.invariant_of-self
invariant_of-self g c =
    volume-follows (policy_of g.K.SigningCredential.valid g.K.SigningCredential.valid_at g.D.DeadlineRule.deadline) c.self.inside.opened c.self.inside.kept c.apply.new.self c.apply.ensures.setup c.apply.ensures.follows c.self.invariant

pub returns-clause-continues : goal.returns-clause-continues
returns-clause-continues g c =
    volume-follows (policy_of g.K.SigningCredential.valid g.K.SigningCredential.valid_at g.D.DeadlineRule.deadline) c.self.inside.opened c.self.inside.kept c.apply.new.self c.apply.ensures.setup c.apply.ensures.follows c.self.invariant

pub returns-clause-opened : goal.returns-clause-opened
returns-clause-opened g c =
    ap (λ (s : Setup g.row.D.Denot). desk_at s c.self.inside.opened) c.apply.ensures.setup
    ∙ ap (λ (v : VolumeState g.row.K.Denot g.row.D.Denot). v.opened) c.self.view_is
