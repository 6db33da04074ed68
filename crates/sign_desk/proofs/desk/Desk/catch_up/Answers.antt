use Rattle.std.proofs.Common.{◌≡◌, sym, ◌∙◌, ap, subst}
use Rattle.sequential_signer.specs.Policy.{policy_for}
use Rattle.sign_desk.specs.DeskState.{DeskState}
use Rattle.sign_desk.specs.IsDesk.{IsDesk}
use Rattle.sign_desk.specs.Idle.{with_idle}
use Rattle.sign_desk.proofs.IdleDesks.{idle-like}
use Rattle.sign_desk.proofs.desk.Desk.catch_up.Goals as goal

pub invariant_of-self : goal.invariant_of-self
invariant_of-self g c =
    let policy = policy_for g.K.SigningCredential g.D.DeadlineRule in
    let stood : IsDesk policy c.args.self.now = subst (IsDesk policy) c.self.view_is c.self.invariant in
    let like : c.take_over.new.self ≡ c.args.other.now =
    c.take_over.ensures
    ∙ ap (λ (d : DeskState g.row.K.Denot g.row.D.Denot). with_idle c.in_ok-idle.idle d) c.self.view_is
    ∙ idle-like policy c.args.self.now stood c.requires.idle c.args.other.now c.requires.setup c.in_ok-idle.idle c.in_ok-idle.ensures.copied in
    subst (IsDesk policy) (c.other.view_is ∙ sym like) c.other.invariant

pub returns-clause-ok : goal.returns-clause-ok
returns-clause-ok g c =
    let policy = policy_for g.K.SigningCredential g.D.DeadlineRule in
    let stood : IsDesk policy c.args.self.now = subst (IsDesk policy) c.self.view_is c.self.invariant in
    c.take_over.ensures
    ∙ ap (λ (d : DeskState g.row.K.Denot g.row.D.Denot). with_idle c.in_ok-idle.idle d) c.self.view_is
    ∙ idle-like policy c.args.self.now stood c.requires.idle c.args.other.now c.requires.setup c.in_ok-idle.idle c.in_ok-idle.ensures.copied
