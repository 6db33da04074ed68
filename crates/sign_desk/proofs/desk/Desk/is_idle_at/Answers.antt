use Rattle.std.proofs.Common.{◌≡◌, ◌≢◌, MatchBool, subst}
use Rattle.sequential_signer.specs.Policy.{policy_for}
use Rattle.desk_parts.specs.Tables.{setup_of}
use Rattle.sign_desk.specs.DeskState.{DeskState}
use Rattle.sign_desk.specs.Idle.{desk_at}
use Rattle.sign_desk.proofs.IdleDesks.{idle-test}
use Rattle.sign_desk.proofs.desk.Desk.is_idle_at.Goals as goal

pub returns : goal.returns
returns g c =
    subst (λ (d : DeskState g.row.K.Denot g.row.D.Denot). MatchBool c.keeps.result (d ≡ desk_at (setup_of d) c.args.idle.now) (d ≢ desk_at (setup_of d) c.args.idle.now)) c.self.view_is
    (idle-test (policy_for g.K.SigningCredential g.D.DeadlineRule) c.self.inside.state c.self.invariant c.args.idle.now c.keeps.result c.keeps.ensures)
