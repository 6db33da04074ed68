use Rattle.std.proofs.Common.{List, subst}
use Rattle.sequential_signer.specs.Policy.{policy_for}
use Rattle.sequential_signer.specs.Transcript.{committed_entries}
use Rattle.sequential_signer.specs.Legal.{IsLegalEntry}
use Rattle.sequential_signer.specs.declared.event.Entry.{Entry}
use Rattle.sign_desk.specs.Cause.{cause_of, IsCaused}
use Rattle.sign_desk.specs.DeskState.{DeskState, Represents}
use Rattle.desk_parts.specs.Tables.{setup_of}
use Rattle.sign_desk.proofs.Caused.{previewed-caused}
use Rattle.sign_desk.proofs.OneStep.{desk-sound}
use Rattle.sign_desk.proofs.PreviewedStep.{preview-legal}
use Rattle.sign_desk.proofs.ReplyKinds.{legal-kind}
use Rattle.sign_desk.proofs.desk.Desk.preview.Goals as goal

pub preview-requires : goal.preview-requires
preview-requires g c = desk-sound (policy_for g.K.SigningCredential g.D.DeadlineRule) c.self.inside.state c.self.invariant

pub returns-clause-expected : goal.returns-clause-expected
returns-clause-expected g c =
    let policy = policy_for g.K.SigningCredential g.D.DeadlineRule in
    subst (λ (k : DeskState g.row.K.Denot g.row.D.Denot). (entries : List (Entry g.row.K.Denot)) → Represents policy k entries → IsLegalEntry policy (setup_of k) (committed_entries entries) (record { event = c.args.event.now; reply = c.preview.result })) c.self.view_is
    (λ entries stood. preview-legal policy c.self.inside.state c.self.invariant.set_up c.args.event.now c.preview.result c.preview.ensures.done entries stood)

pub returns-clause-causes : goal.returns-clause-causes
returns-clause-causes g c =
    let policy = policy_for g.K.SigningCredential g.D.DeadlineRule in
    subst (λ (k : DeskState g.row.K.Denot g.row.D.Denot). IsCaused (cause_of policy k c.args.event.now) c.preview.result) c.self.view_is
    (previewed-caused policy c.args.event.now c.self.inside.state c.preview.result c.preview.ensures.done)

pub returns-clause-kind : goal.returns-clause-kind
returns-clause-kind g c =
    let policy = policy_for g.K.SigningCredential g.D.DeadlineRule in
    legal-kind policy (setup_of c.self.inside.state) (committed_entries c.self.invariant.entries) (record { event = c.args.event.now; reply = c.preview.result })
    (preview-legal policy c.self.inside.state c.self.invariant.set_up c.args.event.now c.preview.result c.preview.ensures.done c.self.invariant.entries c.self.invariant.represents)
