use Rattle.sequential_signer.specs.Policy.{policy_of}
use Rattle.sequential_signer.specs.Transcript.{committed_entries}
use Rattle.desk_parts.specs.Tables.{setup_of}
use Rattle.sign_desk.proofs.ReplyKinds.{legal-kind}
use Rattle.concurrent_signer.proofs.locked_desk.LockedDesk.step_owned.Goals as goal

pub returns-clause-kind : goal.returns-clause-kind
returns-clause-kind g c =
    let policy = policy_of g.K.SigningCredential.valid g.K.SigningCredential.valid_at g.D.DeadlineRule.deadline in
    let history = c.self.inside.history in
    legal-kind policy (setup_of c.self.inside.desk) (committed_entries history)
    (record { event = c.args.event; reply = c.step_owned-reply.result }) (c.step_owned-reply.ensures.step.expected history c.self.invariant.0)
