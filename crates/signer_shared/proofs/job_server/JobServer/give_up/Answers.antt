use Rattle.std.proofs.Common.{sym, subst}
use Rattle.signer_shared.specs.Asking.{Follows}
use Rattle.signer_shared.specs.declared.next_step.NextStep.{NextStep}
use Rattle.signer_shared.proofs.Askings.{follows_give_up}
use Rattle.signer_shared.proofs.job_server.JobServer.give_up.Goals as goal

pub returns-clause-follows : goal.returns-clause-follows
returns-clause-follows g c = λ start.
    let P : NextStep g.row.S-Credential.Denot → Type 0 = λ n. Follows (g.S.Surroundings.allows c.step.new.history) c.args.job.now.call start c.step.new.pass n in
    subst P (sym c.after.ensures)
    (follows_give_up (g.S.Surroundings.allows c.step.new.history) c.args.job.now.call start c.step.new.pass c.args.pass.now c.step.result c.step.ensures.receipt c.step.ensures.allows)
