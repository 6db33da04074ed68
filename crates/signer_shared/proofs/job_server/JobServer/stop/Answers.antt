use Rattle.std.proofs.Common.{refl, ap, ◌∙◌, sym, subst, List}
use Rattle.sequential_signer.specs.Phase.{is_not_now}
use Rattle.sequential_signer.specs.declared.event.Event.TheVariants as event
use Rattle.signer_shared.specs.Asking.{Follows}
use Rattle.signer_shared.specs.Serving.{runs_out}
use Rattle.signer_shared.specs.declared.next_step.JobEnd.TheVariants as ended
use Rattle.signer_shared.specs.declared.next_step.NextStep.{NextStep}
use Rattle.signer_shared.specs.declared.next_step.NextStep.TheVariants as next
use Rattle.signer_shared.proofs.Askings.{follows_stop}
use Rattle.signer_shared.proofs.Courses.{live_open, steps_last}
use Rattle.signer_shared.proofs.job_server.JobServer.stop.Goals as goal

pub returns-clause-advances : goal.returns-clause-advances
returns-clause-advances g c = λ before live.
    steps_last (g.S.Surroundings.meaning c.args.self.now.around.now) c.args.self.now.turns c.args.job.now before c.stopped.result c.args.pass.now c.step-reply.new.pass
    (event.Cancel c.args.job.now.call) c.step-reply.result (live_open before live) c.step-reply.ensures.receipt c.step-reply.ensures.unchanged c.step-reply.ensures.kind
    (runs_out live refl c.stopped.ensures)
    (λ out. c.stopped.ensures ∙ ap (λ r. next.Over (ended.OutOfMemory (is_not_now r))) out)

pub returns-clause-follows : goal.returns-clause-follows
returns-clause-follows g c = λ start.
    let P : NextStep g.row.S-Credential.Denot → Type 0 = λ n. Follows (g.S.Surroundings.allows c.step-reply.new.history) c.args.job.now.call start c.step-reply.new.pass n in
    subst P (sym c.stopped.ensures)
    (follows_stop (g.S.Surroundings.allows c.step-reply.new.history) c.args.job.now.call start c.step-reply.new.pass c.args.pass.now c.step-reply.result c.step-reply.ensures.receipt c.step-reply.ensures.allows)
