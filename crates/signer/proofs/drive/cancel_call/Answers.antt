use Rattle.std.proofs.Common.{subst}
use Rattle.sequential_signer.specs.Policy.{policy_for}
use Rattle.sequential_signer.specs.declared.event.Event.TheVariants.{Cancel}
use Rattle.sequential_signer.specs.declared.event.Reply.{Reply}
use Rattle.sign_desk.specs.Steps.{IsStep}
use Rattle.signer.proofs.DeskSteps.{after-cancel}
use Rattle.signer.proofs.drive.cancel_call.Goals as goal

pub returns-clause-step : goal.returns-clause-step
returns-clause-step g c =
    let policy = policy_for g.K.SigningCredential g.D.DeadlineRule in
    subst (λ (r : Reply g.row.K.Denot). IsStep policy (Cancel c.args.begun.now.id) c.args.desk.now r c.step-reply.new.self) c.in-Cancelled.is c.step-reply.ensures.step

pub returns-clause-others : goal.returns-clause-others
returns-clause-others g c =
    let policy = policy_for g.K.SigningCredential g.D.DeadlineRule in
    (after-cancel policy c.args.desk.now c.step-reply.new.self c.step-reply.result c.args.begun.now c.step-reply.ensures.sound c.requires.there c.requires.live.0 c.requires.live.1 c.requires.live.2 c.step-reply.ensures.transition).others

pub unreachable-requires : goal.unreachable-requires
unreachable-requires g c =
    let policy = policy_for g.K.SigningCredential g.D.DeadlineRule in
    let after = (after-cancel policy c.args.desk.now c.step-reply.new.self c.step-reply.result c.args.begun.now c.step-reply.ensures.sound c.requires.there c.requires.live.0 c.requires.live.1 c.requires.live.2 c.step-reply.ensures.transition).after in
    c.in_default.not-Cancelled after.0 after.1
