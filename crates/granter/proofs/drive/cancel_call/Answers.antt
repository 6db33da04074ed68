use Rattle.std.proofs.Common.{subst}
use Rattle.sequential_signer.specs.Policy.{policy_for}
use Rattle.sequential_signer.specs.declared.grant_event.GrantEvent.TheVariants.{Cancel}
use Rattle.sequential_signer.specs.declared.grant_event.GrantReply.{GrantReply}
use Rattle.grant_desk.specs.GrantSteps.{IsGrantStep}
use Rattle.granter.proofs.DeskSteps.{after-cancel}
use Rattle.granter.proofs.drive.cancel_call.Goals as goal

pub returns-clause-step : goal.returns-clause-step
returns-clause-step g c =
    let policy = policy_for g.K.SigningCredential g.D.DeadlineRule in
    let done = after-cancel policy c.args.desk.now c.step-cancelled.new.self c.step-cancelled.result c.args.begun.now c.step-cancelled.ensures.sound c.requires.there c.requires.live.0 c.requires.live.1 c.requires.live.2 c.step-cancelled.ensures.transition in
    subst (λ (r : GrantReply g.row.K.Denot). IsGrantStep policy (Cancel c.args.begun.now.id) c.args.desk.now r c.step-cancelled.new.self) done.after c.step-cancelled.ensures.step

pub returns-clause-others : goal.returns-clause-others
returns-clause-others g c =
    let policy = policy_for g.K.SigningCredential g.D.DeadlineRule in
    (after-cancel policy c.args.desk.now c.step-cancelled.new.self c.step-cancelled.result c.args.begun.now c.step-cancelled.ensures.sound c.requires.there c.requires.live.0 c.requires.live.1 c.requires.live.2 c.step-cancelled.ensures.transition).others
