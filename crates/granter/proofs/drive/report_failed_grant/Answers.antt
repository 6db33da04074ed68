use Rattle.std.proofs.Common.{subst}
use Rattle.sequential_signer.specs.Policy.{policy_for}
use Rattle.sequential_signer.specs.declared.grant_event.GrantEvent.TheVariants.{Granted}
use Rattle.sequential_signer.specs.declared.grant_event.Made.TheVariants as made
use Rattle.sequential_signer.specs.declared.grant_event.GrantReply.{GrantReply}
use Rattle.grant_desk.specs.GrantSteps.{IsGrantStep}
use Rattle.granter.proofs.DeskSteps.{after-unmade}
use Rattle.granter.proofs.drive.report_failed_grant.Goals as goal

pub returns-clause-step : goal.returns-clause-step
returns-clause-step g c =
    let policy = policy_for g.K.SigningCredential g.D.DeadlineRule in
    let done = after-unmade policy c.args.desk.now c.step-refused.new.self c.step-refused.result c.args.begun.now c.step-refused.ensures.sound c.requires.there c.args.now 0 c.requires.granting c.step-refused.ensures.transition in
    subst (λ (r : GrantReply g.row.K.Denot). IsGrantStep policy (Granted c.args.begun.now.id c.args.now (made.Failed 0)) c.args.desk.now r c.step-refused.new.self) done.after c.step-refused.ensures.step

pub returns-clause-others : goal.returns-clause-others
returns-clause-others g c =
    let policy = policy_for g.K.SigningCredential g.D.DeadlineRule in
    (after-unmade policy c.args.desk.now c.step-refused.new.self c.step-refused.result c.args.begun.now c.step-refused.ensures.sound c.requires.there c.args.now 0 c.requires.granting c.step-refused.ensures.transition).others
