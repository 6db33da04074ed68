use Rattle.std.proofs.Common.{subst}
use Rattle.sequential_signer.specs.Policy.{policy_for}
use Rattle.sequential_signer.specs.declared.event.Event.TheVariants.{Signed}
use Rattle.sequential_signer.specs.declared.event.Reply.{Reply}
use Rattle.sequential_signer.specs.declared.event.Verdict.TheVariants as verdict
use Rattle.sign_desk.specs.Steps.{IsStep}
use Rattle.signer.proofs.DeskSteps.{after-rejected}
use Rattle.signer.proofs.drive.report_failed_sign.Goals as goal

pub returns-clause-step : goal.returns-clause-step
returns-clause-step g c =
    let policy = policy_for g.K.SigningCredential g.D.DeadlineRule in
    let done = after-rejected policy c.args.desk.now c.step-refused.new.self c.step-refused.result c.args.begun.now c.step-refused.ensures.sound c.requires.there 0 c.requires.signing c.step-refused.ensures.transition in
    subst (λ (r : Reply g.row.K.Denot). IsStep policy (Signed c.args.begun.now.id (verdict.Failed 0)) c.args.desk.now r c.step-refused.new.self) done.after c.step-refused.ensures.step

pub returns-clause-others : goal.returns-clause-others
returns-clause-others g c =
    let policy = policy_for g.K.SigningCredential g.D.DeadlineRule in
    (after-rejected policy c.args.desk.now c.step-refused.new.self c.step-refused.result c.args.begun.now c.step-refused.ensures.sound c.requires.there 0 c.requires.signing c.step-refused.ensures.transition).others
