use Rattle.sequential_signer.specs.Policy.{policy_for}
use Rattle.granter.proofs.DeskSteps.{after-failed}
use Rattle.granter.proofs.drive.report_failed_load.Goals as goal

pub returns-clause-after : goal.returns-clause-after
returns-clause-after g c =
    let policy = policy_for g.K.SigningCredential g.D.DeadlineRule in
    (after-failed policy c.args.desk.now c.step-reply.new.self c.step-reply.result c.args.begun.now c.step-reply.ensures.sound c.requires.there c.args.now c.args.provider 0 c.requires.asking c.step-reply.ensures.transition).after

pub returns-clause-others : goal.returns-clause-others
returns-clause-others g c =
    let policy = policy_for g.K.SigningCredential g.D.DeadlineRule in
    (after-failed policy c.args.desk.now c.step-reply.new.self c.step-reply.result c.args.begun.now c.step-reply.ensures.sound c.requires.there c.args.now c.args.provider 0 c.requires.asking c.step-reply.ensures.transition).others
