use Rattle.sequential_signer.specs.Policy.{policy_for}
use Rattle.granter.proofs.DeskSteps.{after-made}
use Rattle.granter.proofs.drive.report_made.Goals as goal

pub returns-clause-after : goal.returns-clause-after
returns-clause-after g c =
    let policy = policy_for g.K.SigningCredential g.D.DeadlineRule in
    (after-made policy c.args.desk.now c.step-reply.new.self c.step-reply.result c.args.begun.now c.step-reply.ensures.sound c.requires.there c.args.now c.args.credential c.requires.granting c.step-reply.ensures.transition).after

pub returns-clause-others : goal.returns-clause-others
returns-clause-others g c =
    let policy = policy_for g.K.SigningCredential g.D.DeadlineRule in
    (after-made policy c.args.desk.now c.step-reply.new.self c.step-reply.result c.args.begun.now c.step-reply.ensures.sound c.requires.there c.args.now c.args.credential c.requires.granting c.step-reply.ensures.transition).others
