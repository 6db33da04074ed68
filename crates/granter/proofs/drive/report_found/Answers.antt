use Rattle.sequential_signer.specs.Policy.{policy_for}
use Rattle.granter.proofs.DeskSteps.{after-found}
use Rattle.granter.proofs.drive.report_found.Goals as goal

pub returns-clause-after : goal.returns-clause-after
returns-clause-after g c =
    let policy = policy_for g.K.SigningCredential g.D.DeadlineRule in
    (after-found policy c.args.desk.now c.step-reply.new.self c.step-reply.result c.args.begun.now c.step-reply.ensures.sound c.requires.there c.args.now c.args.provider c.args.source c.requires.asking c.step-reply.ensures.transition).after

pub returns-clause-others : goal.returns-clause-others
returns-clause-others g c =
    let policy = policy_for g.K.SigningCredential g.D.DeadlineRule in
    (after-found policy c.args.desk.now c.step-reply.new.self c.step-reply.result c.args.begun.now c.step-reply.ensures.sound c.requires.there c.args.now c.args.provider c.args.source c.requires.asking c.step-reply.ensures.transition).others
