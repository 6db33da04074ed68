use Rattle.sequential_signer.specs.Policy.{policy_for}
use Rattle.granter.proofs.DeskSteps.{after-poll}
use Rattle.granter.proofs.drive.poll_call.Goals as goal

pub returns-clause-after : goal.returns-clause-after
returns-clause-after g c =
    let policy = policy_for g.K.SigningCredential g.D.DeadlineRule in
    (after-poll policy c.args.desk.now c.step-reply.new.self c.step-reply.result c.args.begun.now c.step-reply.ensures.sound c.requires.there c.args.now c.requires.unpolled c.step-reply.ensures.transition).after

pub returns-clause-others : goal.returns-clause-others
returns-clause-others g c =
    let policy = policy_for g.K.SigningCredential g.D.DeadlineRule in
    (after-poll policy c.args.desk.now c.step-reply.new.self c.step-reply.result c.args.begun.now c.step-reply.ensures.sound c.requires.there c.args.now c.requires.unpolled c.step-reply.ensures.transition).others
