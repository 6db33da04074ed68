use Rattle.std.proofs.Common.{refl}
use Rattle.signer_shared.specs.declared.next_step.NextStep.TheVariants.{Begin, Poll, Load, Sign}
use Rattle.signer_shared.proofs.Courses.{stays, goes_further}
use Rattle.signer_shared.proofs.job_server.JobServer.serve.Goals as goal

pub loop-init : goal.loop-init
loop-init g c = (
  stays (g.S.Surroundings.meaning c.args.self.now.around.now) c.args.self.now.turns c.args.job.now Begin c.args.pass.now,
  refl,
)

pub loop-preserved-in-Poll : goal.loop-preserved-in-Poll
loop-preserved-in-Poll g c = (
  goes_further (g.S.Surroundings.meaning c.args.self.now.around.now) c.args.self.now.turns c.args.job.now Begin c.loop.next Poll c.poll.result c.args.pass.now c.loop.pass
      c.poll.new.pass c.loop.invariant.0 c.in-Poll.is c.poll.ensures.advances,
  c.poll.ensures.follows c.args.pass.now,
)

pub loop-preserved-in-Load : goal.loop-preserved-in-Load
loop-preserved-in-Load g c = (
  goes_further (g.S.Surroundings.meaning c.args.self.now.around.now) c.args.self.now.turns c.args.job.now Begin c.loop.next (Load c.in-Load.provider) c.load.result
      c.args.pass.now c.loop.pass c.load.new.pass c.loop.invariant.0 c.in-Load.is c.load.ensures.advances,
  c.load.ensures.follows c.args.pass.now,
)

pub loop-preserved : goal.loop-preserved
loop-preserved g c = (
  goes_further (g.S.Surroundings.meaning c.args.self.now.around.now) c.args.self.now.turns c.args.job.now Begin c.loop.next (Sign c.in-Sign.credential) c.sign.result
      c.args.pass.now c.loop.pass c.sign.new.pass c.loop.invariant.0 c.in-Sign.is c.sign.ensures.advances,
  c.sign.ensures.follows c.args.pass.now,
)
