use Rattle.concurrent_signer.proofs.Adding.{replied_now}
use Rattle.concurrent_signer.proofs.signer.ConcurrentSigner.report.Goals as goal

pub returns : goal.returns
returns g c =
    replied_now (g.G.Gate.meaning c.args.self.now.gate) c.args.call c.args.head.now c.args.me.now c.step-reply.new.me
    c.step-reply.result c.args.event c.step-reply.ensures.event c.requires c.step-reply.ensures.added
