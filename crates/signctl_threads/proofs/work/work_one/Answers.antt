use Rattle.signctl_threads.proofs.Answering.{works}
use Rattle.signctl_threads.proofs.work.work_one.Goals as goal

pub returns-clause-worker : goal.returns-clause-worker
returns-clause-worker g c =
    (works (g.G.Gate.meaning c.args.gate.now) c.args.pool.now.queue c.args.worker.now c.work.new.seat c.work.result c.requires c.work.ensures.seat c.work.ensures.works).0

pub returns-clause-handle : goal.returns-clause-handle
returns-clause-handle g c =
    (works (g.G.Gate.meaning c.args.gate.now) c.args.pool.now.queue c.args.worker.now c.work.new.seat c.work.result c.requires c.work.ensures.seat c.work.ensures.works).1
