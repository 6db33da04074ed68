use Rattle.signer_shared.proofs.Servings.{stops_there, goes_to_next}
use Rattle.signer_shared.proofs.job_server.JobServer.serve_each.Goals as goal

pub returns-then-served : goal.returns-then-served
returns-then-served g c =
    stops_there (g.S.Surroundings.meaning c.args.self.now.around.now) c.args.self.now.turns c.args.jobs.now c.loop-job.job-index c.job-item.result c.args.pass.now c.loop-job.pass
    c.serve.new.pass c.loop-job.served c.count.new.self c.serve.result c.loop-job-test.true c.job-item.is c.loop-job.invariant c.serve.ensures.advances
    c.count.ensures c.if-served.true

pub loop-job-preserved : goal.loop-job-preserved
loop-job-preserved g c =
    goes_to_next (g.S.Surroundings.meaning c.args.self.now.around.now) c.args.self.now.turns c.args.jobs.now c.loop-job.job-index c.job-item.result c.args.pass.now c.loop-job.pass
    c.serve.new.pass c.loop-job.served c.count.new.self c.serve.result c.loop-job-test.true c.job-item.is c.loop-job.invariant c.serve.ensures.advances
    c.count.ensures c.if-served.false
