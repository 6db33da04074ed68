use Rattle.std.proofs.Common.{take}
use Rattle.signer_shared.proofs.Servings.{ServedSoFar}
use Rattle.signer_shared.proofs.job_server.JobServer.serve_each.Given as goal

abbrev pub invariant-loop-job : goal.invariant-loop-job
invariant-loop-job g l = ServedSoFar (g.S.Surroundings.meaning l.self.around.now) l.self.turns (take l.job-index l.jobs) l.fn.pass l.pass l.served
