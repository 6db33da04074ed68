use Rattle.signer_shared.specs.Asking.{Follows}
use Rattle.signer_shared.specs.Serving.{Advances}
use Rattle.signer_shared.specs.declared.next_step.NextStep.TheVariants.{Begin}
use Rattle.signer_shared.proofs.job_server.JobServer.serve.Given as goal

abbrev pub invariant-loop : goal.invariant-loop
invariant-loop g l =
    Advances (g.S.Surroundings.meaning l.self.around.now) l.self.turns l.job Begin l.fn.pass l.pass l.next
    × Follows (g.S.Surroundings.allows l.history) l.job.call l.fn.pass l.pass l.next
