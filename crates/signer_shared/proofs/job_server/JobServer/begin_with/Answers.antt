use Rattle.std.proofs.Common.{refl}
use Rattle.signer_shared.proofs.job_server.JobServer.begin_with.Goals as goal

pub start-requires-clause-next : goal.start-requires-clause-next
start-requires-clause-next g c = rw c.requires refl
