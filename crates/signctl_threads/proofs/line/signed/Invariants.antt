use Rattle.std.proofs.Common.{◌≡◌, take}
use Rattle.pool_jobs.specs.Run.{signed}
use Rattle.signctl_threads.proofs.line.signed.Given as goal

abbrev pub invariant-loop-entry : goal.invariant-loop-entry
invariant-loop-entry l = l.count ≡ signed (take l.entry-index l.journal)
