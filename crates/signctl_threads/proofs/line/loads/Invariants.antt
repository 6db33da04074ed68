use Rattle.std.proofs.Common.{◌≡◌, take}
use Rattle.pool_jobs.specs.Run.{loads}
use Rattle.signctl_threads.proofs.line.loads.Given as goal

abbrev pub invariant-loop-entry : goal.invariant-loop-entry
invariant-loop-entry l = l.count ≡ loads (take l.entry-index l.journal)
