use Rattle.std.proofs.Common.{◌≡◌, []}
use Rattle.desk_parts.specs.Tables.{setup_of}
use Rattle.sign_desk.specs.DeskState.{Represents}
use Rattle.signctl_format.specs.Policy.{script_policy}
use Rattle.pool_jobs.specs.Setup.{pool_setup}
use Rattle.pool_jobs.proofs.desk.pool_desk.Given as goal

abbrev pub invariant-loop-worker : goal.invariant-loop-worker
invariant-loop-worker l = (setup_of l.desk ≡ pool_setup l._worker) × Represents script_policy l.desk []
