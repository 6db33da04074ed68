-- How jobs are counted by their ends.
use Rattle.std.specs.Prelude.{◌+◌, true, if◌then◌else◌}
use Rattle.signer_shared.specs.declared.job.Served.{Served}
use Rattle.signer_shared.specs.declared.next_step.JobEnd.{JobEnd}
use Rattle.signer_shared.specs.declared.next_step.JobEnd.TheVariants.{Done, Refused, NotNow, GivenUp}
use Rattle.signer_shared.specs.declared.next_step.JobEnd.TheVariants.{OutOfMemory}

-- the counts after one more job, which ended so
abbrev pub counted : Served → JobEnd → Served
counted served Done = record served { done = served.done + 1 }
counted served Refused = record served { refused = served.refused + 1 }
counted served NotNow = record served { not_now = served.not_now + 1 }
counted served GivenUp = record served { given_up = served.given_up + 1 }
counted served (OutOfMemory not_now) =
    record served { not_now = served.not_now + (if not_now then 1 else 0); out_of_memory = true }
