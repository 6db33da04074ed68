-- The law of finished queues whose gate answers at once.
use Rattle.std.specs.Prelude.{◌≡◌, ℕ, min}
use Rattle.signctl_format.specs.declared.credential.ScriptCredential.{ScriptCredential}
use Rattle.signctl_format.specs.declared.credential.ScriptRule.{ScriptRule}
use Rattle.pool_books.specs.declared.finished.Finished.{Finished}
use Rattle.pool_jobs.specs.Laws.{NoCallIsRefused}
use Rattle.pool_jobs.specs.Meaning.{pool_meaning}
use Rattle.pool_jobs.specs.Run.{loads, signed}
use Rattle.signctl_threads.specs.Run.{IsFinishedQueue}

-- each event fits and no call is refused or given up; so many jobs are signed; and the provider is asked
-- once, or not at all where there is no job
abbrev pub EveryQueueJobIsSigned : Type 0
EveryQueueJobIsSigned =
    (workers jobs : ℕ) (finished : Finished ScriptCredential ScriptRule)
    → IsFinishedQueue pool_meaning workers jobs finished
    → NoCallIsRefused finished.settled.journal.items × (signed finished.settled.journal.items ≡ jobs)
    × (loads finished.settled.journal.items ≡ min jobs 1)
