-- The lines of a pool and of a queue whose gate answers at once.
use Rattle.std.proofs.Common.{refl, ap}
use Rattle.pool_jobs.proofs.PoolLaw.{every_pool_call_is_signed}
use Rattle.signctl_threads.proofs.PromptQueues.{every_queue_job_is_signed}
use Rattle.signctl_threads.specs.LineLaws.{EveryPoolWritesTheSameLine, EveryQueueWritesTheSameLine}
use Rattle.signctl_threads.specs.Line.{books_line}

pub every_pool_writes_the_same_line : EveryPoolWritesTheSameLine
every_pool_writes_the_same_line workers jobs settled some pool =
    let all = every_pool_call_is_signed workers jobs settled.journal.items settled.passes.items pool.run.0 some pool.run.1 in
    rw (all.signed, all.loads) refl

pub every_queue_writes_the_same_line : EveryQueueWritesTheSameLine
every_queue_writes_the_same_line workers jobs finished queue =
    ap (λ n. books_line jobs jobs 0 n) (every_queue_job_is_signed workers jobs finished queue).2
