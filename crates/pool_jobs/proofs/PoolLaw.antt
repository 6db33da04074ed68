-- Each call of the program's pool is signed, and the provider is asked at most once.
use Rattle.std.proofs.Common.{pos, refl, subst, arith}
use Rattle.signctl_format.specs.Policy.{script_policy}
use Rattle.prompt_law.specs.Laws.{SignsAll}
use Rattle.pool_jobs.specs.Laws.{EveryPoolCallIsSigned}
use Rattle.pool_jobs.specs.Meaning.{pool_credential, pool_meaning}
use Rattle.pool_jobs.specs.Setup.{pool_setup}
use Rattle.pool_jobs.specs.Work.{pool_work}
use Rattle.pool_jobs.proofs.PoolLists.{prompt, pool_lists, pool_jobs_in}
pub use Rattle.prompt_law.proofs.PromptLaw.{prompt_calls_are_signed}

pub every_pool_call_is_signed : EveryPoolCallIsSigned
every_pool_call_is_signed workers jobs journal passes served some run =
    subst (λ n. SignsAll n journal served) (pool_jobs_in workers some jobs)
    (prompt_calls_are_signed script_policy pool_meaning (pool_setup workers) pool_credential (pos 0) 1 (pool_work workers jobs) journal passes served
    refl prompt (omega arith) (pool_lists workers some jobs) run.settled run.legal run.serves.0 run.serves.1)
