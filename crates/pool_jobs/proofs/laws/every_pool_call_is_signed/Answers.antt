use Rattle.pool_jobs.proofs.PoolLaw.{every_pool_call_is_signed}
use Rattle.pool_jobs.proofs.laws.every_pool_call_is_signed.Goals as goal

pub returns : goal.returns
returns c = every_pool_call_is_signed
