use Rattle.signctl_threads.proofs.PoolLines.{every_pool_writes_the_same_line}
use Rattle.signctl_threads.proofs.line_laws.every_pool_writes_the_same_line.Goals as goal

pub returns : goal.returns
returns c = every_pool_writes_the_same_line
