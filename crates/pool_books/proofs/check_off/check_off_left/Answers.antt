use Rattle.std.proofs.Common.{arith}
use Rattle.std.specs.HashMap.{keys}
use Rattle.pool_books.specs.declared.job.PoolJob.{PoolJob}
use Rattle.pool_books.proofs.CheckOffSteps.{check_off-step, check_off-fail}
use Rattle.pool_books.proofs.check_off.check_off_left.Goals as goal

pub returns-then-not-take_out : goal.returns-then-not-take_out
returns-then-not-take_out c =
    check_off-fail (λ (j : PoolJob). j.ticket) (keys c.args.index.now) c.args.left.now c.loop-job.job-index c.job-item.result (keys c.loop-job.index) (omega arith) c.job-item.is c.loop-job.invariant
    c.if-not-take_out.ensures

pub loop-job-preserved : goal.loop-job-preserved
loop-job-preserved c =
    check_off-step (λ (j : PoolJob). j.ticket) (keys c.args.index.now) c.args.left.now c.loop-job.job-index c.job-item.result (keys c.loop-job.index) (omega arith) c.job-item.is c.loop-job.invariant
    (keys c.take_out.new.index) c.if-not-take_out.ensures
