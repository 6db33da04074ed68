use Rattle.std.proofs.Common.{arith}
use Rattle.std.specs.Prelude.{Contains}
use Rattle.signer_book.proofs.Receipts.{all-more, all-end}
use Rattle.pool_books.specs.Cleared.{joined, lists_of}
use Rattle.pool_books.proofs.Joined.{all-at}
use Rattle.pool_books.proofs.cleared.are_as_submitted.Goals as goal

pub returns-then-not-is_as_submitted : goal.returns-then-not-is_as_submitted
returns-then-not-is_as_submitted c = λ all.
    c.if-not-is_as_submitted.ensures (all-at (Contains (joined (lists_of c.args.submitted.now))) c.args.left.now c.loop-job.job-index c.job-item.result (omega arith) c.job-item.is all)

pub loop-job-preserved : goal.loop-job-preserved
loop-job-preserved c =
    all-more c.args.left.now (Contains (joined (lists_of c.args.submitted.now))) c.loop-job.job-index c.job-item.result (omega arith) c.job-item.is c.loop-job.invariant c.if-not-is_as_submitted.ensures

pub returns : goal.returns
returns c = all-end c.args.left.now (Contains (joined (lists_of c.args.submitted.now))) c.loop-job.job-index (omega arith) c.loop-job.invariant
