use Rattle.std.proofs.Common.{◌≡◌, List, ap}
use Rattle.pool_books.specs.Cleared.{joined, lists_of}
use Rattle.pool_books.specs.declared.job.PoolJob.{PoolJob}
use Rattle.pool_books.proofs.CallNotes.{decides-same}
use Rattle.pool_books.proofs.Indexes.{one-job, kept-job}
use Rattle.pool_books.proofs.cleared.is_as_submitted.Goals as goal

pub returns-in-Some : goal.returns-in-Some
returns-in-Some c =
    let jobs : List PoolJob = joined (lists_of c.args.submitted.now) in
    let mine : PoolJob = c.in-Some.same.now in
    let named = c.in-Some.ensures.0 in
    let here = c.in-Some.ensures.1 in
    decides-same c.have_same_input.result _ _
    (λ there. let same : mine ≡ c.args.job.now = one-job jobs c.requires.apart mine c.args.job.now here there named in (ap (λ (j : PoolJob). j.head) same, ap (λ (j : PoolJob). j.expires_in) same))
    (λ input. kept-job jobs mine c.args.job.now here named input.0 input.1)
    c.have_same_input.ensures
