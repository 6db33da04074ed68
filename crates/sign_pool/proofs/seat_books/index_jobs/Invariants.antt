use Rattle.std.proofs.Common.{take}
use Rattle.std.specs.Prelude.{All, IsPermutation}
use Rattle.std.specs.HashMap.{keys}
use Rattle.pool_books.specs.Cleared.{joined, tickets_of}
use Rattle.pool_books.specs.Index.{IsPlaceOf}
use Rattle.sign_pool.specs.Seats.{jobs_of}
use Rattle.pool_books.proofs.Tickets.{Apart}
use Rattle.sign_pool.proofs.seat_books.index_jobs.Given as goal

abbrev pub invariant-loop-submitter : goal.invariant-loop-submitter
invariant-loop-submitter l = record {
  apart : Apart (keys l.index);
  keys : IsPermutation (tickets_of (joined (take l.submitter (jobs_of l.submitters)))) (keys l.index);
  places : All (IsPlaceOf (jobs_of l.submitters)) l.index.entries;
}
