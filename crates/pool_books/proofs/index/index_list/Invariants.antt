use Rattle.std.proofs.Common.{◌++◌, List, take}
use Rattle.std.specs.Prelude.{All, IsPermutation, IsSomeAnd, slice_get}
use Rattle.std.specs.HashMap.{keys}
use Rattle.std.specs.Prelude.{◌≡◌}
use Rattle.pool_books.specs.Cleared.{tickets_of}
use Rattle.pool_books.specs.Index.{IsPlaceOf}
use Rattle.pool_books.specs.declared.job.PoolJob.{PoolJob}
use Rattle.pool_books.proofs.Tickets.{Apart}
use Rattle.pool_books.proofs.index.index_list.Given as goal

abbrev pub invariant-loop-at : goal.invariant-loop-at
invariant-loop-at l = record {
  apart : Apart (keys l.index);
  keys : IsPermutation (keys l.initial.index ++ tickets_of (take l.at l.jobs)) (keys l.index);
  places : (lists : List (List PoolJob)) → IsSomeAnd (slice_get lists l.submitter) (λ list. list ≡ l.jobs)
      → All (IsPlaceOf lists) l.initial.index.entries → All (IsPlaceOf lists) l.index.entries;
}
