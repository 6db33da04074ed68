use Rattle.std.proofs.Common.{◌≡◌, length, take}
use Rattle.pool_books.specs.Cleared.{joined, lists_of}
use Rattle.signctl_threads.proofs.books.count_all.Given as goal

abbrev pub invariant-loop-list : goal.invariant-loop-list
invariant-loop-list g l = l.count ≡ length (joined (lists_of (take l.list-index l.lists)))
