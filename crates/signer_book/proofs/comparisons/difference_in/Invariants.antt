use Rattle.std.proofs.Common.{All, take}
use Rattle.signer_book.specs.Settled.{IsEntryOf}
use Rattle.signer_book.proofs.comparisons.difference_in.Given as goal

abbrev pub invariant-loop-at : goal.invariant-loop-at
invariant-loop-at g l = All (IsEntryOf l.journal) (take l.at l.receipts)
