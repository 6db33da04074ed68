use Rattle.std.proofs.Common.{ℕ, ◌+◌, ◌<◌, slice_index}
use Rattle.signer_book.specs.Settled.{places}
use Rattle.signer_book.proofs.comparisons.fall_in.Given as goal

abbrev pub invariant-loop-at : goal.invariant-loop-at
invariant-loop-at g l = (k : ℕ) → k + 1 < l.at → slice_index (places l.receipts) k < slice_index (places l.receipts) (k + 1)
