use Rattle.std.proofs.Common.{◌≡◌, take}
use Rattle.signer_book.specs.OpenBegins.{is_open}
use Rattle.signer_book.proofs.room.is_open.Given as goal

-- so far
abbrev pub invariant-loop-receipt : goal.invariant-loop-receipt
invariant-loop-receipt g l = l.found ≡ is_open l.call (take l.receipt-index l.receipts)
