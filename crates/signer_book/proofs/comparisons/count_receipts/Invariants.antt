use Rattle.std.proofs.Common.{◌≡◌, ◌≤◌, ◌*◌, length, take}
use Rattle.signer_book.specs.Settled.{all_receipts}
use Rattle.signer_book.proofs.comparisons.count_receipts.Given as goal

abbrev pub invariant-loop-pass : goal.invariant-loop-pass
invariant-loop-pass g l = record {
  counted : l.count ≡ length (all_receipts (take l.pass-index l.passes));
  small : l.count ≤ l.pass-index * 18446744073709551616;
}
