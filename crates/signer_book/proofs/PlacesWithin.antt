-- What closing knows of receipts before it looks for a place that two passes have.
use Rattle.std.proofs.Common.{◌≡◌, ℕ, ◌<◌, List, length, All, arith}
use Rattle.std.proofs.lemmas.List.Elements.{All-weaker}
use Rattle.std.proofs.lemmas.Option.{slice_get_within}
use Rattle.sequential_signer.specs.declared.event.Entry.{Entry}
use Rattle.signer_book.specs.Settled.{IsEntryOf, AreEntriesOf}
use Rattle.signer_book.specs.declared.pass.Receipt.{Receipt}

-- each place is one of the journal
pub places-within : {K : Type 0} (journal : List (Entry K)) (passes : List (List (Receipt K))) (count : ℕ)
    → length journal ≡ count → AreEntriesOf journal passes → All (All (λ r. r.place < count)) passes
places-within {K} journal passes count long entries =
    let Within : Receipt K → Type 0 = λ r. r.place < count in
    All-weaker (All (IsEntryOf journal)) (All Within)
    (λ receipts are. All-weaker (IsEntryOf journal) Within (λ r is. omega (arith, slice_get_within journal r.place r.entry is, long)) receipts are) passes entries
