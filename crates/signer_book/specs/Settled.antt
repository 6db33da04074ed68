-- A journal is exactly the receipts of some passes.
use Rattle.std.specs.Prelude.{◌≡◌, ◌≢◌, ℕ, List, Some, length, map, slice_get, All, AllPairs}
use Rattle.std.specs.List.{flat_map}
use Rattle.std.specs.List.Sorted.{IsStrictlyIncreasing}
use Rattle.sequential_signer.specs.declared.event.Entry.{Entry}
use Rattle.signer_book.specs.declared.pass.Receipt.{Receipt}

-- the receipts of all passes, pass by pass
abbrev pub all_receipts : {K : Type 0} → List (List (Receipt K)) → List (Receipt K)
all_receipts passes = flat_map (λ receipts. receipts) passes

-- the places that receipts name
abbrev pub places : {K : Type 0} → List (Receipt K) → List ℕ
places receipts = map (λ r. r.place) receipts

-- the receipt's entry is the journal's at its place
abbrev pub IsEntryOf : {K : Type 0} → List (Entry K) → Receipt K → Type 0
IsEntryOf journal r = slice_get journal r.place ≡ Some r.entry

-- the journal has as many entries as the passes have receipts
abbrev pub IsCounted : {K : Type 0} → List (Entry K) → List (List (Receipt K)) → Type 0
IsCounted journal passes = length (all_receipts passes) ≡ length journal

-- each receipt of each pass is an entry of the journal
abbrev pub AreEntriesOf : {K : Type 0} → List (Entry K) → List (List (Receipt K)) → Type 0
AreEntriesOf journal passes = All (All (IsEntryOf journal)) passes

-- in each pass the places rise
abbrev pub AreRising : {K : Type 0} → List (List (Receipt K)) → Type 0
AreRising passes = All (λ receipts. IsStrictlyIncreasing (places receipts)) passes

-- no two receipts name one place
abbrev pub AreDistinct : {K : Type 0} → List (List (Receipt K)) → Type 0
AreDistinct passes = AllPairs (λ a b. a.place ≢ b.place) (all_receipts passes)

-- the journal is the steps of these passes and no others
pub record IsSettled {K : Type 0} (journal : List (Entry K)) (passes : List (List (Receipt K))) : Type 0 where
  pub counted : IsCounted journal passes
  pub entries : AreEntriesOf journal passes
  pub rising : AreRising passes
  pub distinct : AreDistinct passes
