-- Why a book is not closed: the first of five tests that finds something, and what it finds first.
use Rattle.std.specs.Prelude.{◌≡◌, ◌≢◌, ℕ, ◌<◌, ◌≤◌, ◌-◌, List, Option, Some, length, slice_get, slice_index}
use Rattle.std.specs.Prelude.{option_map, option_and_then, IsSomeAnd, IfSome}
use Rattle.sequential_signer.specs.declared.event.Entry.{Entry}
use Rattle.desk_parts.specs.Tables.{setup_of}
use Rattle.sign_desk.specs.DeskState.{DeskState}
use Rattle.signer_book.specs.BookState.{BookState}
use Rattle.signer_book.specs.Settled.{all_receipts, places, IsEntryOf, IsCounted, AreEntriesOf, AreRising}
use Rattle.signer_book.specs.declared.pass.Receipt.{Receipt}
use Rattle.signer_book.specs.declared.settled.CloseError.{CloseError}
use Rattle.signer_book.specs.declared.settled.CloseError.TheVariants.{Setup, Absent, Differs, Falls, Twice}

-- in this pass the fact holds of this receipt, and of none before it
abbrev pub IsFirstIn : {K : Type 0} → (List (Receipt K) → ℕ → Type 0) → List (Receipt K) → ℕ → Type 0
IsFirstIn P receipts at = P receipts at × ((before : ℕ) → before < at → P receipts before → ⊥)

-- the fact holds of this receipt of this pass, of none before it there, and of none in the passes before
abbrev pub IsFirstAt : {K : Type 0} → (List (Receipt K) → ℕ → Type 0) → List (List (Receipt K))
    → ℕ → ℕ → Type 0
IsFirstAt P passes pass at =
    IsSomeAnd (slice_get passes pass) (λ receipts. IsFirstIn P receipts at)
    × ((q k : ℕ) → q < pass → IfSome (slice_get passes q) (λ receipts. P receipts k → ⊥))

-- the place that a receipt names
abbrev pub place_at : {K : Type 0} → List (List (Receipt K)) → ℕ → ℕ → Option ℕ
place_at passes pass at =
    option_and_then (λ receipts. option_map (λ r. r.place) (slice_get receipts at)) (slice_get passes pass)

-- there is such a receipt, and it is not the journal's entry at its place
abbrev pub DiffersAt : {K : Type 0} → List (Entry K) → List (Receipt K) → ℕ → Type 0
DiffersAt journal receipts at = IsSomeAnd (slice_get receipts at) (λ r. IsEntryOf journal r → ⊥)

-- there is such a receipt, and its place is not above that of the receipt before it
abbrev pub FallsAt : {K : Type 0} → List (Receipt K) → ℕ → Type 0
FallsAt receipts at =
    (0 < at) × (at < length receipts)
    × (slice_index (places receipts) at ≤ slice_index (places receipts) (at - 1))

-- a receipt of this pass names the place
abbrev pub HasPlace : {K : Type 0} → List (List (Receipt K)) → ℕ → ℕ → Type 0
HasPlace passes place pass = (at : ℕ) × (place_at passes pass at ≡ Some place)

-- of the places that passes have, the lowest that two passes have, and the two lowest passes that have it
pub record IsFirstDouble (Has : ℕ → ℕ → Type 0) (place first second : ℕ) : Type 0 where
  pub order : first < second
  pub first_has : Has place first
  pub second_has : Has place second
  pub lowest_passes : (pass : ℕ) → pass < second → Has place pass → pass ≡ first
  pub lowest_place : (lower one other : ℕ) → lower < place → Has lower one → Has lower other → one ≡ other

-- the cause holds, and none of those before it does
abbrev pub IsCloseCause : {K D : Type 0} → DeskState K D → BookState K D → List (List (Receipt K))
    → CloseError → Type 0
IsCloseCause plan book passes Setup = setup_of book.desk ≢ setup_of plan
IsCloseCause plan book passes (Absent have want) =
    (setup_of book.desk ≡ setup_of plan) × (have ≡ length (all_receipts passes))
    × (want ≡ length book.journal) × (have ≢ want)
IsCloseCause plan book passes (Differs pass at place) =
    (setup_of book.desk ≡ setup_of plan) × IsCounted book.journal passes
    × IsFirstAt (DiffersAt book.journal) passes pass at × (place_at passes pass at ≡ Some place)
IsCloseCause plan book passes (Falls pass at) =
    (setup_of book.desk ≡ setup_of plan) × IsCounted book.journal passes × AreEntriesOf book.journal passes
    × IsFirstAt FallsAt passes pass at
IsCloseCause plan book passes (Twice place first second) =
    (setup_of book.desk ≡ setup_of plan) × IsCounted book.journal passes × AreEntriesOf book.journal passes
    × AreRising passes × IsFirstDouble (HasPlace passes) place first second
