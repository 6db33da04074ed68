-- The begins of which a pass knows no cancel, and the room that is kept for one.
use Rattle.std.specs.Prelude.{ℕ, suc, ◌+◌, ◌≤◌, Bool, false, not, ◌&&◌, ◌||◌, List, [], ◌∷◌, length}
use Rattle.std.specs.Prelude.{if◌then◌else◌}
use Rattle.std.specs.List.{list_any}
use Rattle.sign_base.specs.declared.call_id.CallId.{CallId}
use Rattle.sequential_signer.specs.Transcript.{is_about, call_of}
use Rattle.sequential_signer.specs.Phase.{is_begun}
use Rattle.signer_book.specs.declared.pass.Receipt.{Receipt}
use Rattle.sequential_signer.specs.Replies.{is_cancelled}

-- whether a receipt says that the call was cancelled
abbrev pub cancels_call : {K : Type 0} → CallId → Receipt K → Bool
cancels_call call r = is_about call r.entry && is_cancelled r.entry.reply

-- whether a receipt says that the call was begun
abbrev pub begins_call : {K : Type 0} → CallId → Receipt K → Bool
begins_call call r = is_about call r.entry && is_begun r.entry.reply

-- whether a receipt says that the call was begun, and no later one that it was cancelled
abbrev pub is_open : {K : Type 0} → CallId → List (Receipt K) → Bool
is_open call [] = false
is_open call (r ∷ rest) = (begins_call call r && not (list_any (cancels_call call) rest)) || is_open call rest

-- so many begins are open
abbrev pub open_begins : {K : Type 0} → List (Receipt K) → ℕ
open_begins [] = 0
open_begins (r ∷ rest) =
    if is_begun r.entry.reply && not (list_any (cancels_call (call_of r.entry.event)) rest)
    then suc (open_begins rest)
    else open_begins rest

-- at most so many begins are open, and beside the receipts there is room for a cancel of each
pub record HasReceiptRoom {K : Type 0} (receipts : List (Receipt K)) (spare capacity : ℕ) : Type 0 where
  pub counted : open_begins receipts ≤ spare
  pub room : length receipts + spare ≤ capacity
