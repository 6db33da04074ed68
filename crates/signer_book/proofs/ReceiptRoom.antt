-- Room for receipts, after one more.
use Rattle.std.proofs.Common.{◌≡◌, ℕ, ◌+◌, ◌-◌, ◌≤◌, Bool, true, false, List, [], ◌∷◌, ◌++◌, length, refl, ap, arith, length-append}
use Rattle.sign_base.proofs.Calls.{same_call-refl}
use Rattle.sequential_signer.specs.Phase.{is_begun}
use Rattle.sequential_signer.specs.Transcript.{call_of}
use Rattle.sequential_signer.specs.declared.event.Entry.{Entry}
use Rattle.sequential_signer.specs.declared.event.Reply.{Reply}
use Rattle.sequential_signer.specs.declared.event.Reply.TheVariants.{Begun, Pending, NotNow, OutOfMemory, Ask, Sign, Refused, Done, Cancelled}
use Rattle.signer_book.specs.declared.pass.Receipt.{Receipt}
use Rattle.signer_book.specs.OpenBegins.{is_open, cancels_call, HasReceiptRoom}
use Rattle.sequential_signer.specs.Replies.{is_cancelled}
use Rattle.signer_book.proofs.OpenBegins.{one_where, open_begins-more, open_begins-cancel}

one_most : (b : Bool) → one_where b ≤ 1
one_most true = omega arith
one_most false = omega arith

no_begin : {K : Type 0} (reply : Reply K) → is_cancelled reply ≡ true → is_begun reply ≡ false
no_begin (Cancelled wake) h = refl
no_begin Begun h = cc
no_begin Pending h = refl
no_begin NotNow h = refl
no_begin OutOfMemory h = refl
no_begin (Ask p) h = refl
no_begin (Sign c wake) h = refl
no_begin (Refused why wake) h = refl
no_begin (Done head) h = refl

module _ {K : Type 0} (rs : List (Receipt K)) (place : ℕ) (e : Entry K) (spare before after capacity : ℕ) (had : HasReceiptRoom rs spare before) where
  abbrev one_more : List (Receipt K)
  one_more = rs ++ record { place = place; entry = e } ∷ []

  -- any reply, with room for one begin more
  pub room_begun : after ≡ spare + 1 → length rs + (after + 1) ≤ capacity
      → HasReceiptRoom (rs ++ record { place = place; entry = e } ∷ []) after capacity
  room_begun is room =
      let r : Receipt K = record { place = place; entry = e } in
      let k = open_begins-more rs (record { place = place; entry = e }) in
      let b = one_most (is_begun e.reply) in
      let n = length-append rs (record { place = place; entry = e } ∷ []) in
      record { counted = omega (arith, k, b, had.counted, is); room = omega (arith, n, room) }

  -- a reply that begins no call
  pub room_same : is_begun e.reply ≡ false → after ≡ spare → length rs + (after + 1) ≤ capacity
      → HasReceiptRoom (rs ++ record { place = place; entry = e } ∷ []) after capacity
  room_same plain is room =
      let k = open_begins-more rs (record { place = place; entry = e }) in
      let b : one_where (is_begun e.reply) ≡ 0 = ap one_where plain in
      let n = length-append rs (record { place = place; entry = e } ∷ []) in
      record { counted = omega (arith, k, b, had.counted, is); room = omega (arith, n, room) }

  -- a cancel of an open call, in the room that was kept for it
  pub room_cancelled : is_cancelled e.reply ≡ true → is_open (call_of e.event) rs ≡ true → after ≡ spare - 1
      → before ≤ capacity
      → (1 ≤ spare) × HasReceiptRoom (rs ++ record { place = place; entry = e } ∷ []) after capacity
  room_cancelled over open_call is room =
      let c : cancels_call (call_of e.event) (record { place = place; entry = e }) ≡ true = rw (same_call-refl (call_of e.event), over) refl in
      let k = open_begins-cancel (call_of e.event) rs (record { place = place; entry = e }) c (no_begin e.reply over) open_call in
      let n = length-append rs (record { place = place; entry = e } ∷ []) in
      let some : 1 ≤ spare = omega (arith, k, had.counted) in
      (some, record { counted = omega (arith, k, had.counted, is, some); room = omega (arith, n, had.room, room, is, some) })
