use Rattle.std.proofs.Common.{rules, ◌≡◌, ◌≤◌, ◌+◌, ◌-◌, true, false, length, vec_capacity, refl, sym, ◌∙◌}
use Rattle.sequential_signer.specs.Phase.{is_begun}
use Rattle.sequential_signer.specs.Transcript.{call_of}
use Rattle.signer_book.specs.OpenBegins.{is_open}
use Rattle.sequential_signer.specs.Replies.{is_cancelled}
use Rattle.signer_book.proofs.ReceiptRoom.{room_begun, room_same, room_cancelled}
use Rattle.signer_book.proofs.room.take_receipt_room.Goals as goal

pub returns-then-is_begun-clause-after : goal.returns-then-is_begun-clause-after
returns-then-is_begun-clause-after g c =
    let more : c.in_ok-more.more ≡ c.args.spare + 1 = search rules in
    let room : length c.args.receipts.now.items + (c.in_ok-more.more + 1) ≤ vec_capacity c.reserve.new.self = search rules in
    λ place. room_begun c.args.receipts.now.items place c.args.entry.now c.args.spare (vec_capacity c.args.receipts.now) c.in_ok-more.more (vec_capacity c.reserve.new.self) c.requires more room

pub returns-then-is_ok-clause-after : goal.returns-then-is_ok-clause-after
returns-then-is_ok-clause-after g c =
    let plain : is_begun c.args.entry.now.reply ≡ false = sym c.is_begun.ensures ∙ c.if-is_begun.false in
    let room : length c.args.receipts.now.items + (c.args.spare + 1) ≤ vec_capacity c.reserve-2.new.self = search rules in
    λ place. room_same c.args.receipts.now.items place c.args.entry.now c.args.spare (vec_capacity c.args.receipts.now) c.args.spare (vec_capacity c.reserve-2.new.self) c.requires plain refl room

pub overflow_sub-result : goal.overflow_sub-result
overflow_sub-result g c =
    let over : is_cancelled c.args.entry.now.reply ≡ true = search rules in
    let is : is_open (call_of c.args.entry.now.event) c.args.receipts.now.items ≡ true = search rules in
    (room_cancelled c.args.receipts.now.items 0 c.args.entry.now c.args.spare (vec_capacity c.args.receipts.now) (c.args.spare - 1) (vec_capacity c.reserve-2.new.self) c.requires over is refl (search rules)).0

pub returns-clause-after : goal.returns-clause-after
returns-clause-after g c =
    let over : is_cancelled c.args.entry.now.reply ≡ true = search rules in
    let is : is_open (call_of c.args.entry.now.event) c.args.receipts.now.items ≡ true = search rules in
    λ place. (room_cancelled c.args.receipts.now.items place c.args.entry.now c.args.spare (vec_capacity c.args.receipts.now) (c.args.spare - 1) (vec_capacity c.reserve-2.new.self) c.requires over is refl (search rules)).1
