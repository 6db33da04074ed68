use Rattle.std.proofs.Common.{◌≡◌, ◌∙◌, ◌+◌, ◌++◌, ◌∷◌, [], ◌||◌, cond, Bool, sym, ap, take}
use Rattle.std.proofs.lemmas.List.{take_more}
use Rattle.signer_book.specs.declared.pass.Receipt.{Receipt}
use Rattle.signer_book.specs.OpenBegins.{is_open, cancels_call, begins_call}
use Rattle.signer_book.proofs.OpenBegins.{is_open-more}
use Rattle.signer_book.proofs.room.is_open.Goals as goal

pub loop-receipt-preserved : goal.loop-receipt-preserved
loop-receipt-preserved g c =
    let xs = c.args.receipts.now in
    let i = c.loop-receipt.receipt-index in
    let r = c.receipt-item.result in
    let taken : take (i + 1) xs ≡ take i xs ++ r ∷ [] = take_more xs i r c.loop-receipt-test.true ∙ ap (λ (x : Receipt g.row.K.Denot). take i xs ++ x ∷ []) (sym c.receipt-item.is) in
    c.is_open_after-found.ensures
    ∙ ap (λ (b : Bool). cond (cancels_call c.args.call r) (begins_call c.args.call r) (begins_call c.args.call r || b)) c.loop-receipt.invariant
    ∙ sym (is_open-more c.args.call (take i xs) r)
    ∙ ap (is_open c.args.call) (sym taken)
