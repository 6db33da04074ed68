use Rattle.std.proofs.Common.{◌≡◌, ◌≤◌, length, take, vec_capacity}
use Rattle.sign_desk.proofs.idle.copy_all.Given as goal

-- so far the copies are the items, and there is room for the rest
abbrev pub invariant-loop-item : goal.invariant-loop-item
invariant-loop-item g l =
    (l.copies.items ≡ take l.item-index l.items) × (length l.items ≤ vec_capacity l.copies)
