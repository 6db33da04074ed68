use Rattle.std.proofs.Common.{◌+◌, [], subst, sym, arith, List}
use Rattle.signer_shared.specs.Slots.{AreEmptySlots}
use Rattle.signer_shared.specs.declared.slots.WorkerResult.{WorkerResult}
use Rattle.signer_shared.proofs.SlotLemmas.{one_slot_more}
use Rattle.signer_shared.proofs.slots.Slots.new.Goals as goal

pub loop-slot-preserved : goal.loop-slot-preserved
loop-slot-preserved g c = (
  omega (arith, c.push_reserved.ensures.capacity),
  (let P : List (WorkerResult g.row.K.Denot) → Type 0 = λ l. AreEmptySlots (c.loop-slot._slot + 1) l in
      subst P (sym c.push_reserved.ensures.items) (one_slot_more c.loop-slot._slot c.loop-slot.slots.items _ c.loop-slot.invariant.1 c.new-pass.ensures)),
)
