-- Lists of slots.
use Rattle.std.specs.Prelude.{ℕ, zero, suc, ◌+◌, List, [], ◌∷◌, Option, None, Some, slice_index_or}
use Rattle.wake_lock.specs.declared.slots.Slot.{Slot}

-- a slot that nobody has used
abbrev pub blank_slot : Slot
blank_slot = record { id = record { handle = 0; number = 0 }; before = None; after = None }

-- a slot in which nobody waits, and which names another as the one after it
abbrev pub vacant_slot : Option ℕ → Slot
vacant_slot after = record blank_slot { after = after }

-- so many vacant slots from the place on: each names the one before it as the one after
-- it, and the first names another
abbrev pub chained_slots : ℕ → ℕ → Option ℕ → List Slot
chained_slots place zero after = []
chained_slots place (suc n) after = vacant_slot after ∷ chained_slots (place + 1) n (Some place)

-- the place of the last of them, where the links start
abbrev pub chain_start : ℕ → ℕ → Option ℕ → Option ℕ
chain_start place zero after = after
chain_start place (suc n) after = chain_start (place + 1) n (Some place)

-- the slot at the place
abbrev pub slot_at : List Slot → ℕ → Slot
slot_at slots place = slice_index_or slots place blank_slot
