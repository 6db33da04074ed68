-- Slots that are linked: the way along them from one gap to another.
use Rattle.std.specs.Prelude.{◌≡◌, ℕ, ◌+◌, zero, suc, List, [], ◌∷◌, Option}
use Rattle.std.specs.Prelude.{Some, None, ◌==◌, if◌then◌else◌, slice_set}
use Rattle.wake_lock.specs.declared.slots.Slot.{Slot}
use Rattle.wake_lock.specs.Slots.{slot_at}

-- a gap between two neighbours: the place on its left and the place on its right, where there is one
pub record Gap : Type 0 where
  pub left : Option ℕ
  pub right : Option ℕ

-- the gap behind the slot at the place
abbrev pub gap_after : List Slot → ℕ → Gap
gap_after slots place = record { left = Some place; right = (slot_at slots place).after }

-- the links lead from one gap along these places to the other gap, and each slot names the one before it
abbrev pub IsPath : List Slot → Gap → List ℕ → Gap → Type 0
IsPath slots from [] to = from ≡ to
IsPath slots from (place ∷ places) to =
    (from.right ≡ Some place) × ((slot_at slots place).before ≡ from.left)
    × IsPath slots (gap_after slots place) places to

-- the links lead from the start along these places, and no further
abbrev pub IsChain : List Slot → Option ℕ → List ℕ → Type 0
IsChain slots start [] = start ≡ None
IsChain slots start (place ∷ places) = (start ≡ Some place) × IsChain slots (slot_at slots place).after places

-- the places that the links lead along from the start, at most so many
abbrev pub places_from : ℕ → List Slot → Option ℕ → List ℕ
places_from zero slots start = []
places_from (suc most) slots None = []
places_from (suc most) slots (Some place) = place ∷ places_from most slots (slot_at slots place).after

-- how often the place stands in the list
abbrev pub times : ℕ → List ℕ → ℕ
times place [] = 0
times place (other ∷ others) = (if place == other then 1 else 0) + times place others

-- the slots, of which the one at the place, where there is a place, names another as the one after it
abbrev pub with_after : List Slot → Option ℕ → Option ℕ → List Slot
with_after slots None after = slots
with_after slots (Some place) after = slice_set slots place (record (slot_at slots place) { after = after })

-- the slots, of which the one at the place, where there is a place, names another as the one before it
abbrev pub with_before : List Slot → Option ℕ → Option ℕ → List Slot
with_before slots None before = slots
with_before slots (Some place) before =
    slice_set slots place (record (slot_at slots place) { before = before })

-- the end of the links: where there is no slot to name the other, the end itself names it
abbrev pub end_with : Option ℕ → Option ℕ → Option ℕ → Option ℕ
end_with None end other = other
end_with (Some place) end other = end
