-- How a list of waiters stands in its slots.
use Rattle.std.specs.Prelude.{◌≡◌, ℕ, ◌+◌, ◌<◌, ◌^◌, nat_lt, if◌then◌else◌, List, map, None, length}
use Rattle.sign_base.specs.declared.call_id.CallId.{CallId}
use Rattle.wake_lock.specs.declared.slots.Slot.{Slot}
use Rattle.wake_lock.specs.declared.wait_list.WaitList.TheInside.{Inside}
use Rattle.wake_lock.specs.Slots.{slot_at}
use Rattle.wake_lock.specs.Links.{IsPath, IsChain, places_from, times}
use Rattle.wake_lock.specs.WaitList.{Waiting}

-- the waiters stand at these places and in this order, linked both ways; the vacant slots are linked too; and
-- each slot is one or the other, once
pub record HasPlaces (list : Inside) (waiting vacant : List ℕ) : Type 0 where
  pub linked : IsPath list.slots (record { left = None; right = list.head }) waiting
      (record { left = list.tail; right = None })
  pub chained : IsChain list.slots list.free vacant
  pub each : (place : ℕ)
      → times place waiting + times place vacant ≡ (if nat_lt place (length list.slots) then 1 else 0)
  pub all : length waiting + length vacant ≡ length list.slots
  pub counted : list.vacant ≡ length vacant
  pub few : length list.slots < 2 ^ 32

-- the places of those that wait, as the links lead along them
abbrev pub waiting_places : Inside → List ℕ
waiting_places list = places_from (length list.slots) list.slots list.head

-- the places of the vacant slots, as the links lead along them
abbrev pub vacant_places : Inside → List ℕ
vacant_places list = places_from (length list.slots) list.slots list.free

-- the waiters and the slots are where the links lead
abbrev pub IsWaitList : Inside → Type 0
IsWaitList list = HasPlaces list (waiting_places list) (vacant_places list)

-- the calls in the slots at these places, each with its place
abbrev pub waiters_at : List Slot → List ℕ → List (CallId × ℕ)
waiters_at slots places = map (λ place. ((slot_at slots place).id, place)) places

-- those that wait, in order, and the number of vacant slots
abbrev pub wait_list_view : Inside → Waiting
wait_list_view list = record { waiters = waiters_at list.slots (waiting_places list); vacant = list.vacant }
