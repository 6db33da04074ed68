-- Where the waiters stand after more slots were made.
use Rattle.std.proofs.Common.{◌≡◌, ℕ, zero, suc, Option, ◌+◌, ◌≤◌, ◌<◌, ◌^◌, ◌==◌, cond, nat_lt, List, [], ◌∷◌, ◌++◌, Some, None, length, refl, sym, ap, subst, ◌∙◌, append_assoc, append-nil, add-zero, arith}
use Rattle.std.proofs.lemmas.Bool.Decides.{nat_tests}
use Rattle.std.proofs.lemmas.List.{length_push, get_or_append_left}
use Rattle.wake_lock.specs.declared.slots.Slot.{Slot}
use Rattle.wake_lock.specs.declared.wait_list.WaitList.TheInside.{Inside}
use Rattle.wake_lock.specs.Slots.{slot_at, blank_slot, vacant_slot, chained_slots, chain_start}
use Rattle.wake_lock.specs.Links.{IsChain, times}
use Rattle.wake_lock.specs.WaitListView.{HasPlaces, waiters_at}
use Rattle.wake_lock.proofs.Links.{path-same, chain-same}
use Rattle.wake_lock.proofs.WaitLists.{place-below, waiters-same}

-- the list with one vacant slot more, the first of the vacant ones
abbrev pub list_grown : Inside → Inside
list_grown list = record {
  slots = list.slots ++ vacant_slot list.free ∷ [];
  head = list.head;
  tail = list.tail;
  free = Some (length list.slots);
  vacant = list.vacant + 1;
}

-- the slots that were there stay
slot-grown : (list : Inside) (q : ℕ) → q < length list.slots
    → slot_at (list_grown list).slots q ≡ slot_at list.slots q
slot-grown list q below = get_or_append_left list.slots (vacant_slot list.free ∷ []) blank_slot q below

-- the new slot stands behind them
slot-new : (slots : List Slot) (new : Slot) → slot_at (slots ++ new ∷ []) (length slots) ≡ new
slot-new [] new = refl
slot-new (s ∷ slots) new = slot-new slots new

one-more : (q n : ℕ) → cond (q == n) 1 0 + cond (nat_lt q n) 1 0 ≡ cond (nat_lt q (n + 1)) 1 0
one-more q n = grind (arith, nat_tests)

-- the waiters stand where they stood, and the new slot is the first vacant one
grown : (list : Inside) (waiting vacant : List ℕ) → HasPlaces list waiting vacant
    → length list.slots + 1 < 2 ^ 32 → HasPlaces (list_grown list) waiting (length list.slots ∷ vacant)
grown list waiting vacant h fits =
    let new : List Slot = (list_grown list).slots in
    let more : length new ≡ length list.slots + 1 = length_push list.slots (vacant_slot list.free) in
    let here : slot_at new (length list.slots) ≡ vacant_slot list.free = slot-new list.slots (vacant_slot list.free) in
    let same : (q : ℕ) → 1 ≤ times q waiting + times q vacant → slot_at new q ≡ slot_at list.slots q = λ q on. slot-grown list q (place-below list waiting vacant h q on) in
    let chain : IsChain new list.free vacant = chain-same list.slots new list.free vacant (λ q on. same q (omega arith)) h.chained in
    record {
      linked = path-same list.slots new (record { left = None; right = list.head }) waiting (record { left = list.tail; right = None }) (λ q on. same q (omega arith)) h.linked;
      chained = (refl, subst (λ (t : Slot). IsChain new t.after vacant) (sym here) chain);
      each = λ q. subst (λ (n : ℕ). times q waiting + times q (length list.slots ∷ vacant) ≡ cond (nat_lt q n) 1 0) (sym more)
          (let was : times q waiting + times q vacant ≡ cond (nat_lt q (length list.slots)) 1 0 = h.each q in
          let here' : cond (q == length list.slots) 1 0 + cond (nat_lt q (length list.slots)) 1 0 ≡ cond (nat_lt q (length list.slots + 1)) 1 0 = one-more q (length list.slots) in omega arith);
      all = (let whole : length waiting + length vacant ≡ length list.slots = h.all in omega arith);
      counted = (let was : list.vacant ≡ length vacant = h.counted in omega arith);
      few = omega arith;
    }

-- the same calls wait
grown-waiters : (list : Inside) (waiting vacant : List ℕ) → HasPlaces list waiting vacant
    → waiters_at (list_grown list).slots waiting ≡ waiters_at list.slots waiting
grown-waiters list waiting vacant h =
    waiters-same list.slots (list_grown list).slots waiting (λ q on. ap (λ (s : Slot). s.id) (slot-grown list q (place-below list waiting vacant h q (omega arith))))

-- the list with so many vacant slots more
abbrev pub list_larger : Inside → ℕ → Inside
list_larger list n = record {
  slots = list.slots ++ chained_slots (length list.slots) n list.free;
  head = list.head;
  tail = list.tail;
  free = chain_start (length list.slots) n list.free;
  vacant = list.vacant + n;
}

-- one slot more, and then the others
larger-next : (list : Inside) (n : ℕ) → list_larger list (suc n) ≡ list_larger (list_grown list) n
larger-next list n =
    let long : length (list.slots ++ vacant_slot list.free ∷ []) ≡ length list.slots + 1 = length_push list.slots (vacant_slot list.free) in
    let count : list.vacant + suc n ≡ list.vacant + 1 + n = omega arith in
    rw (long, append_assoc list.slots (vacant_slot list.free ∷ []) (chained_slots (length list.slots + 1) n (Some (length list.slots))), count) refl

larger-none : (list : Inside) → list_larger list 0 ≡ list
larger-none list = rw (append-nil list.slots, add-zero list.vacant) refl

-- the waiters stand where they stood, the same calls wait, and the new slots are vacant
pub record Larger (list : Inside) (waiting vacant : List ℕ) (larger : Inside) : Type 0 where
  pub places : List ℕ
  pub stands : HasPlaces larger waiting places
  pub waiters : waiters_at larger.slots waiting ≡ waiters_at list.slots waiting

pub larger : (n : ℕ) (list : Inside) (waiting vacant : List ℕ) → HasPlaces list waiting vacant
    → length list.slots + n < 2 ^ 32 → Larger list waiting vacant (list_larger list n)
larger zero list waiting vacant h fits =
    subst (Larger list waiting vacant) (sym (larger-none list)) (record { places = vacant; stands = h; waiters = refl })
larger (suc n) list waiting vacant h fits =
    let long : length (list_grown list).slots ≡ length list.slots + 1 = length_push list.slots (vacant_slot list.free) in
    let next = larger n (list_grown list) waiting (length list.slots ∷ vacant) (grown list waiting vacant h (omega arith)) (omega arith) in
    subst (Larger list waiting vacant) (sym (larger-next list n))
    (record { places = next.places; stands = next.stands; waiters = next.waiters ∙ grown-waiters list waiting vacant h })

-- the list is so once the slots are there and the first vacant one is named
pub larger-is : (list : Inside) (n : ℕ) (slots : List Slot) (free : Option ℕ)
    → slots ≡ list.slots ++ chained_slots (length list.slots) n list.free
    → free ≡ chain_start (length list.slots) n list.free
    → let l : Inside = record { slots = slots; head = list.head; tail = list.tail; free = free; vacant = list.vacant + n } in l
    ≡ list_larger list n
larger-is list n slots free s f = rw (s, f) refl
