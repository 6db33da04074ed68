-- Where the waiters stand after a call of the list of waiters.
use Rattle.std.proofs.Common.{◌≡◌, ℕ, ◌+◌, ◌≤◌, ◌<◌, cond, nat_lt, List, [], ◌∷◌, Option, Some, None, length, refl, sym, ap, subst, arith}
use Rattle.std.proofs.lemmas.Bool.Decides.{nat_tests}
use Rattle.wake_lock.specs.declared.slots.Slot.{Slot}
use Rattle.wake_lock.specs.declared.wait_list.WaitList.TheInside.{Inside}
use Rattle.wake_lock.specs.Slots.{slot_at}
use Rattle.wake_lock.specs.Links.{IsChain, times}
use Rattle.wake_lock.specs.WaitListView.{HasPlaces, waiting_places, vacant_places, IsWaitList, waiters_at}
use Rattle.wake_lock.proofs.Places.{times-here, times-rest}
use Rattle.wake_lock.proofs.Links.{path-walked, chain-walked}
use Rattle.wake_lock.proofs.Relinks.{AreOnce}
use Rattle.wake_lock.proofs.Neighbours.{left-on, right-on}

-- the waiters stand where the links lead
pub waiting-found : (list : Inside) (waiting vacant : List ℕ) → HasPlaces list waiting vacant
    → waiting_places list ≡ waiting
waiting-found list waiting vacant h =
    path-walked (length list.slots) list.slots (record { left = None; right = list.head }) waiting (record { left = list.tail; right = None }) h.linked refl (let a : length waiting + length vacant ≡ length list.slots = h.all in omega arith)

-- the vacant slots are where the links lead
pub vacant-found : (list : Inside) (waiting vacant : List ℕ) → HasPlaces list waiting vacant
    → vacant_places list ≡ vacant
vacant-found list waiting vacant h =
    chain-walked (length list.slots) list.slots list.free vacant h.chained (let a : length waiting + length vacant ≡ length list.slots = h.all in omega arith)

-- a list whose waiters stand anywhere is one whose waiters stand where the links lead
pub wait-list : (list : Inside) (waiting vacant : List ℕ) → HasPlaces list waiting vacant → IsWaitList list
wait-list list waiting vacant h =
    subst (λ (v : List ℕ). HasPlaces list (waiting_places list) v) (sym (vacant-found list waiting vacant h))
    (subst (λ (w : List ℕ). HasPlaces list w vacant) (sym (waiting-found list waiting vacant h)) h)

one-below : (p n k : ℕ) → k ≡ cond (nat_lt p n) 1 0 → 1 ≤ k → p < n
one-below p n k e on = grind (arith, nat_tests)

at-most-one : (p n k : ℕ) → k ≡ cond (nat_lt p n) 1 0 → k ≤ 1
at-most-one p n k e = grind (arith, nat_tests)

-- a place of a waiter or of a vacant slot is the place of a slot
pub place-below : (list : Inside) (waiting vacant : List ℕ) → HasPlaces list waiting vacant → (p : ℕ)
    → 1 ≤ times p waiting + times p vacant → p < length list.slots
place-below list waiting vacant h p on = one-below p (length list.slots) (times p waiting + times p vacant) (h.each p) on

-- a place stands once
pub place-once : (list : Inside) (waiting vacant : List ℕ) → HasPlaces list waiting vacant → (p : ℕ)
    → times p waiting + times p vacant ≤ 1
place-once list waiting vacant h p = at-most-one p (length list.slots) (times p waiting + times p vacant) (h.each p)

-- the waiters' places stand once, and are places of slots
pub waiting-once : (list : Inside) (waiting vacant : List ℕ) → HasPlaces list waiting vacant
    → (slots : List Slot) → length slots ≡ length list.slots → AreOnce slots waiting
waiting-once list waiting vacant h slots same = record {
  once = λ q. let one : times q waiting + times q vacant ≤ 1 = place-once list waiting vacant h q in omega arith;
  below = λ q on. let below : q < length list.slots = place-below list waiting vacant h q (omega arith) in omega arith;
}

-- the calls at some places stay where the slots' calls stay
pub waiters-same : (old new : List Slot) (ps : List ℕ)
    → ((q : ℕ) → 1 ≤ times q ps → (slot_at new q).id ≡ (slot_at old q).id)
    → waiters_at new ps ≡ waiters_at old ps
waiters-same old new [] same = refl
waiters-same old new (p ∷ ps) same =
    let here : (slot_at new p).id ≡ (slot_at old p).id = same p (omega (arith, times-here p ps)) in
    let rest : waiters_at new ps ≡ waiters_at old ps = waiters-same old new ps (λ q on. same q (let more : times q ps ≤ times q (p ∷ ps) = times-rest q p ps in omega arith)) in
    cc

-- where the head names a place, a slot stands there
pub head-below : (list : Inside) (waiting vacant : List ℕ) → HasPlaces list waiting vacant → (p : ℕ)
    → list.head ≡ Some p → p < length list.slots
head-below list waiting vacant h p is =
    let on : 1 ≤ times p waiting = right-on list.slots (record { left = None; right = list.head }) waiting list.tail h.linked p is in
    place-below list waiting vacant h p (omega arith)

-- where the tail names a place, a slot stands there
pub tail-below : (list : Inside) (waiting vacant : List ℕ) → HasPlaces list waiting vacant → (p : ℕ)
    → list.tail ≡ Some p → p < length list.slots
tail-below list waiting vacant h p is =
    let on : 1 ≤ times p waiting = left-on list.slots list.head waiting (record { left = list.tail; right = None }) h.linked p is in
    place-below list waiting vacant h p (omega arith)

-- a chain begins with its first place
chain-first : (slots : List Slot) (start : Option ℕ) (ps : List ℕ) (p : ℕ) → IsChain slots start ps
    → start ≡ Some p → (rest : List ℕ) × (ps ≡ p ∷ rest)
chain-first slots start [] p chain is = absurd (cc)
chain-first slots start (q ∷ ps) p chain is = (ps, ap (λ (x : ℕ). x ∷ ps) (let same : q ≡ p = cc (chain.0, is) in same))

-- the first vacant slot is the one that the list names
pub vacant-split : (list : Inside) (p : ℕ) → IsWaitList list → list.free ≡ Some p
    → (rest : List ℕ) × HasPlaces list (waiting_places list) (p ∷ rest)
vacant-split list p h is =
    let first = chain-first list.slots list.free (vacant_places list) p h.chained is in
    (first.0, subst (λ (v : List ℕ). HasPlaces list (waiting_places list) v) first.1 h)
