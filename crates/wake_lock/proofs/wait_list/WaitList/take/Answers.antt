use Rattle.std.proofs.Common.{◌≡◌, ℕ, ◌+◌, ◌<◌, ◌≤◌, List, ◌∷◌, ◌++◌, Some, length, ap, sym, ◌∙◌, subst, arith}
use Rattle.sign_base.specs.declared.call_id.CallId.{CallId}
use Rattle.wake_lock.specs.declared.slots.Slot.{Slot}
use Rattle.wake_lock.specs.declared.wait_list.WaitList.TheInside.{Inside}
use Rattle.wake_lock.specs.Slots.{slot_at}
use Rattle.wake_lock.specs.Links.{times}
use Rattle.wake_lock.specs.WaitList.{Waiting, places_of}
use Rattle.wake_lock.specs.WaitListView.{HasPlaces, IsWaitList, waiting_places, vacant_places, waiters_at}
use Rattle.wake_lock.proofs.Places.{times-append}
use Rattle.wake_lock.proofs.Neighbours.{neighbours-on, length-with_after, length-with_before}
use Rattle.wake_lock.proofs.WaitLists.{place-below, wait-list, waiting-found}
use Rattle.wake_lock.proofs.Taken.{list_taken, list_taken-is, waiter, taken, waiter-split, IsSplit, waiters-split, taken-waiters}
use Rattle.wake_lock.proofs.wait_list.WaitList.take.Goals as goal

-- where the waiter stands
split-of : (list : Inside) (now : Waiting) (place : ℕ) → IsWaitList list
    → waiters_at list.slots (waiting_places list) ≡ now.waiters → 0 < times place (places_of now.waiters)
    → (xs : List ℕ) × (ys : List ℕ) × HasPlaces list (xs ++ place ∷ ys) (vacant_places list)
split-of list now place h view on =
    waiter-split list place h (subst (λ (l : List (CallId × ℕ)). 1 ≤ times place (places_of l)) (sym view) (omega arith))

-- the neighbours of a waiter stand in slots
neighbours-below : (list : Inside) (place : ℕ) (xs ys vacant : List ℕ)
    → HasPlaces list (xs ++ place ∷ ys) vacant
    → let s = slot_at list.slots place in ((t : ℕ) → s.before ≡ Some t → t < length list.slots)
    × ((t : ℕ) → s.after ≡ Some t → t < length list.slots)
neighbours-below list place xs ys vacant h =
    let names = neighbours-on list.slots list.head list.tail xs place ys h.linked in (
      (λ t is. place-below list (xs ++ place ∷ ys) vacant h t (omega (arith, times-append t xs (place ∷ ys), names.before t is))),
      (λ t is. place-below list (xs ++ place ∷ ys) vacant h t (omega (arith, times-append t xs (place ∷ ys), names.after t is))),
    )

pub read-slot-requires : goal.read-slot-requires
read-slot-requires g c =
    let split = split-of c.self.inside c.args.self.now c.args.place c.self.invariant (ap (λ (w : Waiting). w.waiters) c.self.view_is) c.requires in
    (waiter c.self.inside split.0 c.args.place split.1 (vacant_places c.self.inside) split.2).below

pub link_after-requires : goal.link_after-requires
link_after-requires g c = λ x is.
    let split = split-of c.self.inside c.args.self.now c.args.place c.self.invariant (ap (λ (w : Waiting). w.waiters) c.self.view_is) c.requires in
    (neighbours-below c.self.inside c.args.place split.0 split.1 (vacant_places c.self.inside) split.2).0 x (sym (ap (λ (s : Slot). s.before) c.read-slot.ensures.slot) ∙ is)

pub link_before-requires : goal.link_before-requires
link_before-requires g c = λ x is.
    let split = split-of c.self.inside c.args.self.now c.args.place c.self.invariant (ap (λ (w : Waiting). w.waiters) c.self.view_is) c.requires in
    let below : x < length c.self.inside.slots =
    (neighbours-below c.self.inside c.args.place split.0 split.1 (vacant_places c.self.inside) split.2).1 x (sym (ap (λ (s : Slot). s.after) c.read-slot.ensures.slot) ∙ is) in
    rw (c.link_after.ensures.slots, length-with_after) below

pub write-requires : goal.write-requires
write-requires g c =
    let split = split-of c.self.inside c.args.self.now c.args.place c.self.invariant (ap (λ (w : Waiting). w.waiters) c.self.view_is) c.requires in
    let below : c.args.place < length c.self.inside.slots = (waiter c.self.inside split.0 c.args.place split.1 (vacant_places c.self.inside) split.2).below in
    rw (c.link_before.ensures.slots, length-with_before, c.link_after.ensures.slots, length-with_after) below

pub invariant_of-self : goal.invariant_of-self
invariant_of-self g c =
    let list : Inside = c.self.inside in
    let place : ℕ = c.args.place in
    let split = split-of list c.args.self.now place c.self.invariant (ap (λ (w : Waiting). w.waiters) c.self.view_is) c.requires in
    let new : Inside = record { slots = c.write.new.self; head = c.link_after.new.head; tail = c.link_before.new.tail; free = Some place; vacant = list.vacant + 1 } in
    let same : new ≡ list_taken list place =
    list_taken-is list place c.read-slot.result c.link_after.new.slots c.link_before.new.slots c.write.new.self c.link_after.new.head
    c.link_before.new.tail c.read-slot.ensures.slot c.link_after.ensures.slots c.link_after.ensures.head
    c.link_before.ensures.slots c.link_before.ensures.tail c.write.ensures.slots in
    subst IsWaitList (sym same) (wait-list (list_taken list place) (split.0 ++ split.1) (place ∷ vacant_places list) (taken list split.0 place split.1 (vacant_places list) split.2))

pub returns-clause-waiters : goal.returns-clause-waiters
returns-clause-waiters g c = λ ahead waiting behind is at.
    let list : Inside = c.self.inside in
    let place : ℕ = c.args.place in
    let new : Inside = record { slots = c.write.new.self; head = c.link_after.new.head; tail = c.link_before.new.tail; free = Some place; vacant = list.vacant + 1 } in
    let same : new ≡ list_taken list place =
    list_taken-is list place c.read-slot.result c.link_after.new.slots c.link_before.new.slots c.write.new.self c.link_after.new.head
    c.link_before.new.tail c.read-slot.ensures.slot c.link_after.ensures.slots c.link_after.ensures.head
    c.link_before.ensures.slots c.link_before.ensures.tail c.write.ensures.slots in
    let s : IsSplit list.slots (waiting_places list) ahead waiting behind =
    waiters-split list.slots (waiting_places list) ahead waiting behind (ap (λ (w : Waiting). w.waiters) c.self.view_is ∙ is) in
    let places : waiting_places list ≡ places_of ahead ++ place ∷ places_of behind = s.places_are ∙ ap (λ (x : ℕ). places_of ahead ++ x ∷ places_of behind) at in
    let h : HasPlaces list (places_of ahead ++ place ∷ places_of behind) (vacant_places list) = subst (λ (l : List ℕ). HasPlaces list l (vacant_places list)) places c.self.invariant in
    let found : waiting_places (list_taken list place) ≡ places_of ahead ++ places_of behind =
    waiting-found (list_taken list place) (places_of ahead ++ places_of behind) (place ∷ vacant_places list) (taken list (places_of ahead) place (places_of behind) (vacant_places list) h) in (
      sym s.waiter_is ∙ ap (λ (x : ℕ). (slot_at list.slots x).id) at ∙ sym (ap (λ (t : Slot). t.id) c.read-slot.ensures.slot),
      ap (λ (l : Inside). waiters_at l.slots (waiting_places l)) same ∙ ap (waiters_at (list_taken list place).slots) found
          ∙ taken-waiters list place ahead behind s.ahead_are s.behind_are,
    )
