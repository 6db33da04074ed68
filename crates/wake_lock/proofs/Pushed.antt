-- Where the waiters stand after one more came.
use Rattle.std.proofs.Common.{◌≡◌, ℕ, ◌+◌, ◌-◌, ◌≤◌, ◌<◌, ◌^◌, cond, nat_lt, List, [], ◌∷◌, ◌++◌, Option, Some, None, length, set, refl, sym, ap, subst, ◌∙◌, arith}
use Rattle.std.proofs.lemmas.List.{length-set, length-append, map-append}
use Rattle.sign_base.specs.declared.call_id.CallId.{CallId}
use Rattle.wake_lock.specs.declared.slots.Slot.{Slot}
use Rattle.wake_lock.specs.declared.wait_list.WaitList.TheInside.{Inside}
use Rattle.wake_lock.specs.Slots.{slot_at}
use Rattle.wake_lock.specs.Links.{Gap, IsPath, times, with_after, end_with}
use Rattle.wake_lock.specs.WaitListView.{HasPlaces, waiters_at}
use Rattle.wake_lock.proofs.Places.{times-here, times-rest, times-append}
use Rattle.wake_lock.proofs.Links.{slot-other, slot-here, chain-same, path-other, path-append, apart}
use Rattle.wake_lock.proofs.Relinks.{left-relinked}
use Rattle.wake_lock.proofs.Neighbours.{length-with_after, other-with_after, id-with_after, left-on}
use Rattle.wake_lock.proofs.WaitLists.{place-below, place-once, waiting-once, waiters-same}

-- the list after a call was put into the vacant slot at the place, behind all others
abbrev pub list_pushed : Inside → ℕ → CallId → Inside
list_pushed list p call = record {
  slots = with_after (set list.slots p (record { id = call; before = list.tail; after = None })) list.tail (Some p);
  head = end_with list.tail list.head (Some p);
  tail = Some p;
  free = (slot_at list.slots p).after;
  vacant = list.vacant - 1;
}

-- the parts that a push leaves are that list's
pub list_pushed-is : (list : Inside) (p : ℕ) (call : CallId) (read : Slot) (written linked : List Slot)
    (head : Option ℕ) → read ≡ slot_at list.slots p
    → written ≡ set list.slots p (record { id = call; before = list.tail; after = None })
    → linked ≡ with_after written list.tail (Some p) → head ≡ end_with list.tail list.head (Some p)
    → record { slots = linked; head = head; tail = Some p; free = read.after; vacant = list.vacant - 1 }
    ≡ list_pushed list p call
list_pushed-is list p call read written linked head read_is written_is linked_is head_is =
    let slot : Slot = record { id = call; before = list.tail; after = None } in
    let all_is : linked ≡ with_after (set list.slots p slot) list.tail (Some p) =
    linked_is ∙ ap (λ (w : List Slot). with_after w list.tail (Some p)) written_is in
    λ i. record { slots = all_is i; head = head_is i; tail = Some p; free = (read_is i).after; vacant = list.vacant - 1 }

-- what is known of the first vacant slot
pub record IsFirstVacant (list : Inside) (p : ℕ) (waiting vacant : List ℕ) : Type 0 where
  pub not_waiting : times p waiting ≡ 0
  pub not_again : times p vacant ≡ 0
  pub below : p < length list.slots
  pub waiting_elsewhere : (q : ℕ) → 1 ≤ times q waiting → times q vacant ≡ 0

-- the first of the vacant slots is so
pub first-vacant : (list : Inside) (p : ℕ) (waiting vacant : List ℕ) → HasPlaces list waiting (p ∷ vacant)
    → IsFirstVacant list p waiting vacant
first-vacant list p waiting vacant h =
    let here : times p (p ∷ vacant) ≡ 1 + times p vacant = times-here p vacant in
    let one : times p waiting + times p (p ∷ vacant) ≤ 1 = place-once list waiting (p ∷ vacant) h p in
    record {
      not_waiting = omega arith;
      not_again = omega arith;
      below = place-below list waiting (p ∷ vacant) h p (omega arith);
      waiting_elsewhere = λ q on.
          let once : times q waiting + times q (p ∷ vacant) ≤ 1 = place-once list waiting (p ∷ vacant) h q in
          let rest : times q vacant ≤ times q (p ∷ vacant) = times-rest q p vacant in
          omega arith;
    }

-- the call that is put behind all others stands behind all others
pub pushed : (list : Inside) (p : ℕ) (call : CallId) (waiting vacant : List ℕ)
    → HasPlaces list waiting (p ∷ vacant) → HasPlaces (list_pushed list p call) (waiting ++ p ∷ []) vacant
pushed list p call waiting vacant h =
    let slot : Slot = record { id = call; before = list.tail; after = None } in
    let written : List Slot = set list.slots p slot in
    let linked : List Slot = with_after written list.tail (Some p) in
    let v : IsFirstVacant list p waiting vacant = first-vacant list p waiting vacant h in
    let as_many : length written ≡ length list.slots = length-set list.slots p slot in
    let as_many' : length linked ≡ length list.slots = length-with_after written list.tail (Some p) ∙ as_many in
    let on_path : (t : ℕ) → list.tail ≡ Some t → 1 ≤ times t waiting = left-on list.slots list.head waiting (record { left = list.tail; right = None }) h.linked in
    let path : IsPath written (record { left = None; right = list.head }) waiting (record { left = list.tail; right = None }) =
    path-other list.slots p slot (record { left = None; right = list.head }) waiting (record { left = list.tail; right = None }) v.not_waiting h.linked in
    let path' : IsPath linked (record { left = None; right = end_with list.tail list.head (Some p) }) waiting (record { left = list.tail; right = Some p }) =
    left-relinked written list.head waiting (record { left = list.tail; right = None }) (Some p) (waiting-once list waiting (p ∷ vacant) h written as_many) path in
    let here : slot_at linked p ≡ slot =
    other-with_after written list.tail (Some p) p (λ t is e. apart p t waiting v.not_waiting (on_path t is) (sym e)) ∙ slot-here list.slots p slot v.below in
    let last : IsPath linked (record { left = list.tail; right = Some p }) (p ∷ []) (record { left = Some p; right = None }) =
    (refl, ap (λ (s : Slot). s.before) here, ap (λ (s : Slot). let g : Gap = record { left = Some p; right = s.after } in g) here) in
    record {
      linked = path-append linked (record { left = None; right = end_with list.tail list.head (Some p) }) waiting (record { left = list.tail; right = Some p }) (p ∷ []) (record { left = Some p; right = None }) path' last;
      chained = chain-same list.slots linked (slot_at list.slots p).after vacant
          (λ q on. other-with_after written list.tail (Some p) q (λ t is e. (let none : times t vacant ≡ 0 = v.waiting_elsewhere t (on_path t is) in apart t q vacant none on e))
          ∙ slot-other list.slots p q slot (apart p q vacant v.not_again on))
          h.chained.1;
      each = λ q. subst (λ (n : ℕ). times q (waiting ++ p ∷ []) + times q vacant ≡ cond (nat_lt q n) 1 0) (sym as_many')
          (let more : times q (waiting ++ p ∷ []) ≡ times q waiting + times q (p ∷ []) = times-append q waiting (p ∷ []) in
          let same : times q (waiting ++ p ∷ []) + times q vacant ≡ times q waiting + times q (p ∷ vacant) = omega arith in same ∙ h.each q);
      all = (let more : length (waiting ++ p ∷ []) ≡ length waiting + length (p ∷ []) = length-append waiting (p ∷ []) in
          let whole : length waiting + length (p ∷ vacant) ≡ length list.slots = h.all in omega (arith, as_many'));
      counted = (let was : list.vacant ≡ length (p ∷ vacant) = h.counted in omega arith);
      few = (let was : length list.slots < 2 ^ 32 = h.few in omega (arith, as_many'));
    }

-- the calls that wait then
pub pushed-waiters : (list : Inside) (p : ℕ) (call : CallId) (waiting vacant : List ℕ)
    → HasPlaces list waiting (p ∷ vacant)
    → waiters_at (list_pushed list p call).slots (waiting ++ p ∷ [])
    ≡ waiters_at list.slots waiting ++ (call, p) ∷ []
pushed-waiters list p call waiting vacant h =
    let slot : Slot = record { id = call; before = list.tail; after = None } in
    let written : List Slot = set list.slots p slot in
    let linked : List Slot = with_after written list.tail (Some p) in
    let v : IsFirstVacant list p waiting vacant = first-vacant list p waiting vacant h in
    let same : waiters_at linked waiting ≡ waiters_at list.slots waiting =
    waiters-same list.slots linked waiting (λ q on. id-with_after written list.tail (Some p) q ∙ ap (λ (s : Slot). s.id) (slot-other list.slots p q slot (apart p q waiting v.not_waiting on))) in
    let here : (slot_at linked p).id ≡ call = id-with_after written list.tail (Some p) p ∙ ap (λ (s : Slot). s.id) (slot-here list.slots p slot v.below) in
    map-append (λ (place : ℕ). ((slot_at linked place).id, place)) waiting (p ∷ [])
    ∙ ap (λ (l : List (CallId × ℕ)). l ++ ((slot_at linked p).id, p) ∷ []) same
    ∙ ap (λ (c : CallId). waiters_at list.slots waiting ++ (c, p) ∷ []) here
