-- Where the waiters stand after one of them left.
use Rattle.std.proofs.Common.{◌≡◌, ℕ, ◌+◌, ◌≤◌, ◌<◌, ◌^◌, cond, nat_lt, List, [], ◌∷◌, ◌++◌, Option, Some, None, length, set, refl, sym, ap, subst, ◌∙◌, ⊎_elim, arith}
use Rattle.std.proofs.lemmas.List.{length-set, length-append, map-append}
use Rattle.std.proofs.lemmas.Bool.{cases_eq}
use Rattle.sign_base.specs.declared.call_id.CallId.{CallId}
use Rattle.wake_lock.specs.declared.slots.Slot.{Slot}
use Rattle.wake_lock.specs.declared.wait_list.WaitList.TheInside.{Inside}
use Rattle.wake_lock.specs.Slots.{slot_at}
use Rattle.wake_lock.specs.Links.{IsChain, times, with_after, with_before, end_with}
use Rattle.wake_lock.specs.WaitList.{places_of}
use Rattle.wake_lock.specs.WaitListView.{HasPlaces, IsWaitList, waiting_places, vacant_places, waiters_at}
use Rattle.wake_lock.proofs.Places.{times-here, times-append}
use Rattle.wake_lock.proofs.Links.{slot-other, slot-here, chain-same, path-other, apart}
use Rattle.wake_lock.proofs.Neighbours.{NamesNeighbours, neighbours-on, length-with_after, length-with_before, other-with_after, other-with_before, id-set, id-with_after, id-with_before, times-around, path-past}
use Rattle.wake_lock.proofs.WaitLists.{place-below, place-once, waiting-once, waiters-same}

-- the slots after the neighbours of the one at the place name each other
abbrev pub slots_past : List Slot → ℕ → List Slot
slots_past slots p = with_before (with_after slots (slot_at slots p).before (slot_at slots p).after) (slot_at slots p).after (slot_at slots p).before

-- the slot at the place once it is vacant
abbrev pub slot_left : Inside → ℕ → Slot
slot_left list p = record { id = (slot_at list.slots p).id; before = None; after = list.free }

-- the list after the waiter at the place left
abbrev pub list_taken : Inside → ℕ → Inside
list_taken list p = record {
  slots = set (slots_past list.slots p) p (slot_left list p);
  head = end_with (slot_at list.slots p).before list.head (slot_at list.slots p).after;
  tail = end_with (slot_at list.slots p).after list.tail (slot_at list.slots p).before;
  free = Some p;
  vacant = list.vacant + 1;
}

-- the parts that a taking leaves are that list's
pub list_taken-is : (list : Inside) (p : ℕ) (slot : Slot) (linked past written : List Slot)
    (head tail : Option ℕ) → slot ≡ slot_at list.slots p
    → linked ≡ with_after list.slots slot.before slot.after → head ≡ end_with slot.before list.head slot.after
    → past ≡ with_before linked slot.after slot.before → tail ≡ end_with slot.after list.tail slot.before
    → written ≡ set past p (record { id = slot.id; before = None; after = list.free })
    → record { slots = written; head = head; tail = tail; free = Some p; vacant = list.vacant + 1 }
    ≡ list_taken list p
list_taken-is list p slot linked past written head tail slot_is linked_is head_is past_is tail_is written_is =
    let here : Slot = slot_at list.slots p in
    let linked_all : linked ≡ with_after list.slots here.before here.after =
    linked_is ∙ ap (λ (s : Slot). with_after list.slots s.before s.after) slot_is in
    let past_all : past ≡ slots_past list.slots p =
    past_is ∙ ap (λ (l : List Slot). with_before l slot.after slot.before) linked_all
    ∙ ap (λ (s : Slot). with_before (with_after list.slots here.before here.after) s.after s.before) slot_is in
    let written_all : written ≡ set (slots_past list.slots p) p (slot_left list p) =
    written_is ∙ ap (λ (l : List Slot). set l p (record { id = slot.id; before = None; after = list.free })) past_all
    ∙ ap (λ (s : Slot). set (slots_past list.slots p) p (record { id = s.id; before = None; after = list.free })) slot_is in
    let head_all : head ≡ end_with here.before list.head here.after =
    head_is ∙ ap (λ (s : Slot). end_with s.before list.head s.after) slot_is in
    let tail_all : tail ≡ end_with here.after list.tail here.before =
    tail_is ∙ ap (λ (s : Slot). end_with s.after list.tail s.before) slot_is in
    λ i. record { slots = written_all i; head = head_all i; tail = tail_all i; free = Some p; vacant = list.vacant + 1 }

length-slots_past : (slots : List Slot) (p : ℕ) → length (slots_past slots p) ≡ length slots
length-slots_past slots p =
    length-with_before (with_after slots (slot_at slots p).before (slot_at slots p).after) (slot_at slots p).after (slot_at slots p).before
    ∙ length-with_after slots (slot_at slots p).before (slot_at slots p).after

id-slots_past : (slots : List Slot) (p q : ℕ) → (slot_at (slots_past slots p) q).id ≡ (slot_at slots q).id
id-slots_past slots p q =
    id-with_before (with_after slots (slot_at slots p).before (slot_at slots p).after) (slot_at slots p).after (slot_at slots p).before q
    ∙ id-with_after slots (slot_at slots p).before (slot_at slots p).after q

-- every slot has the call that it had
pub id-taken : (list : Inside) (p q : ℕ)
    → (slot_at (list_taken list p).slots q).id ≡ (slot_at list.slots q).id
id-taken list p q = id-set (slots_past list.slots p) p (slot_left list p) q (sym (id-slots_past list.slots p p)) ∙ id-slots_past list.slots p q

-- what is known of the place of a waiter
pub record IsWaiter (list : Inside) (p : ℕ) (others vacant : List ℕ) : Type 0 where
  pub once : times p others ≡ 0
  pub not_vacant : times p vacant ≡ 0
  pub below : p < length list.slots
  pub vacant_elsewhere : (q : ℕ) → 1 ≤ times q others → times q vacant ≡ 0

-- a place between others is so
pub waiter : (list : Inside) (xs : List ℕ) (p : ℕ) (ys vacant : List ℕ) → HasPlaces list (xs ++ p ∷ ys) vacant
    → IsWaiter list p (xs ++ ys) vacant
waiter list xs p ys vacant h =
    let around : times p (xs ++ p ∷ ys) ≡ times p (p ∷ []) + times p (xs ++ ys) = times-around p xs p ys in
    let here : times p (p ∷ []) ≡ 1 + 0 = times-here p [] in
    let one : times p (xs ++ p ∷ ys) + times p vacant ≤ 1 = place-once list (xs ++ p ∷ ys) vacant h p in
    record {
      once = omega arith;
      not_vacant = omega arith;
      below = place-below list (xs ++ p ∷ ys) vacant h p (omega arith);
      vacant_elsewhere = λ q on. (let around' : times q (xs ++ p ∷ ys) ≡ times q (p ∷ []) + times q (xs ++ ys) = times-around q xs p ys in
          let one' : times q (xs ++ p ∷ ys) + times q vacant ≤ 1 = place-once list (xs ++ p ∷ ys) vacant h q in omega arith);
    }

-- the others wait on, and the slot is the first vacant one
pub taken : (list : Inside) (xs : List ℕ) (p : ℕ) (ys vacant : List ℕ) → HasPlaces list (xs ++ p ∷ ys) vacant
    → HasPlaces (list_taken list p) (xs ++ ys) (p ∷ vacant)
taken list xs p ys vacant h =
    let s : Slot = slot_at list.slots p in
    let past : List Slot = slots_past list.slots p in
    let new : List Slot = set past p (slot_left list p) in
    let w : IsWaiter list p (xs ++ ys) vacant = waiter list xs p ys vacant h in
    let names : NamesNeighbours s xs ys = neighbours-on list.slots list.head list.tail xs p ys h.linked in
    let as_many : length new ≡ length list.slots = length-set past p (slot_left list p) ∙ length-slots_past list.slots p in
    let here : slot_at new p ≡ slot_left list p = slot-here past p (slot_left list p) (let below : p < length list.slots = w.below in omega (arith, length-slots_past list.slots p)) in
    let parts : (q : ℕ) → times q (xs ++ ys) ≡ times q xs + times q ys = λ q. times-append q xs ys in
    let none_before : (t : ℕ) → s.before ≡ Some t → times t vacant ≡ 0 = λ t is. w.vacant_elsewhere t (omega (arith, parts t, names.before t is)) in
    let none_after : (t : ℕ) → s.after ≡ Some t → times t vacant ≡ 0 = λ t is. w.vacant_elsewhere t (omega (arith, parts t, names.after t is)) in
    let same : (q : ℕ) → 1 ≤ times q vacant → slot_at new q ≡ slot_at list.slots q = λ q on.
    slot-other past p q (slot_left list p) (apart p q vacant w.not_vacant on)
    ∙ other-with_before (with_after list.slots s.before s.after) s.after s.before q (λ t is e. apart t q vacant (none_after t is) on e)
    ∙ other-with_after list.slots s.before s.after q (λ t is e. apart t q vacant (none_before t is) on e) in
    let chain : IsChain new list.free vacant = chain-same list.slots new list.free vacant same h.chained in
    record {
      linked = path-other past p (slot_left list p) (record { left = None; right = end_with s.before list.head s.after }) (xs ++ ys) (record { left = end_with s.after list.tail s.before; right = None }) w.once
          (path-past list.slots list.head list.tail xs p ys (waiting-once list (xs ++ p ∷ ys) vacant h list.slots refl) h.linked);
      chained = (refl, subst (λ (t : Slot). IsChain new t.after vacant) (sym here) chain);
      each = λ q. subst (λ (n : ℕ). times q (xs ++ ys) + times q (p ∷ vacant) ≡ cond (nat_lt q n) 1 0) (sym as_many)
          (let around : times q (xs ++ p ∷ ys) ≡ times q (p ∷ []) + times q (xs ++ ys) = times-around q xs p ys in
          let moved : times q (xs ++ ys) + times q (p ∷ vacant) ≡ times q (xs ++ p ∷ ys) + times q vacant = omega arith in moved ∙ h.each q);
      all = (let l1 : length (xs ++ ys) ≡ length xs + length ys = length-append xs ys in
          let l2 : length (xs ++ p ∷ ys) ≡ length xs + length (p ∷ ys) = length-append xs (p ∷ ys) in
          let whole : length (xs ++ p ∷ ys) + length vacant ≡ length list.slots = h.all in omega (arith, as_many));
      counted = (let was : list.vacant ≡ length vacant = h.counted in omega arith);
      few = (let was : length list.slots < 2 ^ 32 = h.few in omega (arith, as_many));
    }

-- what stands in a list has places before it and behind it there
pub split-at : (p : ℕ) (ps : List ℕ) → 1 ≤ times p ps → (xs : List ℕ) × (ys : List ℕ) × (ps ≡ xs ++ p ∷ ys)
split-at p [] on = absurd (omega arith)
split-at p (q ∷ ps) on =
    ⊎_elim
    (λ (e : p ≡ q). let found : (xs : List ℕ) × (ys : List ℕ) × (q ∷ ps ≡ xs ++ p ∷ ys) = ([], ps, ap (λ (x : ℕ). x ∷ ps) (sym e)) in found)
    (λ (apart : p ≡ q → ⊥).
    let rest = split-at p ps (grind (arith, apart)) in
    let found : (xs : List ℕ) × (ys : List ℕ) × (q ∷ ps ≡ xs ++ p ∷ ys) = (q ∷ rest.0, rest.1, ap (λ (l : List ℕ). q ∷ l) rest.2) in found)
    (cases_eq p q)

-- the places of calls at some places are those places
pub places-waiters_at : (slots : List Slot) (ps : List ℕ) → places_of (waiters_at slots ps) ≡ ps
places-waiters_at slots [] = refl
places-waiters_at slots (p ∷ ps) = ap (λ (l : List ℕ). p ∷ l) (places-waiters_at slots ps)

-- a waiter with those ahead of it and those behind it, and the slots that they stand in
pub record IsSplit (slots : List Slot) (places : List ℕ) (ahead : List (CallId × ℕ)) (waiter : CallId × ℕ) (behind : List (CallId × ℕ)) : Type 0 where
  pub places_are : places ≡ places_of ahead ++ waiter.1 ∷ places_of behind
  pub ahead_are : waiters_at slots (places_of ahead) ≡ ahead
  pub waiter_is : (slot_at slots waiter.1).id ≡ waiter.0
  pub behind_are : waiters_at slots (places_of behind) ≡ behind

-- waiters that are cut around one stand so
pub waiters-split : (slots : List Slot) (places : List ℕ) (ahead : List (CallId × ℕ)) (waiter : CallId × ℕ)
    (behind : List (CallId × ℕ)) → waiters_at slots places ≡ ahead ++ waiter ∷ behind
    → IsSplit slots places ahead waiter behind
waiters-split slots [] [] waiter behind is = absurd (cc)
waiters-split slots [] (a ∷ ahead) waiter behind is = absurd (cc)
waiters-split slots (p ∷ ps) [] waiter behind is =
    let here : let w : CallId × ℕ = ((slot_at slots p).id, p) in w ≡ waiter = cc in
    let rest : waiters_at slots ps ≡ behind = cc in
    let places : ps ≡ places_of behind = sym (places-waiters_at slots ps) ∙ ap places_of rest in
    let place : p ≡ waiter.1 = ap (λ (w : CallId × ℕ). w.1) here in
    record {
      places_are = cc;
      ahead_are = refl;
      waiter_is = subst (λ (x : ℕ). (slot_at slots x).id ≡ waiter.0) place (ap (λ (w : CallId × ℕ). w.0) here);
      behind_are = subst (λ (l : List ℕ). waiters_at slots l ≡ behind) places rest;
    }
waiters-split slots (p ∷ ps) (a ∷ ahead) waiter behind is =
    let here : let w : CallId × ℕ = ((slot_at slots p).id, p) in w ≡ a = cc in
    let rest : waiters_at slots ps ≡ ahead ++ waiter ∷ behind = cc in
    let split : IsSplit slots ps ahead waiter behind = waiters-split slots ps ahead waiter behind rest in
    let place : p ≡ a.1 = ap (λ (w : CallId × ℕ). w.1) here in
    let first : let w : CallId × ℕ = ((slot_at slots a.1).id, a.1) in w ≡ a = subst (λ (x : ℕ). let w : CallId × ℕ = ((slot_at slots x).id, x) in w ≡ a) place here in
    let behind_it : List ℕ = places_of ahead ++ waiter.1 ∷ places_of behind in
    record {
      places_are = ap (λ (l : List ℕ). p ∷ l) split.places_are ∙ ap (λ (x : ℕ). x ∷ behind_it) place;
      ahead_are = ap (λ (w : CallId × ℕ). w ∷ waiters_at slots (places_of ahead)) first ∙ ap (λ (l : List (CallId × ℕ)). a ∷ l) split.ahead_are;
      waiter_is = split.waiter_is;
      behind_are = split.behind_are;
    }

-- the others wait on, in order
pub taken-waiters : (list : Inside) (place : ℕ) (ahead behind : List (CallId × ℕ))
    → waiters_at list.slots (places_of ahead) ≡ ahead → waiters_at list.slots (places_of behind) ≡ behind
    → waiters_at (list_taken list place).slots (places_of ahead ++ places_of behind) ≡ ahead ++ behind
taken-waiters list place ahead behind front back =
    let new : List Slot = (list_taken list place).slots in
    map-append (λ (p : ℕ). ((slot_at new p).id, p)) (places_of ahead) (places_of behind)
    ∙ ap (λ (l : List (CallId × ℕ)). l ++ waiters_at new (places_of behind)) (waiters-same list.slots new (places_of ahead) (λ q on. id-taken list place q) ∙ front)
    ∙ ap (λ (l : List (CallId × ℕ)). ahead ++ l) (waiters-same list.slots new (places_of behind) (λ q on. id-taken list place q) ∙ back)

-- a waiter's place stands among the places of those that wait
pub waiter-split : (list : Inside) (p : ℕ) → IsWaitList list
    → 1 ≤ times p (places_of (waiters_at list.slots (waiting_places list)))
    → (xs : List ℕ) × (ys : List ℕ) × HasPlaces list (xs ++ p ∷ ys) (vacant_places list)
waiter-split list p h on =
    let on' : 1 ≤ times p (waiting_places list) = subst (λ (l : List ℕ). 1 ≤ times p l) (places-waiters_at list.slots (waiting_places list)) on in
    let split = split-at p (waiting_places list) on' in
    (split.0, split.1, subst (λ (l : List ℕ). HasPlaces list l (vacant_places list)) split.2 h)
