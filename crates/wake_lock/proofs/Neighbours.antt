-- Slots of which one names another neighbour: what stays, and the path around one that leaves.
use Rattle.std.proofs.Common.{◌≡◌, ℕ, ◌+◌, ◌≤◌, ◌<◌, List, [], ◌∷◌, ◌++◌, Option, Some, None, length, set, refl, sym, ap, subst, ◌∙◌, ⊎_elim, arith}
use Rattle.std.proofs.lemmas.List.{length-set, set_past}
use Rattle.std.proofs.lemmas.Bool.{cases_eq, cases_lt}
use Rattle.sign_base.specs.declared.call_id.CallId.{CallId}
use Rattle.wake_lock.specs.declared.slots.Slot.{Slot}
use Rattle.wake_lock.specs.Slots.{slot_at}
use Rattle.wake_lock.specs.Links.{Gap, gap_after, IsPath, times, with_after, with_before, end_with}
use Rattle.wake_lock.proofs.Places.{times-here, times-append}
use Rattle.wake_lock.proofs.Links.{slot-other, slot-here, path-same, path-append, path-split, path-last}
use Rattle.wake_lock.proofs.Relinks.{AreOnce, once-part, left-relinked, right-relinked}

-- as many slots stand there, whichever names another after it
pub length-with_after : (slots : List Slot) (at after : Option ℕ)
    → length (with_after slots at after) ≡ length slots
length-with_after slots None after = refl
length-with_after slots (Some t) after = length-set slots t (record (slot_at slots t) { after = after })

-- as many slots stand there, whichever names another before it
pub length-with_before : (slots : List Slot) (at before : Option ℕ)
    → length (with_before slots at before) ≡ length slots
length-with_before slots None before = refl
length-with_before slots (Some t) before = length-set slots t (record (slot_at slots t) { before = before })

-- where one slot names another after it, every other slot stays
pub other-with_after : (slots : List Slot) (at after : Option ℕ) (q : ℕ) → ((t : ℕ) → at ≡ Some t → q ≡ t → ⊥)
    → slot_at (with_after slots at after) q ≡ slot_at slots q
other-with_after slots None after q apart = refl
other-with_after slots (Some t) after q apart = slot-other slots t q (record (slot_at slots t) { after = after }) (apart t refl)

-- where one slot names another before it, every other slot stays
pub other-with_before : (slots : List Slot) (at before : Option ℕ) (q : ℕ)
    → ((t : ℕ) → at ≡ Some t → q ≡ t → ⊥) → slot_at (with_before slots at before) q ≡ slot_at slots q
other-with_before slots None before q apart = refl
other-with_before slots (Some t) before q apart = slot-other slots t q (record (slot_at slots t) { before = before }) (apart t refl)

-- a slot is written with the call that it had: every slot has the call that it had
pub id-set : (slots : List Slot) (t : ℕ) (slot : Slot) (q : ℕ) → slot.id ≡ (slot_at slots t).id
    → (slot_at (set slots t slot) q).id ≡ (slot_at slots q).id
id-set slots t slot q same =
    let id_of : Slot → CallId = λ s. s.id in
    ⊎_elim
    (λ (e : q ≡ t). ⊎_elim
    (λ (below : t < length slots).
    subst (λ (x : ℕ). (slot_at (set slots t slot) x).id ≡ (slot_at slots x).id) (sym e) (ap id_of (slot-here slots t slot below) ∙ same))
    (λ (past : length slots ≤ t). ap (λ (l : List Slot). (slot_at l q).id) (set_past slots t slot past))
    (cases_lt t (length slots)))
    (λ (apart : q ≡ t → ⊥). ap id_of (slot-other slots t q slot apart))
    (cases_eq q t)

-- where one slot names another after it, every slot has the call that it had
pub id-with_after : (slots : List Slot) (at after : Option ℕ) (q : ℕ)
    → (slot_at (with_after slots at after) q).id ≡ (slot_at slots q).id
id-with_after slots None after q = refl
id-with_after slots (Some t) after q = id-set slots t (record (slot_at slots t) { after = after }) q refl

-- where one slot names another before it, every slot has the call that it had
pub id-with_before : (slots : List Slot) (at before : Option ℕ) (q : ℕ)
    → (slot_at (with_before slots at before) q).id ≡ (slot_at slots q).id
id-with_before slots None before q = refl
id-with_before slots (Some t) before q = id-set slots t (record (slot_at slots t) { before = before }) q refl

-- the neighbour on the left of where a path from the head leads is on the path
pub left-on : (slots : List Slot) (head : Option ℕ) (xs : List ℕ) (mid : Gap)
    → IsPath slots (record { left = None; right = head }) xs mid → (t : ℕ) → mid.left ≡ Some t
    → 1 ≤ times t xs
left-on slots head [] mid path t is = let none : mid.left ≡ None = sym (ap (λ (g : Gap). g.left) path) in cc
left-on slots head (x ∷ xs) mid path t is =
    let last = path-last slots (record { left = None; right = head }) x xs mid path in
    let same : last.0 ≡ t = cc (last.1, is) in
    subst (λ (y : ℕ). 1 ≤ times y (x ∷ xs)) same last.2

-- the neighbour on the right of where a path to the tail begins is on the path
pub right-on : (slots : List Slot) (from : Gap) (ys : List ℕ) (tail : Option ℕ)
    → IsPath slots from ys (record { left = tail; right = None }) → (t : ℕ) → from.right ≡ Some t
    → 1 ≤ times t ys
right-on slots from [] tail path t is = let none : from.right ≡ None = ap (λ (g : Gap). g.right) path in cc
right-on slots from (y ∷ ys) tail path t is =
    let same : y ≡ t = cc (path.0, is) in
    subst (λ (z : ℕ). 1 ≤ times z (y ∷ ys)) same (omega (arith, times-here y ys))

-- how often a place stands before, at and behind another
pub times-around : (q : ℕ) (xs : List ℕ) (p : ℕ) (ys : List ℕ)
    → times q (xs ++ p ∷ ys) ≡ times q (p ∷ []) + times q (xs ++ ys)
times-around q xs p ys = omega (arith, times-append q xs (p ∷ ys), times-append q xs ys)

-- the neighbours that a slot on a path names stand on the path, on either side of it
pub record NamesNeighbours (slot : Slot) (xs ys : List ℕ) : Type 0 where
  pub before : (t : ℕ) → slot.before ≡ Some t → 1 ≤ times t xs
  pub after : (t : ℕ) → slot.after ≡ Some t → 1 ≤ times t ys

-- a slot on a path from the head to the tail names such neighbours
pub neighbours-on : (slots : List Slot) (head tail : Option ℕ) (xs : List ℕ) (p : ℕ) (ys : List ℕ)
    → IsPath slots (record { left = None; right = head }) (xs ++ p ∷ ys)
    (record { left = tail; right = None })
    → NamesNeighbours (slot_at slots p) xs ys
neighbours-on slots head tail xs p ys path =
    let parts = path-split slots (record { left = None; right = head }) xs (p ∷ ys) (record { left = tail; right = None }) path in
    record {
      before = λ t is. left-on slots head xs parts.0 parts.1 t (sym parts.2.1 ∙ is);
      after = λ t is. right-on slots (gap_after slots p) ys tail parts.2.2 t is;
    }

-- once its two neighbours name each other, the path leads past the slot
pub path-past : (slots : List Slot) (head tail : Option ℕ) (xs : List ℕ) (p : ℕ) (ys : List ℕ)
    → AreOnce slots (xs ++ p ∷ ys)
    → IsPath slots (record { left = None; right = head }) (xs ++ p ∷ ys)
    (record { left = tail; right = None })
    → let s = slot_at slots p in
    IsPath (with_before (with_after slots s.before s.after) s.after s.before) (record { left = None; right = end_with s.before head s.after }) (xs ++ ys)
    (record { left = end_with s.after tail s.before; right = None })
path-past slots head tail xs p ys once path =
    let s : Slot = slot_at slots p in
    let parts = path-split slots (record { left = None; right = head }) xs (p ∷ ys) (record { left = tail; right = None }) path in
    let mid : Gap = parts.0 in
    let named : s.before ≡ mid.left = parts.2.1 in
    let changed : List Slot = with_after slots s.before s.after in
    let split : (q : ℕ) → times q (xs ++ p ∷ ys) ≡ times q xs + times q (p ∷ ys) = λ q. times-append q xs (p ∷ ys) in
    let xs_once : AreOnce slots xs = once-part slots xs (xs ++ p ∷ ys) (λ q. omega (arith, split q)) once in
    let ys_once : AreOnce slots ys = once-part slots ys (xs ++ p ∷ ys) (λ q. omega (arith, split q)) once in
    let ys_below : AreOnce changed ys = record { once = ys_once.once; below = λ q on. (let below : q < length slots = ys_once.below q on in omega (arith, length-with_after slots s.before s.after)) } in
    let not_both : (q : ℕ) → 1 ≤ times q xs → 1 ≤ times q ys → ⊥ = λ q a b. omega (arith, split q, once.once q) in
    let names : NamesNeighbours s xs ys = neighbours-on slots head tail xs p ys path in
    let first : IsPath changed (record { left = None; right = end_with s.before head s.after }) xs (record { left = s.before; right = s.after }) =
    subst (λ (o : Option ℕ). IsPath (with_after slots o s.after) (record { left = None; right = end_with o head s.after }) xs (record { left = o; right = s.after })) (sym named)
    (left-relinked slots head xs mid s.after xs_once parts.1) in
    let second : IsPath changed (gap_after slots p) ys (record { left = tail; right = None }) =
    path-same slots changed (gap_after slots p) ys (record { left = tail; right = None })
    (λ q on. other-with_after slots s.before s.after q (λ t is e. not_both q (subst (λ (x : ℕ). 1 ≤ times x xs) (sym e) (names.before t is)) on)) parts.2.2 in
    let first' : IsPath (with_before changed s.after s.before) (record { left = None; right = end_with s.before head s.after }) xs (record { left = s.before; right = s.after }) =
    path-same changed (with_before changed s.after s.before) (record { left = None; right = end_with s.before head s.after }) xs (record { left = s.before; right = s.after })
    (λ q on. other-with_before changed s.after s.before q (λ t is e. not_both q on (subst (λ (x : ℕ). 1 ≤ times x ys) (sym e) (names.after t is)))) first in
    path-append (with_before changed s.after s.before) (record { left = None; right = end_with s.before head s.after }) xs (record { left = s.before; right = s.after }) ys
    (record { left = end_with s.after tail s.before; right = None }) first' (right-relinked changed (gap_after slots p) ys tail s.before ys_below second)
