-- Paths of which the last slot or the first one names another neighbour.
use Rattle.std.proofs.Common.{◌≡◌, ℕ, ◌+◌, ◌≤◌, ◌<◌, List, [], ◌∷◌, Option, Some, None, length, set, refl, sym, ap, subst, ◌∙◌, arith}
use Rattle.wake_lock.specs.declared.slots.Slot.{Slot}
use Rattle.wake_lock.specs.Slots.{slot_at}
use Rattle.wake_lock.specs.Links.{Gap, gap_after, IsPath, times, with_after, with_before, end_with}
use Rattle.wake_lock.proofs.Places.{times-here, times-rest}
use Rattle.wake_lock.proofs.Links.{slot-other, slot-here, path-other, path-last}

-- every place of the list is a place of a slot, and stands there once
pub record AreOnce (slots : List Slot) (ps : List ℕ) : Type 0 where
  pub once : (q : ℕ) → times q ps ≤ 1
  pub below : (q : ℕ) → 1 ≤ times q ps → q < length slots

-- a part of such a list is such a list
pub once-part : (slots : List Slot) (xs ps : List ℕ) → ((q : ℕ) → times q xs ≤ times q ps) → AreOnce slots ps
    → AreOnce slots xs
once-part slots xs ps part all = record {
  once = λ q. let less : times q xs ≤ times q ps = part q in let one : times q ps ≤ 1 = all.once q in omega arith;
  below = λ q here. let less : times q xs ≤ times q ps = part q in all.below q (omega arith);
}

-- the last slot names another one as the one after it
last-after : (slots : List Slot) (from : Gap) (p : ℕ) (ps : List ℕ) (to : Gap) (t : ℕ) (after : Option ℕ)
    → to.left ≡ Some t → AreOnce slots (p ∷ ps) → IsPath slots from (p ∷ ps) to
    → IsPath (set slots t (record (slot_at slots t) { after = after })) from (p ∷ ps)
    (record { left = Some t; right = after })
last-after slots from p [] to t after is all path =
    let same : p ≡ t = cc (ap (λ (g : Gap). g.left) path.2) in
    let below : p < length slots = all.below p (omega (arith, times-here p [])) in
    subst (λ (x : ℕ). IsPath (set slots x (record (slot_at slots x) { after = after })) from (p ∷ []) (record { left = Some x; right = after })) same
    (let here : slot_at (set slots p (record (slot_at slots p) { after = after })) p ≡ record (slot_at slots p) { after = after } = slot-here slots p (record (slot_at slots p) { after = after }) below in
    (path.0, ap (λ (s : Slot). s.before) here ∙ path.1, ap (λ (s : Slot). let g : Gap = record { left = Some p; right = s.after } in g) here))
last-after slots from p (q ∷ qs) to t after is all path =
    let changed : List Slot = set slots t (record (slot_at slots t) { after = after }) in
    let last = path-last slots (gap_after slots p) q qs to path.2 in
    let found : last.0 ≡ t = cc (last.1, is) in
    let in_rest : 1 ≤ times t (q ∷ qs) = subst (λ (x : ℕ). 1 ≤ times x (q ∷ qs)) found last.2 in
    let apart : p ≡ t → ⊥ = λ e.
    let one : times t (p ∷ q ∷ qs) ≤ 1 = all.once t in
    let two : times t (t ∷ q ∷ qs) ≡ 1 + times t (q ∷ qs) = times-here t (q ∷ qs) in
    let one' : times t (t ∷ q ∷ qs) ≤ 1 = subst (λ (x : ℕ). times t (x ∷ q ∷ qs) ≤ 1) e one in
    omega (arith, in_rest, two, one') in
    let same : slot_at changed p ≡ slot_at slots p = slot-other slots t p (record (slot_at slots t) { after = after }) apart in
    let rest : IsPath changed (gap_after slots p) (q ∷ qs) (record { left = Some t; right = after }) =
    last-after slots (gap_after slots p) q qs to t after is (once-part slots (q ∷ qs) (p ∷ q ∷ qs) (λ x. times-rest x p (q ∷ qs)) all) path.2 in (
      path.0,
      ap (λ (s : Slot). s.before) same ∙ path.1,
      subst (λ (s : Slot). IsPath changed (record { left = Some p; right = s.after }) (q ∷ qs) (record { left = Some t; right = after })) (sym same) rest,
    )

-- where a path from the head ends, its last slot or else the head names another one as the one that follows
pub left-relinked : (slots : List Slot) (head : Option ℕ) (xs : List ℕ) (mid : Gap) (after : Option ℕ)
    → AreOnce slots xs → IsPath slots (record { left = None; right = head }) xs mid
    → IsPath (with_after slots mid.left after) (record { left = None; right = end_with mid.left head after })
    xs (record { left = mid.left; right = after })
left-relinked slots head [] mid after all path =
    subst (λ (g : Gap). IsPath (with_after slots g.left after) (record { left = None; right = end_with g.left head after }) [] (record { left = g.left; right = after })) path refl
left-relinked slots head (x ∷ xs) mid after all path =
    let last = path-last slots (record { left = None; right = head }) x xs mid path in
    subst (λ (o : Option ℕ). IsPath (with_after slots o after) (record { left = None; right = end_with o head after }) (x ∷ xs) (record { left = o; right = after })) (sym last.1)
    (last-after slots (record { left = None; right = head }) x xs mid last.0 after last.1 all path)

-- the first slot names another one as the one before it
first-before : (slots : List Slot) (from : Gap) (p : ℕ) (ps : List ℕ) (to : Gap) (before : Option ℕ)
    → AreOnce slots (p ∷ ps) → IsPath slots from (p ∷ ps) to
    → IsPath (set slots p (record (slot_at slots p) { before = before }))
    (record { left = before; right = Some p }) (p ∷ ps) to
first-before slots from p ps to before all path =
    let changed : List Slot = set slots p (record (slot_at slots p) { before = before }) in
    let here_once : times p (p ∷ ps) ≡ 1 + times p ps = times-here p ps in
    let one : times p (p ∷ ps) ≤ 1 = all.once p in
    let none : times p ps ≡ 0 = omega arith in
    let here : slot_at changed p ≡ record (slot_at slots p) { before = before } = slot-here slots p (record (slot_at slots p) { before = before }) (all.below p (omega arith)) in
    let rest : IsPath changed (gap_after slots p) ps to = path-other slots p (record (slot_at slots p) { before = before }) (gap_after slots p) ps to none path.2 in (
      refl,
      ap (λ (s : Slot). s.before) here,
      subst (λ (s : Slot). IsPath changed (record { left = Some p; right = s.after }) ps to) (sym here) rest,
    )

-- where a path to the tail begins, its first slot or else the tail names another one as the one that goes
-- before
pub right-relinked : (slots : List Slot) (from : Gap) (ys : List ℕ) (tail before : Option ℕ)
    → AreOnce slots ys → IsPath slots from ys (record { left = tail; right = None })
    → IsPath (with_before slots from.right before) (record { left = before; right = from.right }) ys
    (record { left = end_with from.right tail before; right = None })
right-relinked slots from [] tail before all path =
    subst (λ (g : Gap). IsPath (with_before slots g.right before) (record { left = before; right = g.right }) [] (record { left = end_with g.right tail before; right = None })) (sym path) refl
right-relinked slots from (y ∷ ys) tail before all path =
    subst (λ (o : Option ℕ). IsPath (with_before slots o before) (record { left = before; right = o }) (y ∷ ys) (record { left = end_with o tail before; right = None })) (sym path.0)
    (first-before slots from y ys (record { left = tail; right = None }) before all path)
