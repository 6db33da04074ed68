-- Ways along linked slots: joined, cut in two, and past a slot that changes.
use Rattle.std.proofs.Common.{◌≡◌, ℕ, ◌≤◌, ◌<◌, zero, suc, List, [], ◌∷◌, ◌++◌, Option, Some, None, length, set, refl, sym, ap, subst, ◌∙◌, arith}
use Rattle.std.proofs.lemmas.List.{get_or-set_same, get_or-set_other}
use Rattle.wake_lock.specs.declared.slots.Slot.{Slot}
use Rattle.wake_lock.specs.Slots.{slot_at, blank_slot}
use Rattle.wake_lock.specs.Links.{Gap, gap_after, IsPath, IsChain, places_from, times}
use Rattle.wake_lock.proofs.Places.{times-here, times-rest}

-- another slot stays
pub slot-other : (slots : List Slot) (p q : ℕ) (slot : Slot) → (q ≡ p → ⊥)
    → slot_at (set slots p slot) q ≡ slot_at slots q
slot-other slots p q slot apart = get_or-set_other slots p q slot blank_slot apart

-- the slot that was written
pub slot-here : (slots : List Slot) (p : ℕ) (slot : Slot) → p < length slots
    → slot_at (set slots p slot) p ≡ slot
slot-here slots p slot below = get_or-set_same slots p slot blank_slot below

-- a path stays where its slots stay
pub path-same : (old new : List Slot) (from : Gap) (ps : List ℕ) (to : Gap)
    → ((q : ℕ) → 1 ≤ times q ps → slot_at new q ≡ slot_at old q) → IsPath old from ps to
    → IsPath new from ps to
path-same old new from [] to same path = path
path-same old new from (p ∷ ps) to same path =
    let here : slot_at new p ≡ slot_at old p = same p (omega (arith, times-here p ps)) in
    let rest : IsPath new (gap_after old p) ps to =
    path-same old new (gap_after old p) ps to (λ q on. same q (let more : times q ps ≤ times q (p ∷ ps) = times-rest q p ps in omega arith)) path.2 in (
      path.0,
      ap (λ (s : Slot). s.before) here ∙ path.1,
      subst (λ (s : Slot). IsPath new (record { left = Some p; right = s.after }) ps to) (sym here) rest,
    )

-- a chain stays where its slots stay
pub chain-same : (old new : List Slot) (start : Option ℕ) (ps : List ℕ)
    → ((q : ℕ) → 1 ≤ times q ps → slot_at new q ≡ slot_at old q) → IsChain old start ps → IsChain new start ps
chain-same old new start [] same chain = chain
chain-same old new start (p ∷ ps) same chain =
    let here : slot_at new p ≡ slot_at old p = same p (omega (arith, times-here p ps)) in
    let rest : IsChain new (slot_at old p).after ps =
    chain-same old new (slot_at old p).after ps (λ q on. same q (let more : times q ps ≤ times q (p ∷ ps) = times-rest q p ps in omega arith)) chain.1 in
    (chain.0, subst (λ (s : Slot). IsChain new s.after ps) (sym here) rest)

-- what stands in the list is not what stands nowhere in it
pub apart : (p q : ℕ) (ps : List ℕ) → times p ps ≡ 0 → 1 ≤ times q ps → q ≡ p → ⊥
apart p q ps none on e = let here : 1 ≤ times p ps = subst (λ (x : ℕ). 1 ≤ times x ps) e on in omega arith

-- a path stays where a slot is written that is not on it
pub path-other : (slots : List Slot) (p : ℕ) (slot : Slot) (from : Gap) (ps : List ℕ) (to : Gap)
    → times p ps ≡ 0 → IsPath slots from ps to → IsPath (set slots p slot) from ps to
path-other slots p slot from ps to none path = path-same slots (set slots p slot) from ps to (λ q on. slot-other slots p q slot (apart p q ps none on)) path

-- two paths make one
pub path-append : (slots : List Slot) (from : Gap) (xs : List ℕ) (mid : Gap) (ys : List ℕ) (to : Gap)
    → IsPath slots from xs mid → IsPath slots mid ys to → IsPath slots from (xs ++ ys) to
path-append slots from [] mid ys to first second = subst (λ (g : Gap). IsPath slots g ys to) (sym first) second
path-append slots from (x ∷ xs) mid ys to first second = (first.0, first.1, path-append slots (gap_after slots x) xs mid ys to first.2 second)

-- one path makes two
pub path-split : (slots : List Slot) (from : Gap) (xs ys : List ℕ) (to : Gap)
    → IsPath slots from (xs ++ ys) to → (mid : Gap) × IsPath slots from xs mid × IsPath slots mid ys to
path-split slots from [] ys to path = (from, refl, path)
path-split slots from (x ∷ xs) ys to path =
    let rest = path-split slots (gap_after slots x) xs ys to path.2 in
    (rest.0, (path.0, path.1, rest.1), rest.2)

-- a path leads to the right of its last place
pub path-last : (slots : List Slot) (from : Gap) (p : ℕ) (ps : List ℕ) (to : Gap)
    → IsPath slots from (p ∷ ps) to → (t : ℕ) × (to.left ≡ Some t) × (1 ≤ times t (p ∷ ps))
path-last slots from p [] to path = (p, sym (ap (λ (g : Gap). g.left) path.2), omega (arith, times-here p []))
path-last slots from p (q ∷ qs) to path =
    let rest = path-last slots (gap_after slots p) q qs to path.2 in
    let more : times rest.0 (q ∷ qs) ≤ times rest.0 (p ∷ q ∷ qs) = times-rest rest.0 p (q ∷ qs) in
    (rest.0, rest.1, omega (arith, rest.2, more))

-- walking finds the places of a path that ends
pub path-walked : (most : ℕ) (slots : List Slot) (from : Gap) (ps : List ℕ) (to : Gap)
    → IsPath slots from ps to → to.right ≡ None → length ps ≤ most → places_from most slots from.right ≡ ps
path-walked zero slots from [] to path ends fits = refl
path-walked (suc most) slots from [] to path ends fits = subst (λ (o : Option ℕ). places_from (suc most) slots o ≡ []) (sym (ap (λ (g : Gap). g.right) path ∙ ends)) refl
path-walked zero slots from (p ∷ ps) to path ends fits = absurd (omega arith)
path-walked (suc most) slots from (p ∷ ps) to path ends fits =
    subst (λ (o : Option ℕ). places_from (suc most) slots o ≡ p ∷ ps) (sym path.0)
    (ap (λ (l : List ℕ). p ∷ l) (path-walked most slots (gap_after slots p) ps to path.2 ends (omega arith)))

-- walking finds the places of a chain
pub chain-walked : (most : ℕ) (slots : List Slot) (start : Option ℕ) (ps : List ℕ) → IsChain slots start ps
    → length ps ≤ most → places_from most slots start ≡ ps
chain-walked zero slots start [] chain fits = refl
chain-walked (suc most) slots start [] chain fits = subst (λ (o : Option ℕ). places_from (suc most) slots o ≡ []) (sym chain) refl
chain-walked zero slots start (p ∷ ps) chain fits = absurd (omega arith)
chain-walked (suc most) slots start (p ∷ ps) chain fits =
    subst (λ (o : Option ℕ). places_from (suc most) slots o ≡ p ∷ ps) (sym chain.0)
    (ap (λ (l : List ℕ). p ∷ l) (chain-walked most slots (slot_at slots p).after ps chain.1 (omega arith)))
