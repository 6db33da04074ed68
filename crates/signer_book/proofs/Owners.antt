-- Owners of places, after one more receipt: of the pass `n`, at `place`.
use Rattle.std.proofs.Common.{◌≡◌, ◌≢◌, ℕ, ◌<◌, ◌≤◌, ◌⊎◌, inl, inr, List, Option, Some, None, length, slice_index, slice_set, arith, get_or-set_same, get_or-set_other, sym, ◌∙◌, ap, subst, length-set}
use Rattle.std.proofs.lemmas.Bool.Decides.{eqb_tells, leb_tells}
use Rattle.signer_book.specs.Close.{IsFirstDouble}
use Rattle.signer_book.specs.Doubles.{AreOwners, IsLowest, lower_double}
use Rattle.signer_book.specs.declared.doubles.Double.{Double}

module _ (Had Has : ℕ → ℕ → Type 0) (place n : ℕ) (owners : List ℕ) (lowest : Option Double)
    (keeps : (p q : ℕ) → Had p q → Has p q) (here : Has place n) (more : (p q : ℕ) → Has p q → Had p q ⊎ ((p ≡ place) × (q ≡ n)))
    (bound : (p q : ℕ) → Had p q → q ≤ n) (within : place < length owners) (had : AreOwners Had owners lowest) where
  same_place : (p : ℕ) → (p ≡ place) ⊎ (p ≢ place)
  same_place p = elim (eqb_tells p place) [ inl e ↦ inl e.1 | inr e ↦ inr e.1 ]

  elsewhere : (p q : ℕ) → p ≢ place → Has p q → Had p q
  elsewhere p q ne h = elim (more p q h) [ inl before ↦ before | inr it ↦ absurd (ne it.0) ]

  -- a place that had no owner
  module _ (free : slice_index owners place ≡ 4294967295) (some : n ≢ 4294967295) where
    only : (p q : ℕ) → p ≡ place → Has p q → q ≡ n
    only p q e h =
        elim (more p q h) [
          | inl before ↦ absurd (had.free place free q (let P : ℕ → Type 0 = λ x. Had x q in subst P e before))
          | inr it ↦ it.1
        ]

    lowest-stays : (o : Option Double) → IsLowest Had o → IsLowest Has o
    lowest-stays None single = λ p q r a b.
        elim (same_place p) [ inl e ↦ only p q e a ∙ sym (only p r e b) | inr ne ↦ single p q r (elsewhere p q ne a) (elsewhere p r ne b) ]
    lowest-stays (Some double) d = record {
      order = d.order;
      first_has = keeps double.place double.first d.first_has;
      second_has = keeps double.place double.second d.second_has;
      lowest_passes = λ q below h.
          elim (same_place double.place) [
            | inl e ↦ absurd (had.free place free double.first (let P : ℕ → Type 0 = λ x. Had x double.first in subst P e d.first_has))
            | inr ne ↦ d.lowest_passes q below (elsewhere double.place q ne h)
          ];
      lowest_place = λ p q r below a b.
          elim (same_place p) [
            | inl e ↦ only p q e a ∙ sym (only p r e b)
            | inr ne ↦ d.lowest_place p q r below (elsewhere p q ne a) (elsewhere p r ne b)
          ];
    }

    at_place : (p : ℕ) → p ≡ place → slice_index (slice_set owners place n) p ≡ n
    at_place p e = ap (slice_index (slice_set owners place n)) e ∙ get_or-set_same owners place n 0 within

    at_other : (p : ℕ) → p ≢ place → slice_index (slice_set owners place n) p ≡ slice_index owners p
    at_other p ne = get_or-set_other owners place p n 0 ne

    owns : (p o : ℕ) → o ≡ n → p ≡ place → Has p o
    owns p o e is = let P : ℕ → Type 0 = λ x. Has x o in subst P (sym is) (let Q : ℕ → Type 0 = λ x. Has place x in subst Q (sym e) here)

    owned : (p o : ℕ) → o ≡ slice_index owners p → p < length owners → o ≢ 4294967295 → Has p o
    owned p o e below taken =
        let t : slice_index owners p ≢ 4294967295 = λ x. taken (e ∙ x) in
        keeps p o (let P : ℕ → Type 0 = λ x. Had p x in subst P (sym e) (had.has p below t))

    pub owner-new : AreOwners Has (slice_set owners place n) lowest
    owner-new = record {
      free = λ p e q h.
          elim (same_place p) [
            | inl is ↦ some (sym (at_place p is) ∙ e)
            | inr ne ↦ had.free p (sym (at_other p ne) ∙ e) q (elsewhere p q ne h)
          ];
      has = λ p below taken.
          let b : p < length owners = omega (arith, below, length-set owners place n) in
          elim (same_place p) [ inl is ↦ owns p _ (at_place p is) is | inr ne ↦ owned p _ (at_other p ne) b taken ];
      least = λ p below taken q h.
          let b : p < length owners = omega (arith, below, length-set owners place n) in
          elim (same_place p) [
            | inl is ↦ let e = at_place p is in let f = only p q is h in omega (arith, e, f)
            | inr ne ↦
                let e = at_other p ne in
                let t : slice_index owners p ≢ 4294967295 = λ x. taken (e ∙ x) in
                let f = had.least p b t q (elsewhere p q ne h) in
                omega (arith, e, f)
          ];
      lowest = lowest-stays lowest had.lowest;
    }

  -- a place that had an owner
  module _ (owner : ℕ) (is_owner : owner ≡ slice_index owners place) (taken : owner ≢ 4294967295) (new_here : Had place n → ⊥) where
    owner-has : Had place owner
    owner-has = let P : ℕ → Type 0 = λ x. Had place x in subst P (sym is_owner) (had.has place within (λ x. taken (is_owner ∙ x)))

    owner-below : owner < n
    owner-below =
        let b = bound place owner owner-has in
        let ne : owner ≢ n = λ e. new_here (let P : ℕ → Type 0 = λ x. Had place x in subst P e owner-has) in
        omega (arith, b, ne)

    -- where no lower place is in two passes
    double-here : ((p q r : ℕ) → p ≤ place → Had p q → Had p r → q ≡ r) → IsFirstDouble Has place owner n
    double-here single = record {
      order = owner-below;
      first_has = keeps place owner owner-has;
      second_has = here;
      lowest_passes = λ q below h.
          elim (more place q h) [
            | inl before ↦ single place q owner (omega arith) before owner-has
            | inr it ↦ absurd (omega (arith, it.1, below))
          ];
      lowest_place = λ p q r below a b.
          let ne : p ≢ place = omega (arith, below) in
          single p q r (omega (arith, below)) (elsewhere p q ne a) (elsewhere p r ne b);
    }

    double-stays : (p first second : ℕ) → p ≤ place → IsFirstDouble Had p first second
        → IsFirstDouble Has p first second
    double-stays p first second upto d = record {
      order = d.order;
      first_has = keeps p first d.first_has;
      second_has = keeps p second d.second_has;
      lowest_passes = λ q below h.
          elim (more p q h) [
            | inl before ↦ d.lowest_passes q below before
            | inr it ↦ let b = bound p second d.second_has in absurd (omega (arith, it.1, b, below))
          ];
      lowest_place = λ x q r below a b.
          let ne : x ≢ place = omega (arith, below, upto) in
          d.lowest_place x q r below (elsewhere x q ne a) (elsewhere x r ne b);
    }

    lower-is : (o : Option Double) → IsLowest Had o
        → IsLowest Has (Some (lower_double o (record { place = place; first = owner; second = n })))
    lower-is None single = double-here (λ p q r upto. single p q r)
    lower-is (Some before) d =
        elim (leb_tells before.place place) [
          | inl e ↦
              rw e.0 (double-stays before.place before.first before.second e.1 d)
          | inr e ↦
              rw e.0 (double-here (λ p q r upto. d.lowest_place p q r (omega (arith, e.1, upto))))
        ]

    pub owner-stays : AreOwners Has owners
        (Some (lower_double lowest (record { place = place; first = owner; second = n })))
    owner-stays = record {
      free = λ p e q h.
          elim (more p q h) [
            | inl before ↦ had.free p e q before
            | inr it ↦ taken (is_owner ∙ ap (slice_index owners) (sym it.0) ∙ e)
          ];
      has = λ p below t. keeps p (slice_index owners p) (had.has p below t);
      least = λ p below t q h.
          elim (more p q h) [
            | inl before ↦ had.least p below t q before
            | inr it ↦ let b = bound p (slice_index owners p) (had.has p below t) in omega (arith, b, it.1)
          ];
      lowest = lower-is lowest had.lowest;
    }

-- the same places
module _ (Had Has : ℕ → ℕ → Type 0) (owners : List ℕ) (found : Option Double) (keeps : (p q : ℕ) → Had p q → Has p q) (back : (p q : ℕ) → Has p q → Had p q) where
  lowest-same : (o : Option Double) → IsLowest Had o → IsLowest Has o
  lowest-same None single = λ p q r a b. single p q r (back p q a) (back p r b)
  lowest-same (Some double) d = record {
    order = d.order;
    first_has = keeps double.place double.first d.first_has;
    second_has = keeps double.place double.second d.second_has;
    lowest_passes = λ q below h. d.lowest_passes q below (back double.place q h);
    lowest_place = λ p q r below a b. d.lowest_place p q r below (back p q a) (back p r b);
  }

  pub owners-same : AreOwners Had owners found → AreOwners Has owners found
  owners-same h = record {
    free = λ p e q k. h.free p e q (back p q k);
    has = λ p below taken. keeps p (slice_index owners p) (h.has p below taken);
    least = λ p below taken q k. h.least p below taken q (back p q k);
    lowest = lowest-same found h.lowest;
  }
