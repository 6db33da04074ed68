-- The exchange of the word that adds an entry keeps the rule.
use Rattle.std.proofs.Common.{◌≡◌, ℕ, ◌+◌, ◌<◌, ◌≤◌, ◌==◌, Bool, true, false, List, [], ◌∷◌, ◌++◌, length, refl, ap, sym, subst, arith, inl, length-append, None}
use Rattle.std.proofs.lemmas.List.{append-nil}
use Rattle.std.proofs.lemmas.Bool.Decides.{nat_tests}
use mathlib.Core.List.{IsPrefix}
use prog.Atomic.{either}
use Rattle.logbook.specs.Pages.{Cell, cell, keeps, no_nib, step, Moves, Goes}
use Rattle.shared_history.specs.Counting.{IsCounted, Adds}
use Rattle.shared_history.proofs.Beginnings.{as_long_is_whole}

module _ {E : Type 0} where
  -- what clients see of a history: nothing
  abbrev pub shown : List E → List E
  shown log = []

  abbrev pub moved : List E → List E → ℕ → Type 0
  moved before after answer = Unit {0}

  -- the cells of a history
  abbrev pub cells_of : List E → List Cell
  cells_of log = (length log, true) ∷ (0, true) ∷ []

  -- what the exchange of the number `old` owes at this log
  abbrev pub AddsAt : List E → E → ℕ → List Cell → List E → Type 0
  AddsAt seen entry old =
      Goes IsCounted shown moved 0 (seen, (no_nib, None)) (λ n. either (n == old) (old + 1) n)
      (Adds (step 0 old (old + 1) entry) (seen, (no_nib, None)))

  pub adds_at : (log seen : List E) (entry : E) (old : ℕ) → old ≤ length seen → IsPrefix seen log
      → (b : Bool) → (length log == old) ≡ b → AddsAt seen entry old (cells_of log) log
  adds_at log seen entry old long begins true is =
      let here : length log ≡ old = grind (arith, nat_tests) in
      let same : seen ≡ log = as_long_is_whole seen log begins (omega arith) in
      let count : either (length log == old) (old + 1) (length log) ≡ length (log ++ entry ∷ []) =
      rw is (omega (arith, length-append log (entry ∷ []))) in (
        keeps,
        entry ∷ [],
        None,
        tt,
        ap (λ (n : ℕ). (n, true) ∷ (0, true) ∷ []) count,
        inl (refl, refl),
        rw is (ap (λ front. front ++ entry ∷ []) (sym same), omega (arith, ap length same)),
      )
  adds_at log seen entry old long begins false is =
      let all : log ++ [] ≡ log = append-nil log in
      let count : either (length log == old) (old + 1) (length log) ≡ length (log ++ []) =
      rw is (sym (ap length all)) in (
        keeps,
        [],
        None,
        tt,
        ap (λ (n : ℕ). (n, true) ∷ (0, true) ∷ []) count,
        inl (refl, refl),
        rw is tt,
      )

  -- whatever the log is, the exchange puts the entry behind all that was seen, or does nothing
  pub adds_moves : (seen : List E) (entry : E) (old : ℕ) → old ≤ length seen
      → Moves IsCounted shown moved 0 (seen, (no_nib, None)) (λ n. either (n == old) (old + 1) n)
      (Adds (step 0 old (old + 1) entry) (seen, (no_nib, None)))
  adds_moves seen entry old long cells log counted begins away =
      let P : List Cell → Type 0 =
      λ c. (0 < length c) × ((cell c 0).1 ≡ true) × AddsAt seen entry old c log in
      subst P (sym counted) (omega arith, refl, adds_at log seen entry old long begins (length log == old) refl)
