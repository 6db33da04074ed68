-- The rule of the word that counts a history's entries, and what a step tells.
use Rattle.std.specs.Prelude.{ℕ, ◌≡◌, ◌==◌, true, List, [], ◌∷◌, ◌++◌, length, MatchBool}
use Rattle.logbook.specs.Pages.{Cell, Step, View, Book, Named}

-- the first word is the number of the entries. A book opens with two words, of which the second stays 0
abbrev pub IsCounted : {E : Type 0} → List Cell → List E → Type 0
IsCounted cells log = cells ≡ (length log, true) ∷ (0, true) ∷ []

-- the word of a book that counts
abbrev pub counter_of : Book → Named
counter_of book = record { tracked = true; key = 0; book = book }

-- where the number was the expected one, the entry was added behind all that had been seen, which were so
-- many
abbrev pub Adds : {E : Type 0} → Step E → View E ℕ → ℕ → View E ℕ → Type 0
Adds step before found after =
    MatchBool (found == step.old)
    ((after.0 ≡ before.0 ++ step.ask ∷ []) × (length before.0 ≡ step.old)) (Unit {0})
