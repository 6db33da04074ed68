-- The steps in which the words of a line are read.
use Rattle.std.specs.Prelude.{ℕ, List, [], ◌∷◌, Option, Some, None}
use Rattle.line_words.specs.Words.{number_of}

-- what follows where something was read
infixl 10 ◌>>=◌
abbrev pub ◌>>=◌ : {A B : Type 0} → Option A → (A → Option B) → Option B
(Some x) >>= f = f x
None >>= f = None

-- what the first of these words says, and the words after it
abbrev pub first_word : {A : Type 0} → (List ℕ → Option A) → List (List ℕ) → Option (A × List (List ℕ))
first_word says [] = None
first_word says (word ∷ rest) = do
  x ← says word
  Some (x, rest)

-- what was read, where no word is left
abbrev pub at_end_of_line : {A : Type 0} → A → List (List ℕ) → Option A
at_end_of_line x [] = Some x
at_end_of_line x (word ∷ rest) = None

-- a number up to a limit, and the words after it
unfoldable pub number_at : ℕ → List (List ℕ) → Option (ℕ × List (List ℕ))
number_at limit words = first_word (number_of limit) words
