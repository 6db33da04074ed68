-- What the readers of a line give, against what its words say.
use Rattle.std.specs.Prelude.{◌≡◌, ℕ, List, [], ◌∷◌, Option, Some, None, Result, Ok, Err}
use Rattle.line_words.specs.declared.read_error.NotUnderstood as cause
use Rattle.line_words.specs.declared.read_error.ReadError.{ReadError}
use Rattle.line_words.specs.declared.read_error.ReadError.TheVariants.{NotUnderstood, OutOfMemory}
use Rattle.line_words.specs.Words.{words}

-- the words of what stands after a word of its line: nothing, or a space and more words
abbrev pub words_after : List ℕ → List (List ℕ)
words_after [] = []
words_after (space ∷ rest) = words rest

-- what a reader that takes no memory gave, seen by view, is what the words say
abbrev pub Reads : {X Y : Type 0} → (X → Y) → Result X cause.NotUnderstood → Option Y → Type 0
Reads view (Ok x) says = says ≡ Some (view x)
Reads view (Err e) says = says ≡ None

-- why a reader gave nothing, against what the words say
abbrev pub Fails : {Y : Type 0} → ReadError → Option Y → Type 0
Fails NotUnderstood says = says ≡ None
Fails OutOfMemory says = Unit {0}

-- what a reader gave, seen by view, is what the words say, unless memory ran out
abbrev pub Gives : {X Y : Type 0} → (X → Y) → Result X ReadError → Option Y → Type 0
Gives view (Ok x) says = says ≡ Some (view x)
Gives view (Err e) says = Fails e says

-- out of memory comes only where this holds
abbrev pub NeedsMemory : {X : Type 0} → Result X ReadError → Type 0 → Type 0
NeedsMemory (Err OutOfMemory) fact = fact
NeedsMemory _ fact = Unit {0}
