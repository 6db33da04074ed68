-- The lines that carry a request head: these alone are copied into what they say.
use Rattle.std.specs.Prelude.{◌≡◌, ℕ, Bool, ◌||◌, List, ◌∷◌, IsTrue, codes}
use Rattle.std.specs.Str.{bytes_eq}
use Rattle.line_words.specs.Words.{words}

-- whether a line that begins with this word carries a head
abbrev pub names_head : List ℕ → Bool
names_head name = bytes_eq name (codes "begin") || bytes_eq name (codes "accept")

-- the first word of the line is `begin` or `accept`
abbrev pub CarriesHead : List ℕ → Type 0
CarriesHead line =
    (name : List ℕ) × (rest : List (List ℕ)) × (words line ≡ name ∷ rest) × IsTrue (names_head name)
