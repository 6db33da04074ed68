-- What a window of an input is seen as.
use Rattle.std.specs.Prelude.{◌≡◌, ◌++◌, ℕ, List, Option, Result, MatchResult, length}
use Rattle.std.specs.Io.KnownBytes.{Consumes, IsAtEnd, Keeps}

-- the most bytes that a window holds
abbrev pub buffer_size : ℕ
buffer_size = 131072

-- the line that was handed out last, and the bytes held after it
pub record HeldBytes : Type 0 where
  pub line : List ℕ
  pub held : List ℕ

-- a read added a piece to what is held, none only at the end of the source, or nothing where it failed
abbrev pub ReadsPiece : {E : Type 0} → Option (List ℕ) → Option (List ℕ) → List ℕ → List ℕ
    → Result ℕ E → Type 0
ReadsPiece before after old new result = MatchResult result
    (λ n. (piece : List ℕ) × (new ≡ old ++ piece) × (length piece ≡ n) × Consumes before after piece
    × (n ≡ 0 → IsAtEnd after))
    (λ _. (new ≡ old) × Keeps before after)
