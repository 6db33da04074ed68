-- The value that a word spells, by its first byte.
use Rattle.std.proofs.Common.{◌≡◌, ℕ, ◌-◌, ◌<◌, true, List, [], ◌∷◌, length, take, drop, get_or, sym, ap, ◌∙◌, arith}
use Rattle.std.proofs.lemmas.List.{take_all}
use Rattle.line_words.specs.Escapes.{is_plain, with_first_byte, value_of}
use Rattle.line_words.proofs.HeadWords.{value_of-plain}

-- a plain byte, and those after it
pub plain_first : (rest : List ℕ) → is_plain (get_or rest 0 0) ≡ true
    → (value_of rest ≡ with_first_byte (get_or rest 0 0) (value_of (take (length rest - 1) (drop 1 rest))))
    × (length (take (length rest - 1) (drop 1 rest)) < length rest)
plain_first [] plain = absurd cc
plain_first (b ∷ after) plain =
    let all : take (length (b ∷ after) - 1) after ≡ after = take_all (length (b ∷ after) - 1) after (omega arith) in (
      value_of-plain b after plain ∙ ap (λ v. with_first_byte b (value_of v)) (sym all),
      omega (arith, ap (λ (v : List ℕ). length v) all),
    )
