-- The words of a line, one after another.
use Rattle.std.proofs.Common.{◌≡◌, ℕ, ◌+◌, suc, ◌≤◌, Bool, true, false, not, List, [], ◌∷◌, length, take, drop, refl, sym, ap, ◌∙◌, arith}
use Rattle.std.specs.List.{onto_first, position_or_len}
use Rattle.std.proofs.lemmas.Bool.{eqb-true}
use Rattle.std.proofs.lemmas.List.Sums.{prefix_len-le-length}
use Rattle.line_words.specs.Bytes.{space}
use Rattle.line_words.specs.Words.{is_space, words, spaced_words, line_of}
use Rattle.line_words.specs.Readers.{words_after}

abbrev SplitsAt : List ℕ → ℕ → Type 0
SplitsAt text n = words text ≡ take n text ∷ words_after (drop n text)

one_more : (b : ℕ) (text : List ℕ) (s : Bool) → is_space b ≡ s → SplitsAt text (position_or_len is_space text)
    → SplitsAt (b ∷ text) (position_or_len is_space (b ∷ text))
one_more b text true parts ih = rw parts refl
one_more b text false parts ih =
    let k : 1 + position_or_len is_space text ≡ suc (position_or_len is_space text) = omega arith in
    rw (parts, k, ih) refl

-- the first word of a text ends at its first space
pub words_split : (text : List ℕ)
    → words text
    ≡ take (position_or_len is_space text) text ∷ words_after (drop (position_or_len is_space text) text)
words_split [] = refl
words_split (b ∷ text) = one_more b text (is_space b) refl (words_split text)

-- a place lies within its list
pub place_within : (p : ℕ → Bool) (xs : List ℕ) → position_or_len p xs ≤ length xs
place_within p xs = prefix_len-le-length (λ x. not (p x)) xs

-- words after a first one, each after a space, are a space and their line
spaced_line : (ws : List (List ℕ)) (word : List ℕ) (rest : List (List ℕ)) → ws ≡ word ∷ rest
    → spaced_words ws ≡ space ∷ line_of ws
spaced_line ws word rest e = rw e refl

first_longer : (b : ℕ) (ws : List (List ℕ)) (word : List ℕ) (rest : List (List ℕ)) → ws ≡ word ∷ rest
    → line_of (onto_first b ws) ≡ b ∷ line_of ws
first_longer b ws word rest e = rw e refl

more_line : (b : ℕ) (text : List ℕ) (s : Bool) → is_space b ≡ s → line_of (words text) ≡ text
    → line_of (words (b ∷ text)) ≡ b ∷ text
more_line b text true parts ih =
    let split = spaced_line (words text) _ _ (words_split text) in
    let here : b ≡ space = eqb-true b space parts in
    rw parts (split ∙ ap (λ (t : List ℕ). space ∷ t) ih ∙ ap (λ (x : ℕ). x ∷ text) (sym here))
more_line b text false parts ih =
    rw parts (first_longer b (words text) _ _ (words_split text) ∙ ap (λ (t : List ℕ). b ∷ t) ih)

-- a line is the line of its words
pub line_of_words : (line : List ℕ) → line_of (words line) ≡ line
line_of_words [] = refl
line_of_words (b ∷ text) = more_line b text (is_space b) refl (line_of_words text)
