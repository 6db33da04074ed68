-- A word that parts at the first place of a byte.
use Rattle.std.proofs.Common.{◌≡◌, ℕ, suc, ◌+◌, ◌<◌, Bool, false, eqb, ltb, List, [], ◌∷◌, ◌++◌, length, get_or, take, drop, Some, None, refl, ap, subst, ◌∙◌, arith, eq-eqb, length-append, append_assoc}
use Rattle.std.specs.List.{list_any, position, position_or_len}
use Rattle.std.proofs.lemmas.Bool.{ltb-true, lt-ltb, le-ltb, eqb-true, or_parts}
use Rattle.std.proofs.lemmas.List.{take_at, drop_at, length-take, get_or-take}
use Rattle.std.proofs.lemmas.List.Folds.{list_any_none}
use Rattle.std.proofs.lemmas.List.Sums.{split_at_first, passes_at_first, fails_before_first}
use Rattle.line_words.proofs.ReadingSteps.{some_is, passed_test}

-- whether a byte is the mark
abbrev pub is_the : ℕ → ℕ → Bool
is_the mark b = eqb b mark

mark_after : (mark : ℕ) (front rest : List ℕ) → list_any (is_the mark) front ≡ false
    → position_or_len (is_the mark) (front ++ mark ∷ rest) ≡ length front
mark_after mark [] rest none = rw (eq-eqb mark mark refl) refl
mark_after mark (b ∷ front) rest none =
    let parts = or_parts (is_the mark b) (list_any (is_the mark) front) none in
    let more : 1 + length front ≡ suc (length front) = omega arith in
    rw (parts.0, mark_after mark front rest parts.1, more) refl

-- after bytes that are no mark the first mark stands where they end
pub position-mark : (mark : ℕ) (front rest : List ℕ) → list_any (is_the mark) front ≡ false
    → position (is_the mark) (front ++ mark ∷ rest) ≡ Some (length front)
position-mark mark front rest none =
    let within : length front < length (front ++ mark ∷ rest) = omega (arith, length-append front (mark ∷ rest)) in
    rw (mark_after mark front rest none, lt-ltb (length front) (length (front ++ mark ∷ rest)) within) refl

-- bytes before a mark
pub take-mark : (mark : ℕ) (front rest : List ℕ) → take (length front) (front ++ mark ∷ rest) ≡ front
take-mark mark front rest = take_at front (mark ∷ rest) (length front) refl

-- bytes after a mark
pub drop-mark : (mark : ℕ) (front rest : List ℕ) → drop (length front + 1) (front ++ mark ∷ rest) ≡ rest
drop-mark mark front rest =
    let whole : (front ++ mark ∷ []) ++ rest ≡ front ++ mark ∷ rest = append_assoc front (mark ∷ []) rest in
    subst (λ (w : List ℕ). drop (length front + 1) w ≡ rest) whole (drop_at (front ++ mark ∷ []) rest (length front + 1) (length-append front (mark ∷ [])))

-- the word parts at this place, by its first mark
pub record PartsAt (mark : ℕ) (word : List ℕ) (place : ℕ) : Type 0 where
  pub whole : word ≡ take place word ++ mark ∷ drop (place + 1) word
  pub first : list_any (is_the mark) (take place word) ≡ false

none_before : (mark : ℕ) (word : List ℕ) (k d : ℕ)
    → k < length (take (position_or_len (is_the mark) word) word)
    → is_the mark (get_or (take (position_or_len (is_the mark) word) word) k d) ≡ false
none_before mark word k d lt =
    let before : k < position_or_len (is_the mark) word = omega (arith, length-take (position_or_len (is_the mark) word) word) in
    rw (get_or-take (position_or_len (is_the mark) word) word k d before) (fails_before_first (is_the mark) word k d before)

parts_at_first : (mark : ℕ) (word : List ℕ) → position_or_len (is_the mark) word < length word
    → PartsAt mark word (position_or_len (is_the mark) word)
parts_at_first mark word within =
    let here : get_or word (position_or_len (is_the mark) word) 0 ≡ mark = eqb-true _ mark (passes_at_first (is_the mark) word 0 within) in
    record {
      whole = split_at_first (is_the mark) word 0 within ∙ ap (λ (b : ℕ). take (position_or_len (is_the mark) word) word ++ b ∷ drop (position_or_len (is_the mark) word + 1) word) here;
      first = list_any_none (is_the mark) (take (position_or_len (is_the mark) word) word) (none_before mark word);
    }

-- a word parts at its first mark
pub parts_at : (mark : ℕ) (word : List ℕ) (place : ℕ) → position (is_the mark) word ≡ Some place
    → PartsAt mark word place
parts_at mark word place e =
    let found = passed_test (ltb (position_or_len (is_the mark) word) (length word)) (Some (position_or_len (is_the mark) word)) place e in
    subst (λ (n : ℕ). PartsAt mark word n) (some_is (position_or_len (is_the mark) word) place found.1) (parts_at_first mark word (ltb-true (position_or_len (is_the mark) word) (length word) found.0))

none_stops : (p : ℕ → Bool) (word : List ℕ) → list_any p word ≡ false → position_or_len p word ≡ length word
none_stops p [] none = refl
none_stops p (b ∷ word) none =
    let parts = or_parts (p b) (list_any p word) none in
    let more : 1 + length word ≡ suc (length word) = omega arith in
    rw (parts.0, none_stops p word parts.1, more) refl

-- where no byte passes there is no place
pub position-none : (p : ℕ → Bool) (word : List ℕ) → list_any p word ≡ false → position p word ≡ None
position-none p word none = rw (none_stops p word none, le-ltb (length word) (length word) (omega arith)) refl
