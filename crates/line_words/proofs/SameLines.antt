-- What a line is, by its words: lines of the same words are the same, and the first word says whether a line is silent.
use Rattle.std.proofs.Common.{◌≡◌, ℕ, Bool, true, false, List, [], ◌∷◌, refl, sym, ap, subst, ◌∙◌, drop, take}
use Rattle.std.specs.List.{position_or_len, join_with_byte}
use Rattle.std.proofs.lemmas.Bool.{eqb-true}
use Rattle.std.proofs.lemmas.List.Splits.{join_with_byte-slice_split}
use Rattle.line_words.specs.Bytes.{space, hash_sign}
use Rattle.line_words.specs.Words.{is_silent, is_space, words}
use Rattle.line_words.specs.Readers.{words_after}
use Rattle.line_words.proofs.WordList.{words_split}

-- lines of the same words are the same line
pub same_line : (a b : List ℕ) (ws : List (List ℕ)) → words a ≡ ws → words b ≡ ws → a ≡ b
same_line a b ws first second = sym (join_with_byte-slice_split space a) ∙ ap (join_with_byte space) (first ∙ sym second) ∙ join_with_byte-slice_split space b

after_hash : (text : List ℕ)
    → words (hash_sign ∷ text)
    ≡ (hash_sign ∷ take (position_or_len is_space text) text)
    ∷ words_after (drop (position_or_len is_space text) text)
after_hash text = rw (words_split text) refl

hash_name : (text name : List ℕ) (rest : List (List ℕ)) → words (hash_sign ∷ text) ≡ name ∷ rest
    → is_silent name ≡ true
hash_name text name rest parted =
    let same : hash_sign ∷ take (position_or_len is_space text) text ≡ name = cc (after_hash text, parted) in
    subst (λ (w : List ℕ). is_silent w ≡ true) same refl

-- the first word of a silent line is empty or begins with `#`
pub named_silent : (line name : List ℕ) (rest : List (List ℕ)) (silent : Bool) → words line ≡ name ∷ rest
    → is_silent name ≡ false → is_silent line ≡ silent → silent ≡ false
named_silent line name rest false parted field_named e = refl
named_silent [] name rest true parted field_named e =
    let same : [] ≡ name = cc in
    sym (subst (λ (w : List ℕ). is_silent w ≡ true) same refl) ∙ field_named
named_silent (b ∷ text) name rest true parted field_named e =
    let hash : b ≡ hash_sign = eqb-true b hash_sign e in
    sym (hash_name text name rest (subst (λ (x : ℕ). words (x ∷ text) ≡ name ∷ rest) hash parted)) ∙ field_named
