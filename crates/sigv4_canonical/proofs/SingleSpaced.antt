-- A value whose words stand one space apart is what is written of it.
use Rattle.std.proofs.Common.{◌≡◌, ℕ, Bool, true, false, not, ◌&&◌, ◌||◌, ◌==◌, inl, inr, List, [], ◌∷◌, ◌++◌, length, filter, codes, refl, sym, ap, ◌∙◌, append_assoc, arith}
use Rattle.std.specs.List.{slice_split, onto_first, join_with_byte, list_all}
use Rattle.std.proofs.lemmas.Bool.{cases_Bool}
use Rattle.std.proofs.lemmas.Bool.Decides.{nat_tests}
use Rattle.std.proofs.lemmas.List.Splits.{join_with_byte-slice_split}
use Rattle.sign_request.specs.CanonicalText.{joined_texts}
use Rattle.sign_request.specs.Headers.{is_blank}
use Rattle.sigv4_canonical.specs.CanonicalHeaders.{single_spaced}
use Rattle.sigv4_canonical.specs.SingleSpaced.{is_single_spaced}

abbrev is_word : List ℕ → Bool
is_word word = not (length word == 0)

-- the words behind the first are none of them empty, and neither is the first where it begins here
abbrev are_words : Bool → List (List ℕ) → Bool
are_words in_word [] = true
are_words in_word (word ∷ words) = (in_word || is_word word) && list_all is_word words

begins_word : (b : ℕ) (word : List ℕ) → is_word (b ∷ word) ≡ true
begins_word b word = grind (arith, nat_tests)

at_blank : (in_word : Bool) (words : List (List ℕ))
    → (in_word && are_words false words) ≡ are_words in_word ([] ∷ words)
at_blank true [] = refl
at_blank true (word ∷ words) = refl
at_blank false words = refl

at_byte : (in_word : Bool) (b : ℕ) (words : List (List ℕ))
    → are_words true words ≡ are_words in_word (onto_first b words)
at_byte true b [] = refl
at_byte true b (word ∷ words) = refl
at_byte false b [] = refl
at_byte false b (word ∷ words) = rw (begins_word b word) refl

at_end : (in_word : Bool) → in_word ≡ are_words in_word ([] ∷ [])
at_end true = refl
at_end false = refl

spaced-words : (in_word : Bool) (value : List ℕ)
    → is_single_spaced in_word value ≡ are_words in_word (slice_split is_blank value)
spaced-words in_word [] = at_end in_word
spaced-words in_word (b ∷ value) =
    elim (cases_Bool (is_blank b)) [
      | inl blank ↦
          rw blank (ap (λ rest. in_word && rest) (spaced-words false value) ∙ at_blank in_word (slice_split is_blank value))
      | inr byte ↦
          rw byte (spaced-words true value ∙ at_byte in_word b (slice_split is_blank value))
    ]

from_all : (words : List (List ℕ)) → list_all is_word words ≡ true → are_words false words ≡ true
from_all [] e = refl
from_all (word ∷ words) e = e

all_kept : (words : List (List ℕ)) → are_words false words ≡ true → filter is_word words ≡ words
all_kept [] e = refl
all_kept (word ∷ words) e =
    elim (cases_Bool (is_word word)) [
      | inl some ↦ rw some (ap (λ ws. word ∷ ws) (all_kept words (from_all words (rw some at e))))
      | inr none ↦ absurd (let never : false ≡ true = rw none at e in cc)
    ]

joined_at : (c : ℕ) (words : List (List ℕ)) → joined_texts (c ∷ []) words ≡ join_with_byte c words
joined_at c [] = refl
joined_at c (word ∷ []) = refl
joined_at c (word ∷ next ∷ words) =
    append_assoc word (c ∷ []) (joined_texts (c ∷ []) (next ∷ words)) ∙ ap (λ text. word ++ c ∷ text) (joined_at c (next ∷ words))

-- a value of words one space apart is written as it is
pub written_as_it_is : (value : List ℕ) → is_single_spaced false value ≡ true → single_spaced value ≡ value
unfolding single_spaced
written_as_it_is value e =
    let words = slice_split is_blank value in
    ap (joined_texts (codes " ")) (all_kept words (sym (spaced-words false value) ∙ e))
    ∙ (joined_at 32 words ∙ join_with_byte-slice_split 32 value)
