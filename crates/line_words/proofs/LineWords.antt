-- A line that grows by words at its end.
use Rattle.std.proofs.Common.{◌≡◌, ℕ, List, [], ◌∷◌, ◌++◌, append_assoc, sym, ap, ◌∙◌}
use Rattle.std.proofs.lemmas.List.{append-nil}
use Rattle.std.proofs.lemmas.Grind.{flat_map-append}
use Rattle.sign_base.specs.Bytes.{newline}
use Rattle.line_words.specs.Bytes.{space}
use Rattle.line_words.specs.Words.{spaced_words, line_of, with_newline}

-- some more words
pub more-words : (old text new word : List ℕ) (before more : List (List ℕ))
    → text ≡ old ++ line_of (word ∷ before) → new ≡ text ++ spaced_words more
    → new ≡ old ++ line_of (word ∷ (before ++ more))
more-words old text new word before more so_far end =
    end
    ∙ ap (λ (v : List ℕ). v ++ spaced_words more) so_far
    ∙ append_assoc old (word ++ spaced_words before) (spaced_words more)
    ∙ ap (λ (v : List ℕ). old ++ v)
    (append_assoc word (spaced_words before) (spaced_words more) ∙ ap (λ (v : List ℕ). word ++ v) (sym (flat_map-append (λ (w : List ℕ). space ∷ w) before more)))

-- one word after a space is such words
pub one-word : (text new word : List ℕ) → new ≡ text ++ space ∷ word → new ≡ text ++ spaced_words (word ∷ [])
one-word text new word end = end ∙ ap (λ (v : List ℕ). text ++ space ∷ v) (sym (append-nil word))

-- a line that is added and ended
pub line-with_newline : (old mid new line : List ℕ) → mid ≡ old ++ line → new ≡ mid ++ newline ∷ []
    → new ≡ old ++ with_newline line
line-with_newline old mid new line added end =
    end ∙ ap (λ (v : List ℕ). v ++ newline ∷ []) added ∙ append_assoc old line (newline ∷ [])
