-- Where a comment begins in a text.
use Rattle.std.proofs.Common.{◌≡◌, ◌≤◌, ◌<◌, ◌+◌, ℕ, Bool, true, false, ◌&&◌, List, [], ◌∷◌, ◌++◌, take, drop, get_or, length, sym, ap, ◌∙◌, append_assoc, append-nil}
use Rattle.std.specs.Char.{is_ascii_whitespace}
use Rattle.std.proofs.lemmas.Bool.{cond-true, cond-false}
use Rattle.std.proofs.lemmas.List.{at_drop_more, at_drop_all, take_more}
use Rattle.aws_profiles.specs.Texts.{begins_with, is_comment_mark, uncommented}

-- a comment begins at this place of a text
abbrev pub is_comment_at : List ℕ → ℕ → Bool
is_comment_at text i = is_ascii_whitespace (get_or text i 0) && begins_with is_comment_mark (drop (i + 1) text)

module _ (text : List ℕ) (i : ℕ) where
  pub uncommented-here : i < length text → is_comment_at text i ≡ true
      → take i text ++ uncommented (drop i text) ≡ take i text
  unfolding uncommented
  uncommented-here within begins =
      let x = get_or text i 0 in
      let later = drop (i + 1) text in
      let none : uncommented (x ∷ later) ≡ [] = cond-true (is_comment_at text i) [] (x ∷ uncommented later) begins in
      ap (λ rest. take i text ++ rest) (at_drop_more uncommented text i 0 within ∙ none) ∙ append-nil (take i text)

  pub uncommented-further : i < length text → is_comment_at text i ≡ false
      → take (i + 1) text ++ uncommented (drop (i + 1) text) ≡ take i text ++ uncommented (drop i text)
  unfolding uncommented
  uncommented-further within none =
      let x = get_or text i 0 in
      let later = drop (i + 1) text in
      let more : uncommented (x ∷ later) ≡ x ∷ uncommented later = cond-false (is_comment_at text i) [] (x ∷ uncommented later) none in
      ap (λ front. front ++ uncommented later) (take_more text i 0 within)
      ∙ (append_assoc (take i text) (x ∷ []) (uncommented later)
      ∙ ap (λ rest. take i text ++ rest) (sym (at_drop_more uncommented text i 0 within ∙ more)))

  pub uncommented-whole : length text ≤ i → take i text ++ uncommented (drop i text) ≡ take i text
  unfolding uncommented
  uncommented-whole past =
      ap (λ rest. take i text ++ rest) (at_drop_all uncommented text i past) ∙ append-nil (take i text)
