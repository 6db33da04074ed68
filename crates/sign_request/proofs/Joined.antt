-- Texts joined, with one more at the end.
use Rattle.std.proofs.Common.{◌≡◌, ℕ, ◌<◌, List, [], ◌∷◌, ◌++◌, length, refl, arith, append_assoc}
use Rattle.sign_request.specs.CanonicalText.{joined_texts}

pub joined_texts-more : (between : List ℕ) (xs : List (List ℕ)) (x : List ℕ) → 0 < length xs
    → joined_texts between (xs ++ x ∷ []) ≡ joined_texts between xs ++ between ++ x
joined_texts-more between [] x some = absurd (omega arith)
joined_texts-more between (y ∷ []) x some = refl
joined_texts-more between (y ∷ z ∷ xs) x some = rw (joined_texts-more between (z ∷ xs) x (omega arith)) (simp append_assoc refl)
