-- The test of two lists of pairs, text by text.
use Rattle.std.proofs.Common.{◌≡◌, Bool, true, ◌&&◌, List, [], ◌∷◌, refl, ap}
use Rattle.std.specs.Cmp.Lexicographic.{pointwise, bytes_decides}
use Rattle.std.specs.String.{string_bytes, string_eq}
use Rattle.std.specs.declared.string.String.{String}
use Rattle.std.proofs.lemmas.Bool.{and_parts, and_from}
use Rattle.sign_request.specs.Query.{Pair, text_pairs}

module _ {Z : Type 0} where
  -- the test of two pairs
  abbrev pub same_pair : String Z × String Z → String Z × String Z → Bool
  same_pair p q = string_eq p.0 q.0 && string_eq p.1 q.1

  pub text_pairs-from_same : (ps qs : List (String Z × String Z)) → pointwise same_pair ps qs ≡ true
      → text_pairs ps ≡ text_pairs qs
  text_pairs-from_same [] [] h = refl
  text_pairs-from_same [] (q ∷ qs) h = cc
  text_pairs-from_same (p ∷ ps) [] h = cc
  text_pairs-from_same (p ∷ ps) (q ∷ qs) h =
      let both = and_parts (same_pair p q) (pointwise same_pair ps qs) h in
      let sides = and_parts (string_eq p.0 q.0) (string_eq p.1 q.1) both.0 in
      λ i. ((bytes_decides (string_bytes p.0) (string_bytes q.0)).0 sides.0 i, (bytes_decides (string_bytes p.1) (string_bytes q.1)).0 sides.1 i) ∷ text_pairs-from_same ps qs both.1 i

  pub same-from_text_pairs : (ps qs : List (String Z × String Z)) → text_pairs ps ≡ text_pairs qs
      → pointwise same_pair ps qs ≡ true
  same-from_text_pairs [] [] h = refl
  same-from_text_pairs [] (q ∷ qs) h = cc
  same-from_text_pairs (p ∷ ps) [] h = cc
  same-from_text_pairs (p ∷ ps) (q ∷ qs) h =
      and_from (same_pair p q) (pointwise same_pair ps qs)
      (and_from (string_eq p.0 q.0) (string_eq p.1 q.1) ((bytes_decides (string_bytes p.0) (string_bytes q.0)).1 (ap (λ rs. (first rs).0) h)) ((bytes_decides (string_bytes p.1) (string_bytes q.1)).1 (ap (λ rs. (first rs).1) h)))
      (same-from_text_pairs ps qs (ap rest h))
    where
      first : List Pair → Pair
      first [] = ([], [])
      first (r ∷ rs) = r

      rest : List Pair → List Pair
      rest [] = []
      rest (r ∷ rs) = rs
