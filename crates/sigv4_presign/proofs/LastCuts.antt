-- A text is cut at its last mark in one way.
use Rattle.std.proofs.Common.{◌≡◌, ◌≢◌, ℕ, ◌+◌, ◌<◌, ◌≤◌, ◌==◌, true, false, List, [], ◌∷◌, ◌++◌, length, get_or, take, drop, All, Option, Some, None, refl, sym, ap, subst, ◌∙◌, arith, length-drop, take-append-drop}
use Rattle.std.specs.Prelude.{if◌then◌else◌}
use Rattle.std.proofs.lemmas.Bool.{eq-eqb, ne_eqb}
use Rattle.std.proofs.lemmas.List.{drop_more, get_or-drop}
use Rattle.std.proofs.lemmas.List.Elements.{All-head, All-tail, All-from_get_or}
use Rattle.sign_request.specs.Query.{Pair}
use Rattle.sigv4_presign.specs.LinkClaims.{IsLastCut}

-- the cut of a text with one byte more in front
abbrev onto_cut : ℕ → ℕ → List ℕ → Option Pair → Option Pair
onto_cut mark b bs None = if b == mark then Some ([], bs) else None
onto_cut mark b bs (Some cut) = Some (b ∷ cut.0, cut.1)

abbrev cut_of : ℕ → List ℕ → Option Pair
cut_of mark [] = None
cut_of mark (b ∷ bs) = onto_cut mark b bs (cut_of mark bs)

module _ (mark : ℕ) where
  cut_of-none : (text : List ℕ) → All (λ b. b ≢ mark) text → cut_of mark text ≡ None
  cut_of-none [] h = refl
  cut_of-none (b ∷ bs) h =
      let other : (b == mark) ≡ false = ne_eqb b mark (All-head (λ b. b ≢ mark) b bs h) in
      rw (cut_of-none bs (All-tail (λ b. b ≢ mark) b bs h), other) refl

  cut_of-at : (before behind : List ℕ) → All (λ b. b ≢ mark) behind
      → cut_of mark (before ++ mark ∷ behind) ≡ Some (before, behind)
  cut_of-at [] behind h =
      let same : (mark == mark) ≡ true = eq-eqb mark mark refl in
      rw (cut_of-none behind h, same) refl
  cut_of-at (b ∷ before) behind h = rw (cut_of-at before behind h) refl

  cut_of-IsLastCut : (text before behind : List ℕ) → IsLastCut mark text before behind
      → cut_of mark text ≡ Some (before, behind)
  cut_of-IsLastCut text before behind cut = ap (cut_of mark) cut.whole ∙ cut_of-at before behind cut.last

  -- two cuts of one text are the same
  pub one_cut : (text before behind front back : List ℕ) → IsLastCut mark text before behind
      → IsLastCut mark text front back → (before ≡ front) × (behind ≡ back)
  one_cut text before behind front back cut other =
      let same : Some (before, behind) ≡ Some (front, back) = sym (cut_of-IsLastCut text before behind cut) ∙ cut_of-IsLastCut text front back other in
      let parts : (before, behind) ≡ (front, back) = cc in
      (ap (λ (p : Pair). p.0) parts, ap (λ (p : Pair). p.1) parts)

  -- a text without a mark has none
  pub no_cut : (text before behind : List ℕ) → All (λ b. b ≢ mark) text → ¬ (IsLastCut mark text before behind)
  no_cut text before behind none cut =
      let none_is : cut_of mark text ≡ None = cut_of-none text none in
      let some_is : cut_of mark text ≡ Some (before, behind) = cut_of-IsLastCut text before behind cut in
      absurd cc

  -- a cut by its place
  pub cut_at_place : (text : List ℕ) (place : ℕ) → place < length text → get_or text place 0 ≡ mark
      → ((k : ℕ) → place + 1 ≤ k → k < length text → get_or text k 0 ≢ mark)
      → IsLastCut mark text (take place text) (drop (place + 1) text)
  cut_at_place text place within here behind = record {
    whole = sym (take-append-drop place text) ∙ ap (λ rest. take place text ++ rest) (drop_more text place 0 within ∙ ap (λ b. b ∷ drop (place + 1) text) here);
    last = All-from_get_or (λ b. b ≢ mark) (drop (place + 1) text) 0
        (λ k inside. subst (λ b. b ≢ mark) (sym (get_or-drop (place + 1) text k 0)) (behind (place + 1 + k) (omega arith) (omega (arith, length-drop (place + 1) text))));
  }
