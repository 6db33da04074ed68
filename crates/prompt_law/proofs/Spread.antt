-- What holds of each entry after those before it, read from some of the entries alone.
use Rattle.std.proofs.Common.{◌≡◌, ◌⊎◌, inl, inr, Bool, true, false, cond, List, [], ◌∷◌, ◌++◌, filter, length, refl, sym, ◌∙◌, subst, arith}
use Rattle.std.proofs.lemmas.Bool.{false≢true}
use Rattle.sequential_signer.specs.Legal.{AreLegalAfter}
use Rattle.sequential_signer.proofs.Lists.{filter-more_yes, filter-more_no}

module _ {E : Type 0} where
  -- each item has a property that depends on those before it
  abbrev pub EachAfter : (List E → E → Type 0) → List E → List E → Type 0
  EachAfter P before xs = AreLegalAfter (λ l. l) P before xs

  -- a property that follows from another
  pub each-weaker : (P Q : List E → E → Type 0) → ((before : List E) (x : E) → P before x → Q before x)
      → (before xs : List E) → EachAfter P before xs → EachAfter Q before xs
  each-weaker P Q f before [] h = tt
  each-weaker P Q f before (x ∷ xs) h = (f before x h.0, each-weaker P Q f (before ++ x ∷ []) xs h.1)

  module _ (q : E → Bool) (P : List E → E → Type 0) where
    -- what the items that pass have among themselves
    abbrev pub AmongThose : List E → E → Type 0
    AmongThose before x = q x ≡ true → P (filter q before) x

    spread_step : (before : List E) (x : E) (xs : List E)
        → ((b : List E) → EachAfter P (filter q b) (filter q xs) → EachAfter AmongThose b xs) → (t : Bool)
        → q x ≡ t → EachAfter P (filter q before) (cond t (x ∷ filter q xs) (filter q xs))
        → EachAfter AmongThose before (x ∷ xs)
    spread_step before x xs later true t h =
        ((λ _. h.0), later (before ++ x ∷ []) (subst (λ l. EachAfter P l (filter q xs)) (sym (filter-more_yes q before x t)) h.1))
    spread_step before x xs later false t h =
        ((λ k. absurd (false≢true (sym t ∙ k))), later (before ++ x ∷ []) (subst (λ l. EachAfter P l (filter q xs)) (sym (filter-more_no q before x t)) h))

    pub spread : (before xs : List E) → EachAfter P (filter q before) (filter q xs)
        → EachAfter AmongThose before xs
    spread before [] h = tt
    spread before (x ∷ xs) h = spread_step before x xs (λ b k. spread b xs k) (q x) refl h

  module _ (R : List E → E → Type 0) where
    -- the items that pass have the property
    abbrev pub Where : (E → Bool) → List E → E → Type 0
    Where q before x = q x ≡ true → R before x

    -- items that pass one test or another
    pub either : (q r s : E → Bool) → ((x : E) → s x ≡ true → (q x ≡ true) ⊎ (r x ≡ true))
        → (before xs : List E) → EachAfter (Where q) before xs → EachAfter (Where r) before xs
        → EachAfter (Where s) before xs
    either q r s cases before [] h k = tt
    either q r s cases before (x ∷ xs) h k =
        ((λ t. elim (cases x t) [ inl a ↦ h.0 a | inr b ↦ k.0 b ]), either q r s cases (before ++ x ∷ []) xs h.1 k.1)

    nobody_step : (q : E → Bool) (before : List E) (x : E) (xs : List E)
        → ((b : List E) → length (filter q xs) ≡ 0 → EachAfter (Where q) b xs) → (t : Bool) → q x ≡ t
        → length (cond t (x ∷ filter q xs) (filter q xs)) ≡ 0 → EachAfter (Where q) before (x ∷ xs)
    nobody_step q before x xs later true t h = absurd (omega arith)
    nobody_step q before x xs later false t h = ((λ k. absurd (false≢true (sym t ∙ k))), later (before ++ x ∷ []) h)

    -- where none passes there is nothing to show
    pub nobody : (q : E → Bool) (before xs : List E) → length (filter q xs) ≡ 0
        → EachAfter (Where q) before xs
    nobody q before [] h = tt
    nobody q before (x ∷ xs) h = nobody_step q before x xs (λ b k. nobody q b xs k) (q x) refl h
