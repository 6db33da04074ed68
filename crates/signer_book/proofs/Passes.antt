-- Which places the passes so far have, with one more receipt and one more pass.
use Rattle.std.proofs.Common.{◌≡◌, ℕ, zero, suc, ◌<◌, ◌≤◌, ◌⊎◌, inl, inr, List, [], ◌∷◌, ◌++◌, Some, option_map, slice_get, length, arith, refl}
use Rattle.signer_book.specs.Close.{HasPlace}
use Rattle.signer_book.specs.declared.pass.Receipt.{Receipt}

module _ {K : Type 0} where
  -- a receipt names the place
  abbrev pub Names : List (Receipt K) → ℕ → Type 0
  Names rs p = (at : ℕ) × (option_map (λ (r : Receipt K). r.place) (slice_get rs at) ≡ Some p)

  pub names-keeps : (rs : List (Receipt K)) (r : Receipt K) (p : ℕ) → Names rs p → Names (rs ++ r ∷ []) p
  names-keeps [] r p (at, e) = absurd (cc)
  names-keeps (x ∷ rs) r p (zero, e) = (zero, e)
  names-keeps (x ∷ rs) r p (suc at, e) = let k = names-keeps rs r p (at, e) in (suc k.0, k.1)

  pub names-here : (rs : List (Receipt K)) (r : Receipt K) → Names (rs ++ r ∷ []) r.place
  names-here [] r = (zero, refl)
  names-here (x ∷ rs) r = let k = names-here rs r in (suc k.0, k.1)

  pub names-more : (rs : List (Receipt K)) (r : Receipt K) (p : ℕ) → Names (rs ++ r ∷ []) p
      → Names rs p ⊎ (p ≡ r.place)
  names-more [] r p (zero, e) = inr (cc)
  names-more [] r p (suc at, e) = absurd (cc)
  names-more (x ∷ rs) r p (zero, e) = inl (zero, e)
  names-more (x ∷ rs) r p (suc at, e) = elim (names-more rs r p (at, e)) [ inl k ↦ inl (suc k.0, k.1) | inr k ↦ inr k ]

  pub has-below : (xs : List (List (Receipt K))) (p q : ℕ) → HasPlace xs p q → q < length xs
  has-below [] p q (at, e) = absurd (cc)
  has-below (x ∷ xs) p zero h = omega arith
  has-below (x ∷ xs) p (suc q) h = let k = has-below xs p q h in omega (arith, k)

  -- one more pass
  pub has-before : (xs : List (List (Receipt K))) (t : List (Receipt K)) (p q : ℕ) → HasPlace xs p q
      → HasPlace (xs ++ t ∷ []) p q
  has-before [] t p q (at, e) = absurd (cc)
  has-before (x ∷ xs) t p zero h = h
  has-before (x ∷ xs) t p (suc q) h = has-before xs t p q h

  pub has-last : (xs : List (List (Receipt K))) (t : List (Receipt K)) (p q : ℕ) → q ≡ length xs → Names t p
      → HasPlace (xs ++ t ∷ []) p q
  has-last [] t p zero e h = h
  has-last [] t p (suc q) e h = absurd (omega (arith, e))
  has-last (x ∷ xs) t p zero e h = absurd (omega (arith, e))
  has-last (x ∷ xs) t p (suc q) e h = has-last xs t p q (omega (arith, e)) h

  pub has-cases : (xs : List (List (Receipt K))) (t : List (Receipt K)) (p q : ℕ)
      → HasPlace (xs ++ t ∷ []) p q → HasPlace xs p q ⊎ ((q ≡ length xs) × Names t p)
  has-cases [] t p zero h = inr (refl, h)
  has-cases [] t p (suc q) (at, e) = absurd (cc)
  has-cases (x ∷ xs) t p zero h = inl h
  has-cases (x ∷ xs) t p (suc q) h =
      elim (has-cases xs t p q h) [ inl k ↦ inl k | inr k ↦ let e : suc q ≡ length (x ∷ xs) = omega (arith, k.0) in inr (e, k.1) ]

  -- the passes so far, and the receipts of the next so far
  module _ (xs : List (List (Receipt K))) (t : List (Receipt K)) (r : Receipt K) where
    pub grown-keeps : (p q : ℕ) → HasPlace (xs ++ t ∷ []) p q → HasPlace (xs ++ (t ++ r ∷ []) ∷ []) p q
    grown-keeps p q h =
        elim (has-cases xs t p q h) [
          | inl k ↦ has-before xs (t ++ r ∷ []) p q k
          | inr k ↦ has-last xs (t ++ r ∷ []) p q k.0 (names-keeps t r p k.1)
        ]

    pub grown-here : HasPlace (xs ++ (t ++ r ∷ []) ∷ []) r.place (length xs)
    grown-here = has-last xs (t ++ r ∷ []) r.place (length xs) refl (names-here t r)

    pub grown-more : (p q : ℕ) → HasPlace (xs ++ (t ++ r ∷ []) ∷ []) p q
        → HasPlace (xs ++ t ∷ []) p q ⊎ ((p ≡ r.place) × (q ≡ length xs))
    grown-more p q h =
        elim (has-cases xs (t ++ r ∷ []) p q h) [
          | inl k ↦ inl (has-before xs t p q k)
          | inr k ↦
              elim (names-more t r p k.1) [ inl b ↦ inl (has-last xs t p q k.0 b) | inr e ↦ inr (e, k.0) ]
        ]

    pub grown-bound : (p q : ℕ) → HasPlace (xs ++ t ∷ []) p q → q ≤ length xs
    grown-bound p q h =
        elim (has-cases xs t p q h) [
          | inl k ↦ let b = has-below xs p q k in omega (arith, b)
          | inr k ↦ omega (arith, k.0)
        ]

    pub grown-new : (Names t r.place → ⊥) → HasPlace (xs ++ t ∷ []) r.place (length xs) → ⊥
    grown-new unnamed h =
        elim (has-cases xs t r.place (length xs) h) [
          | inl k ↦ let b = has-below xs r.place (length xs) k in omega (arith, b)
          | inr k ↦ unnamed k.1
        ]
