-- Owners, as receipts and passes are gone over, and what they show at the end.
use Rattle.std.proofs.Common.{◌≡◌, ◌≢◌, ℕ, ◌<◌, ◌+◌, inl, inr, List, [], ◌∷◌, ◌++◌, Option, Some, None, MatchOption, slice_index, slice_set, get_or, take, All, length, arith, sym, subst}
use Rattle.std.specs.List.Sorted.{IsStrictlyIncreasing}
use Rattle.std.proofs.lemmas.List.Elements.{All-get_or}
use Rattle.signer_book.specs.Settled.{places, AreRising, AreDistinct}
use Rattle.signer_book.specs.Close.{HasPlace, IsFirstDouble}
use Rattle.signer_book.specs.Doubles.{AreOwners, IsLowest, lower_double}
use Rattle.signer_book.specs.declared.doubles.Double.{Double}
use Rattle.signer_book.specs.declared.pass.Receipt.{Receipt}
use Rattle.signer_book.proofs.Owners.{owner-new, owner-stays, owners-same}
use Rattle.signer_book.proofs.Passes.{Names, grown-keeps, grown-here, grown-more, grown-bound, grown-new, has-before, has-cases}
use Rattle.signer_book.proofs.Receipts.{take-read, unnamed-before}
use Rattle.signer_book.proofs.Distinct.{distinct-all}

module _ {K : Type 0} where
  -- no receipt of the next pass yet
  pub marks-begin : (passes : List (List (Receipt K))) (owners : List ℕ) (found : Option Double)
      → AreOwners (HasPlace passes) owners found → AreOwners (HasPlace (passes ++ [] ∷ [])) owners found
  marks-begin passes owners found h = owners-same (HasPlace passes) (HasPlace (passes ++ [] ∷ [])) owners found (has-before passes []) back h
    where
      back : (p q : ℕ) → HasPlace (passes ++ [] ∷ []) p q → HasPlace passes p q
      back p q k = elim (has-cases passes [] p q k) [ inl b ↦ b | inr e ↦ let bad = e.1.1 in absurd (cc) ]

  module _ (passes : List (List (Receipt K))) (t : List (Receipt K)) (r : Receipt K) (owners : List ℕ) (found : Option Double) (within : r.place < length owners) (had : AreOwners (HasPlace (passes ++ t ∷ [])) owners found) where
    pub marks-new : slice_index owners r.place ≡ 4294967295 → length passes ≢ 4294967295
        → AreOwners (HasPlace (passes ++ (t ++ r ∷ []) ∷ [])) (slice_set owners r.place (length passes)) found
    marks-new free some =
        owner-new (HasPlace (passes ++ t ∷ [])) (HasPlace (passes ++ (t ++ r ∷ []) ∷ [])) r.place (length passes) owners found
        (grown-keeps passes t r) (grown-here passes t r) (grown-more passes t r) (grown-bound passes t r) within had free some

    pub marks-stay : (owner : ℕ) → owner ≡ slice_index owners r.place → owner ≢ 4294967295
        → (Names t r.place → ⊥)
        → AreOwners (HasPlace (passes ++ (t ++ r ∷ []) ∷ [])) owners
        (Some (lower_double found (record { place = r.place; first = owner; second = length passes })))
    marks-stay owner is taken unnamed =
        owner-stays (HasPlace (passes ++ t ∷ [])) (HasPlace (passes ++ (t ++ r ∷ []) ∷ [])) r.place (length passes) owners found
        (grown-keeps passes t r) (grown-here passes t r) (grown-more passes t r) (grown-bound passes t r) within had owner is taken (grown-new passes t r unnamed)

  -- the next receipt of a pass whose places rise and are below `count`
  module _ (passes : List (List (Receipt K))) (n count : ℕ) (number : length passes ≡ n) (few : n < 4294967295) (rs : List (Receipt K)) (i : ℕ) (r : Receipt K) (below : i < length rs) (is : r ≡ get_or rs i r)
      (within : All (λ (x : Receipt K). x.place < count) rs) (owners : List ℕ) (found : Option Double) (long : length owners ≡ count) (had : AreOwners (HasPlace (passes ++ take i rs ∷ [])) owners found) where
    place-within : r.place < length owners
    place-within =
        let P : Receipt K → Type 0 = λ x. x.place < count in
        let h : r.place < count = subst P (sym is) (All-get_or P rs i r below within) in
        omega (arith, h, long)

    pub step-new : (after : List ℕ) (shown : Option Double) → after ≡ slice_set owners r.place n
        → shown ≡ found → slice_index owners r.place ≡ 4294967295
        → AreOwners (HasPlace (passes ++ take (i + 1) rs ∷ [])) after shown
    step-new after shown a s free =
        rw (take-read rs i r below is, a, s, ← number) (marks-new passes (take i rs) r owners found place-within had free (omega (arith, number, few)))

    pub step-stay : (owner : ℕ) (after : List ℕ) (shown : Option Double) (double : Double)
        → IsStrictlyIncreasing (places rs) → owner ≡ slice_index owners r.place → owner ≢ 4294967295
        → after ≡ owners → shown ≡ Some double
        → double ≡ lower_double found (record { place = r.place; first = owner; second = n })
        → AreOwners (HasPlace (passes ++ take (i + 1) rs ∷ [])) after shown
    step-stay owner after shown double rises o taken a s d =
        rw (take-read rs i r below is, a, s, d, ← number) (marks-stay passes (take i rs) r owners found place-within had owner o taken (unnamed-before rs i r below is rises))

  -- at the end
  pub marks-show : (passes : List (List (Receipt K))) (found : Option Double) → AreRising passes
      → IsLowest (HasPlace passes) found
      → MatchOption found (AreDistinct passes)
      (λ double. IsFirstDouble (HasPlace passes) double.place double.first double.second)
  marks-show passes None rising single = distinct-all passes rising single
  marks-show passes (Some double) rising first = first
