-- Facts of each item so far, and of receipts that rise.
use Rattle.std.proofs.Common.{◌≡◌, ℕ, ◌<◌, ◌≤◌, ◌+◌, ◌-◌, inl, inr, List, [], ◌∷◌, ◌++◌, Option, Some, None, IfSome, slice_get, slice_index, length, get_or, take, All, arith, sym, ◌∙◌, ap, subst, refl}
use Rattle.std.specs.Option.{IsSomeAnd}
use Rattle.std.specs.List.Sorted.{IsStrictlyIncreasing}
use Rattle.std.proofs.lemmas.Bool.Decides.{eqb_tells}
use Rattle.std.proofs.lemmas.List.{get_or-map, get_or-take, length-map, length-take, take_all, take_more}
use Rattle.std.proofs.lemmas.List.Elements.{All-get_or, All-more, All-same}
use Rattle.std.proofs.lemmas.List.Kept.{AllPairs-from_increasing}
use Rattle.std.proofs.lemmas.Option.{slice_get_read, slice_get_within, get_or_from_slice_get, slice_get-map}
use Rattle.signer_book.specs.Settled.{places}
use Rattle.signer_book.specs.Close.{FallsAt}
use Rattle.signer_book.specs.declared.pass.Receipt.{Receipt}
use Rattle.signer_book.proofs.Passes.{Names}

module _ {X : Type 0} (xs : List X) where
  -- what a read gave is the item at its place
  pub some-at : (Q : X → Type 0) (i : ℕ) (x : X) → i < length xs → x ≡ get_or xs i x → Q x
      → IsSomeAnd (slice_get xs i) Q
  some-at Q i x below is q =
      let P : Option X → Type 0 = λ o. IsSomeAnd o Q in
      subst P (sym (slice_get_read xs (length xs) i x refl below is)) q

  -- one item more
  pub take-read : (i : ℕ) (x : X) → i < length xs → x ≡ get_or xs i x → take (i + 1) xs ≡ take i xs ++ x ∷ []
  take-read i x below is = take_more xs i x below ∙ ap (λ y. take i xs ++ y ∷ []) (sym is)

  module _ (P : X → Type 0) where
    pub all-more : (i : ℕ) (x : X) → i < length xs → x ≡ get_or xs i x → All P (take i xs) → P x
        → All P (take (i + 1) xs)
    all-more i x below is h p = All-more P xs i x below h (subst P is p)

    pub all-end : (n : ℕ) → length xs ≤ n → All P (take n xs) → All P xs
    all-end n past h = All-same P xs (take n xs) (sym (take_all n xs past)) h

    taken-get : (n k : ℕ) (x : X) → All P (take n xs) → k < n → slice_get xs k ≡ Some x → P x
    taken-get n k x h before e =
        let below = slice_get_within xs k x e in
        let n' = length-take n xs in
        let here : get_or (take n xs) k x ≡ x = get_or-take n xs k x before ∙ get_or_from_slice_get xs k x x e in
        subst P here (All-get_or P (take n xs) k x (omega (arith, n', below, before)) h)

    -- of no item so far does a fact hold that this one excludes
    pub none-before : (Q : X → Type 0) (n q : ℕ) → ((x : X) → P x → Q x → ⊥) → All P (take n xs) → q < n
        → IfSome (slice_get xs q) (λ x. Q x → ⊥)
    none-before Q n q excludes h before = by_item (slice_get xs q) refl
      where
        by_item : (o : Option X) → slice_get xs q ≡ o → IfSome o (λ x. Q x → ⊥)
        by_item None e = tt
        by_item (Some x) e = excludes x (taken-get n q x h before e)

module _ {K : Type 0} (rs : List (Receipt K)) where
  pub place-read : (i : ℕ) (r : Receipt K) → i < length rs → r ≡ get_or rs i r
      → slice_index (places rs) i ≡ r.place
  place-read i r below is = get_or-map (λ (x : Receipt K). x.place) rs i r 0 below ∙ ap (λ (x : Receipt K). x.place) (sym is)

  pub rises-more : (at : ℕ) (d e : Receipt K) → 0 < at → at < length rs
      → (get_or rs (at - 1) d).place < (get_or rs at e).place
      → ((k : ℕ) → k + 1 < at → slice_index (places rs) k < slice_index (places rs) (k + 1)) → (k : ℕ)
      → k + 1 < at + 1 → slice_index (places rs) k < slice_index (places rs) (k + 1)
  rises-more at d e some below above h k within =
      elim (eqb_tells (k + 1) at) [
        | inl is ↦
            let a = get_or-map (λ (x : Receipt K). x.place) rs (at - 1) d 0 (omega arith) in
            let b = get_or-map (λ (x : Receipt K). x.place) rs at e 0 below in
            let i : k ≡ at - 1 = omega (arith, is.1) in
            let x = ap (slice_index (places rs)) i in
            let y = ap (slice_index (places rs)) is.1 in
            omega (arith, a, b, x, y, above)
        | inr ne ↦ h k (omega (arith, within, ne.1))
      ]

  pub rises-not-falls : (at : ℕ) → IsStrictlyIncreasing (places rs) → FallsAt rs at → ⊥
  rises-not-falls at h falls =
      let n = length-map rs (λ (x : Receipt K). x.place) in
      let f : slice_index (places rs) (at - 1) < slice_index (places rs) (at - 1 + 1) = h (at - 1) (omega (arith, n, falls.0, falls.1)) in
      let e : at - 1 + 1 ≡ at = omega (arith, falls.0) in
      let x = ap (slice_index (places rs)) e in
      omega (arith, f, x, falls.2)

  -- where places rise no receipt before names the place
  pub unnamed-before : (i : ℕ) (r : Receipt K) → i < length rs → r ≡ get_or rs i r
      → IsStrictlyIncreasing (places rs) → Names (take i rs) r.place → ⊥
  unnamed-before i r below is rises (at, e) =
      let t = take i rs in
      let there : slice_get (places t) at ≡ Some r.place = slice_get-map (λ (x : Receipt K). x.place) t at ∙ e in
      let l = length-map t (λ (x : Receipt K). x.place) in
      let m = length-take i rs in
      let n = length-map rs (λ (x : Receipt K). x.place) in
      let within = slice_get_within (places t) at r.place there in
      let before : at < i = omega (arith, within, l, m) in
      let named : slice_index (places rs) at ≡ r.place =
      get_or-map (λ (x : Receipt K). x.place) rs at r 0 (omega (arith, before, below))
      ∙ ap (λ (x : Receipt K). x.place) (sym (get_or-take i rs at r before))
      ∙ sym (get_or-map (λ (x : Receipt K). x.place) t at r 0 (omega (arith, within, l)))
      ∙ get_or_from_slice_get (places t) at r.place 0 there in
      let f : slice_index (places rs) at < slice_index (places rs) i = AllPairs-from_increasing (places rs) rises at i 0 before (omega (arith, n, below)) in
      let here = place-read i r below is in
      omega (arith, named, f, here)
