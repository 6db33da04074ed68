-- No two receipts name one place, where no two passes do and the places of each pass rise.
use Rattle.std.proofs.Common.{◌≡◌, ◌≢◌, ℕ, suc, ◌<◌, ◌+◌, List, [], ◌∷◌, ◌++◌, Some, option_map, slice_get, slice_index, length, get_or, All, arith, sym, ◌∙◌, ap, subst, rules}
use Rattle.std.specs.List.{AllPairs}
use Rattle.std.specs.List.Sorted.{IsStrictlyIncreasing}
use Rattle.std.proofs.lemmas.List.{get_or-map, length-map}
use Rattle.std.proofs.lemmas.List.Elements.{All-append, All-nil, All-head, All-tail}
use Rattle.std.proofs.lemmas.List.Kept.{AllPairs-cons, AllPairs-from_increasing}
use Rattle.std.proofs.lemmas.Option.{slice_get-get_or}
use Rattle.signer_book.specs.Settled.{all_receipts, places, AreRising, AreDistinct}
use Rattle.signer_book.specs.Close.{HasPlace}
use Rattle.signer_book.specs.declared.pass.Receipt.{Receipt}

module _ {K : Type 0} where
  abbrev Apart : Receipt K → Receipt K → Type 0
  Apart a b = a.place ≢ b.place

  named-at : (rs : List (Receipt K)) (k : ℕ) (d : Receipt K) → k < length rs
      → option_map (λ (r : Receipt K). r.place) (slice_get rs k) ≡ Some (get_or rs k d).place
  named-at rs k d below = ap (option_map (λ (r : Receipt K). r.place)) (slice_get-get_or rs k d below)

  rest-rises : (r : Receipt K) (rs : List (Receipt K)) → IsStrictlyIncreasing (places (r ∷ rs))
      → IsStrictlyIncreasing (places rs)
  rest-rises r rs h k below =
      let f : slice_index (places (r ∷ rs)) (suc k) < slice_index (places (r ∷ rs)) (suc k + 1) = h (suc k) (omega (arith, below)) in
      let e : suc k + 1 ≡ suc (k + 1) = omega arith in
      let P : ℕ → Type 0 = λ i. slice_index (places (r ∷ rs)) (suc k) < slice_index (places (r ∷ rs)) i in
      subst P e f

  above-first : (r : Receipt K) (rs : List (Receipt K)) → IsStrictlyIncreasing (places (r ∷ rs))
      → All (Apart r) rs
  above-first r rs h k d below same =
      let n : length (places rs) ≡ length rs = search (rules, length-map) in
      let f : slice_index (places (r ∷ rs)) 0 < slice_index (places (r ∷ rs)) (suc k) = AllPairs-from_increasing (places (r ∷ rs)) h 0 (suc k) 0 (omega arith) (omega (arith, n, below)) in
      let e = get_or-map (λ (x : Receipt K). x.place) rs k d 0 below in
      omega (arith, f, e, same)

  -- a pass, and then others that have none of its places
  distinct-pass : (rs rest : List (Receipt K)) → IsStrictlyIncreasing (places rs)
      → All (λ r. All (Apart r) rest) rs → AllPairs Apart rest → AllPairs Apart (rs ++ rest)
  distinct-pass [] rest rises away h = h
  distinct-pass (r ∷ rs) rest rises away h =
      AllPairs-cons Apart r (rs ++ rest)
      (All-append (Apart r) rs rest (above-first r rs rises) (All-head (λ x. All (Apart x) rest) r rs away))
      (distinct-pass rs rest (rest-rises r rs rises) (All-tail (λ x. All (Apart x) rest) r rs away) h)

  -- a place that no pass has is in none of their receipts
  away-from : (passes : List (List (Receipt K))) (r : Receipt K)
      → ((pass : ℕ) → HasPlace passes r.place pass → ⊥) → All (Apart r) (all_receipts passes)
  away-from [] r none = All-nil (Apart r)
  away-from (rs ∷ passes) r none =
      All-append (Apart r) rs (all_receipts passes)
      (λ k d below same. none 0 (k, named-at rs k d below ∙ ap Some (sym same)))
      (away-from passes r (λ pass h. none (suc pass) h))

  pub distinct-all : (passes : List (List (Receipt K))) → AreRising passes
      → ((place one other : ℕ) → HasPlace passes place one → HasPlace passes place other → one ≡ other)
      → AreDistinct passes
  distinct-all [] rising single = λ i j d below within. absurd (omega (arith, within))
  distinct-all (rs ∷ passes) rising single =
      distinct-pass rs (all_receipts passes)
      (All-head (λ receipts. IsStrictlyIncreasing (places receipts)) rs passes rising)
      (λ k d below. away-from passes (get_or rs k d)
      (λ pass h. let e = single (get_or rs k d).place 0 (suc pass) (k, named-at rs k d below) h in omega (arith, e)))
      (distinct-all passes (All-tail (λ receipts. IsStrictlyIncreasing (places receipts)) rs passes rising)
      (λ place one other a b. let e = single place (suc one) (suc other) a b in omega (arith, e)))
