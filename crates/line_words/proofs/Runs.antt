-- How far the bytes of a class go: from the mask of one load to the class, and from all blocks to the run.
use Rattle.std.proofs.Common.{◌≡◌, ℕ, ◌+◌, ◌%◌, ◌^◌, ◌<◌, ◌≤◌, eqb, Bool, true, false, not, List, [], ◌∷◌, map, length, take, drop, suc, get_or, Fits, w8, refl, sym, ap, ◌∙◌, arith, inl, inr}
use Rattle.std.specs.List.{prefix_len, list_all}
use Rattle.std.proofs.lemmas.Bool.{agree_below, agree_below_at, not-true, not-false, and_from, cases_eq, cases_lt, eq-eqb, ne_eqb}
use Rattle.std.proofs.lemmas.Simd.{map-map, mask_l-mod, length-chunk, first_set_mask_l, run_in_chunk_le, run_in_chunk_fails, run_in_chunk_stops}
use Rattle.std.proofs.lemmas.List.{length-map, take_all}
use Rattle.std.proofs.lemmas.List.Folds.{list_all_at}
use Rattle.std.proofs.lemmas.List.Sums.{prefix_len_is, prefix_len_stops, prefix_len-le-length}
use lib.Lanes.{chunk, mask_l, top}
use Rattle.line_words.specs.Classes.{begins_with, IsRunIn, first_set}

-- a lane is set just where a byte is not of the class, which is seen at each of the 256 bytes
pub run_in : (q : ℕ → Bool) (d : List ℕ) (i r : ℕ) (z : List ℕ) (f : ℕ → ℕ) → i + 16 ≤ length d
    → ((k : ℕ) → Fits w8 (get_or d k 0)) → r ≡ first_set (mask_l (map (top 7) z) % 2 ^ 64) 16
    → z ≡ map f (chunk i 16 d) → agree_below (λ x. top 7 (f x)) (λ x. not (q x)) 256 ≡ true
    → IsRunIn q d i 16 r
run_in q d i r z f room fits found lanes all =
    let stops : ℕ → Bool = λ x. top 7 (f x) in
    let v : List ℕ = chunk i 16 d in
    let long : length v ≡ 16 = length-chunk i 16 d room in
    let mask = ap (λ (l : List Bool). mask_l l % 2 ^ 64) (ap (map (top 7)) lanes ∙ map-map (top 7) f v) ∙ mask_l-mod (map stops v) 64 (omega (arith, length-map v stops, long)) in
    let counted : r ≡ prefix_len (λ x. not (stops x)) v = found ∙ ap (λ (m : ℕ). first_set m 16) mask ∙ first_set_mask_l stops v 16 long (omega arith) in
    record {
      within = run_in_chunk_le stops d i 16 r 0 room counted;
      passes = λ k from to. not-false _ (sym (agree_below_at stops (λ x. not (q x)) 256 (get_or d k 0) all (fits k).fits) ∙ run_in_chunk_fails stops d i 16 r 0 room counted k from to);
      stops = λ short. not-true _ (sym (agree_below_at stops (λ x. not (q x)) 256 (get_or d (i + r) 0) all (fits (i + r)).fits) ∙ run_in_chunk_stops stops d i 16 r 0 room counted short);
    }

-- each of the bytes before a place passes the test
abbrev pub PassBefore : (ℕ → Bool) → List ℕ → ℕ → Type 0
PassBefore q d n = (k : ℕ) → k < n → q (get_or d k 0) ≡ true

-- what passes before a block, and in it up to a place
pub pass_on : (q : ℕ → Bool) (d : List ℕ) (seen at n r : ℕ) → at ≤ seen → PassBefore q d seen
    → IsRunIn q d at n r → PassBefore q d (at + r)
pass_on q d seen at n r reached before run = λ k lt. elim (cases_lt k seen) [
  | inl early ↦ before k early
  | inr late ↦ run.passes k (omega arith) lt
]

-- a block where the run ends
pub run_ends : (q : ℕ → Bool) (d : List ℕ) (seen at r : ℕ) → at ≤ seen → at + 16 ≤ length d
    → PassBefore q d seen → IsRunIn q d at 16 r → (at + r < length d → r < 16) → at + r ≡ prefix_len q d
run_ends q d seen at r reached room before run ends =
    sym (prefix_len_is q d (at + r) 0 (omega (arith, run.within)) (pass_on q d seen at 16 r reached before run) (λ short. run.stops (ends short)))

first_passes : (q : ℕ → Bool) (b : ℕ) (d : List ℕ) (here : Bool) → q b ≡ here
    → list_all q (take (prefix_len q d) d) ≡ true → list_all q (take (prefix_len q (b ∷ d)) (b ∷ d)) ≡ true
first_passes q b d true e rest =
    let k : 1 + prefix_len q d ≡ suc (prefix_len q d) = omega arith in
    rw (e, k) (and_from (q b) (list_all q (take (prefix_len q d) d)) e rest)
first_passes q b d false e rest = rw e refl

-- the bytes of a run are of the class
pub run_passes : (q : ℕ → Bool) (d : List ℕ) → list_all q (take (prefix_len q d) d) ≡ true
run_passes q [] = refl
run_passes q (b ∷ d) = first_passes q b d (q b) refl (run_passes q d)

first_stops : (q : ℕ → Bool) (b : ℕ) (d : List ℕ) (here : Bool) → q b ≡ here
    → begins_with q (drop (prefix_len q d) d) ≡ false
    → begins_with q (drop (prefix_len q (b ∷ d)) (b ∷ d)) ≡ false
first_stops q b d true e rest =
    let k : 1 + prefix_len q d ≡ suc (prefix_len q d) = omega arith in
    rw (e, k) rest
first_stops q b d false e rest = rw e e

-- what stands after a run begins with no byte of its class
pub run_stops : (q : ℕ → Bool) (d : List ℕ) → begins_with q (drop (prefix_len q d) d) ≡ false
run_stops q [] = refl
run_stops q (b ∷ d) = first_stops q b d (q b) refl (run_stops q d)

-- all bytes are of a class where its run is as long as they
pub all_by_len : (q : ℕ → Bool) (d : List ℕ) → eqb (prefix_len q d) (length d) ≡ list_all q d
all_by_len q d = elim (cases_eq (prefix_len q d) (length d)) [
  | inl whole ↦
      let all : take (prefix_len q d) d ≡ d = take_all (prefix_len q d) d (omega (arith, whole)) in
      eq-eqb (prefix_len q d) (length d) whole ∙ sym (ap (list_all q) (sym all) ∙ run_passes q d)
  | inr other ↦
      let short : prefix_len q d < length d = omega (arith, prefix_len-le-length q d) in
      ne_eqb (prefix_len q d) (length d) other ∙ sym (list_all_at q d (prefix_len q d) 0 short (prefix_len_stops q d 0 short))
]
