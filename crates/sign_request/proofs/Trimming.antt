-- Spaces at the ends of a value.
use Rattle.std.proofs.Common.{◌≡◌, ◌+◌, ◌-◌, ◌<◌, ◌≤◌, ℕ, Bool, true, false, not, List, [], ◌∷◌, length, drop, get_or, reverse, add-zero, refl, sym, ◌∙◌, ap, inl, inr, nat_lt, slice_range, arith}
use Rattle.std.specs.Cmp.{both_ways}
use Rattle.std.specs.List.{list_any, prefix_len, suffix_len}
use Rattle.std.proofs.lemmas.Bool.{cases_Bool, lt-ltb, ltb-true, ltb-false, le-ltb}
use Rattle.std.proofs.lemmas.List.{take_all, length-reverse, get_or-reverse, get_or-take, get_or-drop, length-take, length-drop}
use Rattle.std.proofs.lemmas.List.Sums.{prefix_len-le-length, prefix_len_passes, prefix_len_stops, prefix_len_is, suffix_len_is}
use Rattle.sign_request.specs.Headers.{is_blank, trimmed_value}

module _ (p : ℕ → Bool) where
  -- some byte fails the test just where the front that passes is not all
  any_fails : (xs : List ℕ) → list_any (λ x. not (p x)) xs ≡ nat_lt (prefix_len p xs) (length xs)
  any_fails [] = refl
  any_fails (x ∷ xs) =
      elim (cases_Bool (p x)) [
        | inl t ↦ rw (t, any_fails xs)
            (both_ways (nat_lt (prefix_len p xs) (length xs)) (nat_lt (1 + prefix_len p xs) (length (x ∷ xs)))
            (λ e. let l = ltb-true (prefix_len p xs) (length xs) e in lt-ltb (1 + prefix_len p xs) (length (x ∷ xs)) (omega arith))
            (λ e. let l = ltb-true (1 + prefix_len p xs) (length (x ∷ xs)) e in lt-ltb (prefix_len p xs) (length xs) (omega arith)))
        | inr n ↦ rw n (sym (lt-ltb 0 (length (x ∷ xs)) (omega arith)))
      ]

  -- where some byte fails, what passes at the front and at the back leaves it out
  pub ends_apart : (xs : List ℕ) → prefix_len p xs < length xs → prefix_len p xs + suffix_len p xs < length xs
  ends_apart xs some =
      elim (cases_Bool (nat_lt (prefix_len p xs + suffix_len p xs) (length xs))) [
        | inl t ↦ ltb-true (prefix_len p xs + suffix_len p xs) (length xs) t
        | inr n ↦
            let over : length xs ≤ prefix_len p xs + suffix_len p xs = ltb-false (prefix_len p xs + suffix_len p xs) (length xs) n in
            let k : ℕ = length xs - 1 - prefix_len p xs in
            let passes : p (get_or (reverse xs) k 0) ≡ true = prefix_len_passes p (reverse xs) k 0 (omega arith) in
            let there : get_or (reverse xs) k 0 ≡ get_or xs (length xs - 1 - k) 0 = get_or-reverse xs k 0 (omega arith) in
            let same : length xs - 1 - k ≡ prefix_len p xs = omega arith in
            let fails : p (get_or xs (prefix_len p xs) 0) ≡ false = prefix_len_stops p xs 0 some in
            let clash : true ≡ false = sym passes ∙ (ap p (there ∙ ap (λ i. get_or xs i 0) same) ∙ fails) in
            cc
      ]

  -- what passes from the back on ends at a byte that fails
  suffix_stops : (xs : List ℕ) → suffix_len p xs < length xs
      → p (get_or xs (length xs - suffix_len p xs - 1) 0) ≡ false
  suffix_stops xs some =
      let long = length-reverse xs in
      let fails : p (get_or (reverse xs) (suffix_len p xs) 0) ≡ false = prefix_len_stops p (reverse xs) 0 (omega (arith, long)) in
      let there = get_or-reverse xs (suffix_len p xs) 0 some in
      let same : length xs - 1 - suffix_len p xs ≡ length xs - suffix_len p xs - 1 = omega arith in
      sym (ap (λ i. p (get_or xs i 0)) same) ∙ (sym (ap p there) ∙ fails)

-- where a byte is no space, trimming keeps a range
trimmed_value-some : (bytes : List ℕ) → prefix_len is_blank bytes < length bytes
    → trimmed_value bytes
    ≡ slice_range bytes (prefix_len is_blank bytes) (length bytes - suffix_len is_blank bytes)
unfolding trimmed_value
trimmed_value-some bytes some = rw (any_fails is_blank bytes, lt-ltb (prefix_len is_blank bytes) (length bytes) some) refl

-- the range that trimming keeps
pub trimmed_value-range : (bytes : List ℕ) (end : ℕ) → prefix_len is_blank bytes < length bytes
    → end + suffix_len is_blank bytes ≡ length bytes
    → slice_range bytes (prefix_len is_blank bytes) end ≡ trimmed_value bytes
trimmed_value-range bytes end some e =
    let same : end ≡ length bytes - suffix_len is_blank bytes = omega arith in
    ap (slice_range bytes (prefix_len is_blank bytes)) same ∙ sym (trimmed_value-some bytes some)

pub trimmed_value-all : (bytes : List ℕ) → prefix_len is_blank bytes ≡ length bytes
    → trimmed_value bytes ≡ bytes
unfolding trimmed_value
trimmed_value-all bytes e = rw (any_fails is_blank bytes, le-ltb (prefix_len is_blank bytes) (length bytes) (omega arith)) refl

-- a value that begins and ends with another byte stays
trimmed_value-same : (bytes : List ℕ) → 0 < length bytes → is_blank (get_or bytes 0 0) ≡ false
    → is_blank (get_or bytes (length bytes - 1) 0) ≡ false → trimmed_value bytes ≡ bytes
trimmed_value-same bytes some first last =
    let front : prefix_len is_blank bytes ≡ 0 = prefix_len_is is_blank bytes 0 0 (omega arith) (λ k l. absurd (omega arith)) (λ l. first) in
    let back : suffix_len is_blank bytes ≡ length bytes - length bytes =
    suffix_len_is is_blank bytes (length bytes) 0 (omega arith) (λ k l m. absurd (omega arith)) (λ l. last) in
    let whole : length bytes - suffix_len is_blank bytes ≡ length bytes = omega arith in
    trimmed_value-some bytes (omega arith)
    ∙ (ap (λ a. slice_range bytes a (length bytes - suffix_len is_blank bytes)) front
    ∙ (ap (slice_range bytes 0) whole ∙ take_all (length bytes - 0) bytes (omega arith)))

-- trimming twice is trimming once
pub trimmed_value-trimmed_value : (bytes : List ℕ) → trimmed_value (trimmed_value bytes) ≡ trimmed_value bytes
trimmed_value-trimmed_value bytes =
    elim (cases_Bool (nat_lt (prefix_len is_blank bytes) (length bytes))) [
      | inl t ↦
          let some = ltb-true (prefix_len is_blank bytes) (length bytes) t in
          let apart = ends_apart is_blank bytes some in
          let a : ℕ = prefix_len is_blank bytes in
          let n : ℕ = length bytes - suffix_len is_blank bytes in
          let kept : List ℕ = slice_range bytes a n in
          let at : (i : ℕ) → i < n - a → get_or kept i 0 ≡ get_or bytes (a + i) 0 = λ i l. get_or-take (n - a) (drop a bytes) i 0 l ∙ get_or-drop a bytes i 0 in
          let cut = length-take (n - a) (drop a bytes) in
          let left = length-drop a bytes in
          let long : length kept ≡ n - a = omega (arith, cut, left) in
          let first : is_blank (get_or kept 0 0) ≡ false =
          ap is_blank (at 0 (omega arith) ∙ ap (λ i. get_or bytes i 0) (add-zero a)) ∙ prefix_len_stops is_blank bytes 0 some in
          let last_place : a + (length kept - 1) ≡ n - 1 = omega arith in
          let last : is_blank (get_or kept (length kept - 1) 0) ≡ false =
          ap is_blank (at (length kept - 1) (omega arith) ∙ ap (λ i. get_or bytes i 0) last_place) ∙ suffix_stops is_blank bytes (omega arith) in
          let is : trimmed_value bytes ≡ kept = trimmed_value-some bytes some in
          ap trimmed_value is ∙ (trimmed_value-same kept (omega arith) first last ∙ sym is)
      | inr f ↦
          let all : length bytes ≤ prefix_len is_blank bytes = ltb-false (prefix_len is_blank bytes) (length bytes) f in
          let most = prefix_len-le-length is_blank bytes in
          ap trimmed_value (trimmed_value-all bytes (omega arith))
    ]
