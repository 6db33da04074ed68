-- Open begins, after one more receipt.
use Rattle.std.proofs.Common.{◌≡◌, ℕ, suc, ◌+◌, ◌≤◌, Bool, true, false, cond, not, ◌&&◌, ◌||◌, List, [], ◌∷◌, ◌++◌, refl, sym, ◌∙◌, ap, arith}
use Rattle.std.specs.List.{list_any}
use Rattle.sign_base.specs.declared.call_id.CallId.{CallId}
use Rattle.sign_base.proofs.Calls.{same_call-eq}
use Rattle.sign_base.proofs.Truth.{and_left, and_right}
use Rattle.sequential_signer.specs.Transcript.{call_of}
use Rattle.sequential_signer.specs.Phase.{is_begun}
use Rattle.sequential_signer.proofs.Lists.{list_any-more, or_true}
use Rattle.signer_book.specs.declared.pass.Receipt.{Receipt}
use Rattle.signer_book.specs.OpenBegins.{cancels_call, begins_call, is_open, open_begins}

-- one, where the test holds
abbrev pub one_where : Bool → ℕ
one_where true = 1
one_where false = 0

-- a count that goes on, where a test holds
abbrev counted : Bool → ℕ → ℕ
counted b n = cond b (suc n) n

counted-le : (b a : Bool) (n m : ℕ) → (b ≡ true → a ≡ true) → n ≤ m → counted b n ≤ counted a m
counted-le true true n m f h = omega (arith, h)
counted-le true false n m f h = let no : false ≡ true = f refl in absurd (cc)
counted-le false true n m f h = omega (arith, h)
counted-le false false n m f h = h

module _ {K : Type 0} where
  -- a test of a begin holds less often, the more receipts follow
  still : (b : Bool) (call : CallId) (rest : List (Receipt K)) (r : Receipt K)
      → (b && not (list_any (cancels_call call) (rest ++ r ∷ []))) ≡ true
      → (b && not (list_any (cancels_call call) rest)) ≡ true
  still b call rest r h = by_test b (list_any (cancels_call call) rest) (cancels_call call r) (ap (λ v. b && not v) (sym (list_any-more (cancels_call call) rest r)) ∙ h)
    where
      by_test : (b x y : Bool) → (b && not (x || y)) ≡ true → (b && not x) ≡ true
      by_test true false y h = refl
      by_test true true y h = h
      by_test false x y h = h

  -- one more receipt opens one begin at most
  pub open_begins-more : (rs : List (Receipt K)) (r : Receipt K)
      → open_begins (rs ++ r ∷ []) ≤ open_begins rs + one_where (is_begun r.entry.reply)
  open_begins-more [] r = by_test (is_begun r.entry.reply)
    where
      by_test : (b : Bool) → counted (b && true) 0 ≤ 0 + one_where b
      by_test true = omega arith
      by_test false = omega arith
  open_begins-more (x ∷ rest) r = by_test (is_begun r.entry.reply) (open_begins-more rest r)
    where
      by_one : (n : ℕ) → open_begins (rest ++ r ∷ []) ≤ open_begins rest + n
          → counted
          (is_begun x.entry.reply && not (list_any (cancels_call (call_of x.entry.event)) (rest ++ r ∷ [])))
          (open_begins (rest ++ r ∷ []))
          ≤ counted (is_begun x.entry.reply && not (list_any (cancels_call (call_of x.entry.event)) rest))
          (open_begins rest + n)
      by_one n h = counted-le _ _ (open_begins (rest ++ r ∷ [])) (open_begins rest + n) (still (is_begun x.entry.reply) (call_of x.entry.event) rest r) h

      sum : (b : Bool) (n m : ℕ) → counted b (n + m) ≡ counted b n + m
      sum true n m = omega arith
      sum false n m = refl

      by_test : (b : Bool) → open_begins (rest ++ r ∷ []) ≤ open_begins rest + one_where b
          → open_begins (x ∷ (rest ++ r ∷ [])) ≤ open_begins (x ∷ rest) + one_where b
      by_test b h =
          let k = by_one (one_where b) h in
          let s = sum (is_begun x.entry.reply && not (list_any (cancels_call (call_of x.entry.event)) rest)) (open_begins rest) (one_where b) in
          omega (arith, k, s)

  -- a cancel of an open call closes one begin at least
  pub open_begins-cancel : (call : CallId) (rs : List (Receipt K)) (r : Receipt K)
      → cancels_call call r ≡ true → is_begun r.entry.reply ≡ false → is_open call rs ≡ true
      → open_begins (rs ++ r ∷ []) + 1 ≤ open_begins rs
  open_begins-cancel call [] r c b o = cc
  open_begins-cancel call (x ∷ rest) r c b o = by_here (begins_call call x && not (list_any (cancels_call call) rest)) refl o (open_begins-cancel call rest r c b)
    where
      fewer : open_begins (rest ++ r ∷ []) ≤ open_begins rest
      fewer = let k = open_begins-more rest r in let z : one_where (is_begun r.entry.reply) ≡ 0 = ap one_where b in omega (arith, k, z)

      by_here : (h : Bool) → (begins_call call x && not (list_any (cancels_call call) rest)) ≡ h
          → (h || is_open call rest) ≡ true
          → (is_open call rest ≡ true → open_begins (rest ++ r ∷ []) + 1 ≤ open_begins rest)
          → open_begins (x ∷ (rest ++ r ∷ [])) + 1 ≤ open_begins (x ∷ rest)
      by_here true e o later =
          let begins : begins_call call x ≡ true = and_left _ _ e in
          let same : call ≡ call_of x.entry.event = same_call-eq call (call_of x.entry.event) (and_left _ _ begins) in
          let begun : is_begun x.entry.reply ≡ true = and_right _ _ begins in
          let before : (is_begun x.entry.reply && not (list_any (cancels_call (call_of x.entry.event)) rest)) ≡ true = rw begun (ap (λ d. not (list_any (cancels_call d) rest)) (sym same) ∙ and_right _ _ e) in
          let over : list_any (cancels_call (call_of x.entry.event)) (rest ++ r ∷ []) ≡ true = list_any-more (cancels_call (call_of x.entry.event)) rest r ∙ ap (λ v. list_any (cancels_call (call_of x.entry.event)) rest || v) (ap (λ d. cancels_call d r) (sym same) ∙ c) ∙ or_true _ in
          let after : (is_begun x.entry.reply && not (list_any (cancels_call (call_of x.entry.event)) (rest ++ r ∷ []))) ≡ false = rw (begun, over) refl in
          rw (before, after) (omega (arith, fewer))
      by_here false e o later =
          let k : open_begins (rest ++ r ∷ []) + 1 ≤ open_begins rest = later o in
          let s = counted-le (is_begun x.entry.reply && not (list_any (cancels_call (call_of x.entry.event)) (rest ++ r ∷ []))) (is_begun x.entry.reply && not (list_any (cancels_call (call_of x.entry.event)) rest)) (open_begins (rest ++ r ∷ []) + 1) (open_begins rest) (still (is_begun x.entry.reply) (call_of x.entry.event) rest r) k in
          let t = more (is_begun x.entry.reply && not (list_any (cancels_call (call_of x.entry.event)) (rest ++ r ∷ []))) (open_begins (rest ++ r ∷ [])) in
          omega (arith, s, t)
        where
          more : (b : Bool) (n : ℕ) → counted b (n + 1) ≡ counted b n + 1
          more true n = omega arith
          more false n = refl

  -- whether the call is open, after one more receipt
  pub is_open-more : (call : CallId) (rs : List (Receipt K)) (r : Receipt K)
      → is_open call (rs ++ r ∷ [])
      ≡ cond (cancels_call call r) (begins_call call r) (begins_call call r || is_open call rs)
  is_open-more call [] r = by_test (begins_call call r) (cancels_call call r)
    where
      by_test : (b c : Bool) → ((b && true) || false) ≡ cond c b (b || false)
      by_test true true = refl
      by_test true false = refl
      by_test false true = refl
      by_test false false = refl
  is_open-more call (x ∷ rest) r =
      ap (λ v. (begins_call call x && not v) || is_open call (rest ++ r ∷ [])) (list_any-more (cancels_call call) rest r)
      ∙ ap (λ v. (begins_call call x && not (list_any (cancels_call call) rest || cancels_call call r)) || v) (is_open-more call rest r)
      ∙ by_test (begins_call call x) (list_any (cancels_call call) rest) (cancels_call call r) (begins_call call r) (is_open call rest)
    where
      by_test : (b a c d o : Bool)
          → ((b && not (a || c)) || cond c d (d || o)) ≡ cond c d (d || ((b && not a) || o))
      by_test true true true d o = refl
      by_test true true false d o = refl
      by_test true false true d o = refl
      by_test true false false true o = refl
      by_test true false false false o = refl
      by_test false a true d o = refl
      by_test false a false d o = refl
