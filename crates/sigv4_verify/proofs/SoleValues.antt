-- The value of a header that stands once.
use Rattle.std.proofs.Common.{◌≡◌, ℕ, ◌+◌, Bool, true, false, cond, List, [], ◌∷◌, ◌++◌, All, Some, refl, arith}
use Rattle.std.specs.List.{count_by, find}
use Rattle.std.proofs.lemmas.List.Elements.{All-head, All-tail}
use Rattle.std.proofs.lemmas.List.Sums.{sum_by-cons, sum_by-append}
use Rattle.sign_base.specs.declared.head.Field.{Field}
use Rattle.sigv4_core.specs.SignedHead.{is_named}
use Rattle.sigv4_verify.specs.SignedForm.{sole_value}

abbrev one_if : Bool → ℕ
one_if b = cond b 1 0

module _ (test : Field → Bool) where
  abbrev Fails : Field → Type 0
  Fails f = test f ≡ false

  count_none : (xs : List Field) → All Fails xs → count_by test xs ≡ 0
  count_none [] h = refl
  count_none (x ∷ xs) h =
      let fails : test x ≡ false = All-head Fails x xs h in
      let none : one_if (test x) ≡ 0 = rw fails refl in
      omega (arith, sum_by-cons (λ f. cond (test f) 1 0) x xs, none, count_none xs (All-tail Fails x xs h))

  count_one : (xs ys : List Field) (y : Field) → All Fails xs → All Fails ys → test y ≡ true
      → count_by test (xs ++ y ∷ ys) ≡ 1
  count_one xs ys y h k passes =
      let one : one_if (test y) ≡ 1 = rw passes refl in
      omega (arith, sum_by-append (λ f. cond (test f) 1 0) xs (y ∷ ys), sum_by-cons (λ f. cond (test f) 1 0) y ys, one, count_none xs h, count_none ys k)

  find_one : (xs ys : List Field) (y : Field) → All Fails xs → test y ≡ true → find test (xs ++ y ∷ ys) ≡ Some y
  find_one [] ys y h passes = rw passes refl
  find_one (x ∷ xs) ys y h passes =
      let fails : test x ≡ false = All-head Fails x xs h in
      rw fails (find_one xs ys y (All-tail Fails x xs h) passes)

pub sole_value-at : (name : List ℕ) (xs ys : List Field) (y : Field) → All (λ f. is_named name f ≡ false) xs
    → All (λ f. is_named name f ≡ false) ys → is_named name y ≡ true
    → sole_value name (xs ++ y ∷ ys) ≡ Some y.value
sole_value-at name xs ys y h k passes =
    let count = count_one (is_named name) xs ys y h k passes in
    let found = find_one (is_named name) xs ys y h passes in
    rw (count, found) refl
