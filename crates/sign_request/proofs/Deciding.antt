-- Tests made of tests, and what each of them decides.
use Rattle.std.proofs.Common.{◌≡◌, ℕ, ◌+◌, ◌<◌, ◌≤◌, ◌⊎◌, inl, inr, Bool, true, false, not, ◌&&◌, ◌||◌, leb, ltb, List, Decides, refl, arith}
use Rattle.std.specs.Prelude.{IsTrue}
use Rattle.std.specs.List.{AllPass, list_all, range_with_len}
use Rattle.std.proofs.lemmas.Bool.Decides.{not_from_Decides, nat_tests}
use Rattle.std.proofs.lemmas.List.Sums.{AllPass-from_list_all, list_all-from_AllPass}
use Rattle.std.proofs.lemmas.List.FromFn.{length-range_with_len, get_or-range_with_len}

-- the order of numbers
pub Decides-leb : (a b : ℕ) → Decides (leb a b) (a ≤ b)
Decides-leb a b = (λ yes. grind (arith, nat_tests), λ le. grind (arith, nat_tests))

-- where P fails or Q holds, P implies Q
pub Decides-implies : {P Q : Type 0} (x y : Bool) → Decides x P → Decides y Q → Decides (not x || y) (P → Q)
Decides-implies true y p q = (λ yes _. q.0 yes, λ f. q.1 (f (p.0 refl)))
Decides-implies false y p q = (λ _ h. absurd (let yes = p.1 h in cc), λ _. refl)

-- a test of each element
pub Decides-list_all : {X : Type 0} (test : X → Bool) (xs : List X)
    → Decides (list_all test xs) (AllPass test xs)
Decides-list_all test xs = (AllPass-from_list_all test xs, list_all-from_AllPass test xs)

-- a test of each number below n
pub Decides-below : (p : ℕ → Bool) (n : ℕ)
    → Decides (list_all p (range_with_len 0 n)) ((i : ℕ) → i < n → p i ≡ true)
Decides-below p n = (
  λ yes i within.
      let len = length-range_with_len 0 n in
      let at = AllPass-from_list_all p (range_with_len 0 n) yes i 0 (omega arith) in
      let same : 0 + i ≡ i = omega arith in
      rw (get_or-range_with_len 0 n i 0 within, same) at at,
  λ all. list_all-from_AllPass p (range_with_len 0 n) (λ i d within.
      let len = length-range_with_len 0 n in
      let below : i < n = omega arith in
      let same : 0 + i ≡ i = omega arith in
      rw (get_or-range_with_len 0 n i d below, same) (all i below)),
)

-- a test decides that it passes
pub Decides-itself : (b : Bool) → Decides b (IsTrue b)
Decides-itself b = (λ passed. passed, λ passed. passed)

-- a test of what does not hold fails
pub false_from_Decides : {P : Type 0} (b : Bool) → Decides b P → ¬ P → b ≡ false
false_from_Decides true d fails = absurd (fails (d.0 refl))
false_from_Decides false d fails = refl

-- the test fails exactly where P holds
abbrev pub FailsWhere : Bool → Type 0 → Type 0
FailsWhere r P = (r ≡ false → P) × (P → r ≡ false)

-- a test that decides P
pub FailsWhere-not : {P : Type 0} (r : Bool) → Decides r P → FailsWhere r (¬ P)
FailsWhere-not true d = (λ e. absurd (cc), λ fails. absurd (fails (d.0 refl)))
FailsWhere-not false d = (λ _. not_from_Decides false d refl, λ _. refl)

-- both are needed, so it fails where either does
pub FailsWhere-and : {P Q : Type 0} (x y : Bool) → FailsWhere x P → FailsWhere y Q
    → FailsWhere (x && y) (P ⊎ Q)
FailsWhere-and true y p q = (λ e. inr (q.0 e), λ why. elim why [ inl h ↦ absurd (let never = p.1 h in cc) | inr h ↦ q.1 h ])
FailsWhere-and false y p q = (λ _. inl (p.0 refl), λ _. refl)

-- either is enough, so it fails where both do
pub FailsWhere-or : {P Q : Type 0} (x y : Bool) → FailsWhere x P → FailsWhere y Q
    → FailsWhere (x || y) (P × Q)
FailsWhere-or true y p q = (λ e. absurd (cc), λ h. absurd (let never = p.1 h.0 in cc))
FailsWhere-or false y p q = (λ e. (p.0 refl, q.0 e), λ h. q.1 h.1)

-- the order of numbers
pub FailsWhere-ltb : (a b : ℕ) → FailsWhere (ltb a b) (b ≤ a)
FailsWhere-ltb a b = (λ e. grind (arith, nat_tests), λ le. grind (arith, nat_tests))
