-- A load asks only where there is one more provider.
use Rattle.std.proofs.Common.{◌≡◌, ◌<◌, ℕ, ℤ, Bool, true, false, cond, nat_lt, List, [], ◌∷◌, Option, Some, None, length, refl, arith}
use Rattle.std.proofs.lemmas.Bool.Decides.{nat_tests}
use Rattle.sequential_signer.specs.Lookup.{Outcome, HandOut, Refuse}
use Rattle.sequential_signer.specs.SequentialCall.{Asking, Over, found_progress, load_progress, after_lookup}
use Rattle.sequential_signer.specs.Transcript.{last_of}
use Rattle.sequential_signer.specs.declared.event.Answer.{Answer}
use Rattle.sequential_signer.specs.declared.event.Answer.TheVariants as answered
use Rattle.sequential_signer.specs.declared.event.Loader.{Loader}
use Rattle.sequential_signer.specs.declared.event.Loader.TheVariants.{Single, Chain}
use Rattle.sequential_signer.specs.declared.event.Why.TheVariants as why
use Rattle.desk_parts.specs.Places.{provider_count}

-- a test of numbers that says yes
pub below_true : (a b : ℕ) → nat_lt a b ≡ true → a < b
below_true a b h = grind (arith, nat_tests)

none_last : {A : Type 0} (xs : List A) → last_of xs ≡ None → length xs ≡ 0
none_last [] h = refl
none_last (x ∷ []) h = absurd (cc)
none_last (x ∷ (y ∷ rest)) h = let e : length (y ∷ rest) ≡ 0 = none_last (y ∷ rest) h in absurd (omega (arith, e))

module _ {K : Type 0} (cache : Option K) (k : ℕ) where
  found_asks : (o : Outcome K) → Asking k ≡ found_progress o cache → ⊥
  found_asks (HandOut c) h = cc
  found_asks (Refuse cause) h = cc

  chain_asks : (count n : ℕ) (b : Bool) → nat_lt count n ≡ b
      → Asking k ≡ cond b (Asking count) (Over (Refuse why.Missing) cache) → count < n
  chain_asks count n true e h = below_true count n e
  chain_asks count n false e h = absurd (cc)

  asks_by : (check : K → ℤ → Outcome K) (loader : Loader) (count : ℕ) (last : Option (Answer K × ℤ))
      → (last ≡ None → count ≡ 0) → Asking k ≡ load_progress check loader cache count last
      → count < provider_count loader
  asks_by check Single count None e h = let z : count ≡ 0 = e refl in omega (arith, z)
  asks_by check Single count (Some (answered.Found c, now)) e h = absurd (found_asks (check c now) h)
  asks_by check Single count (Some (answered.Missing, now)) e h = absurd (cc)
  asks_by check Single count (Some (answered.Failed x, now)) e h = absurd (cc)
  asks_by check (Chain n) count None e h = chain_asks count n (nat_lt count n) refl h
  asks_by check (Chain n) count (Some (answered.Found c, now)) e h = absurd (found_asks (check c now) h)
  asks_by check (Chain n) count (Some (answered.Missing, now)) e h = chain_asks count n (nat_lt count n) refl h
  asks_by check (Chain n) count (Some (answered.Failed x, now)) e h = chain_asks count n (nat_lt count n) refl h

  module _ (check : K → ℤ → Outcome K) (loader : Loader) (answers : List (Answer K × ℤ)) where
    -- a load by these answers
    pub load-asks : Asking k ≡ load_progress check loader cache (length answers) (last_of answers)
        → length answers < provider_count loader
    load-asks h = asks_by check loader (length answers) (last_of answers) (none_last answers) h

    -- the same, after a look
    pub look-asks : (o : Option (Outcome K))
        → Asking k
        ≡ after_lookup o cache (load_progress check loader cache (length answers) (last_of answers))
        → length answers < provider_count loader
    look-asks (Some outcome) h = absurd (cc)
    look-asks None h = load-asks h
