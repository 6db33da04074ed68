-- How far a look at a cache gets, and a load, by the answers of its providers.
use Rattle.std.proofs.Common.{◌≡◌, ◌⊎◌, inl, inr, nat_lt, ℕ, ℤ, ◌<◌, true, false, Bool, cond, Option, Some}
use Rattle.std.proofs.Common.{None, is_some, IfSome, IsTrue, refl, subst, arith}
use Rattle.std.proofs.lemmas.Bool.Decides.{nat_tests}
use Rattle.sequential_signer.specs.Policy.{Policy}
use Rattle.sequential_signer.specs.Lookup.{Outcome, HandOut, Refuse, cache_lookup, lookup_by, check_by}
use Rattle.sequential_signer.specs.Lookup.{check_refreshed}
use Rattle.sequential_signer.specs.SequentialCall.{Progress, Asking, Over, HoldInput, sequential_call}
use Rattle.sequential_signer.specs.SequentialCall.{next_of_chain, found_progress, after_lookup, load_progress}
use Rattle.sequential_signer.specs.declared.event.Loader.{Loader}
use Rattle.sequential_signer.specs.declared.event.Loader.TheVariants.{Single, Chain}
use Rattle.sequential_signer.specs.declared.event.Why.{Why}
use Rattle.sequential_signer.specs.declared.event.Why.TheVariants as why
use Rattle.desk_parts.specs.HoldProgress.{next_load, desk_look_input}
use Rattle.desk_parts.specs.Places.{provider_count}
use Rattle.desk_parts.specs.declared.tables.LiveCallView.{LiveCallView}
use Rattle.desk_driver.specs.Causes.{is_of_look, is_of_check}

-- how far a look gets
abbrev pub IsLook : {K : Type 0} → Loader → Progress K → Type 0
IsLook loader (Asking provider) = (provider ≡ 0) × (0 < provider_count loader)
IsLook loader (Over (HandOut c) cache) = Unit {0}
IsLook loader (Over (Refuse cause) cache) = IsTrue (is_of_look cause)

-- how far a load gets by a credential
abbrev pub IsFoundLoad : {K : Type 0} → Progress K → Type 0
IsFoundLoad (Asking provider) = ⊥
IsFoundLoad (Over (HandOut c) cache) = Unit {0}
IsFoundLoad (Over (Refuse cause) cache) = IsTrue (is_of_check cause)

-- how far a load gets by an answer that is none
abbrev pub IsOtherLoad : {K : Type 0} → Loader → ℕ → Why → Progress K → Type 0
IsOtherLoad loader count cause (Asking provider) = (provider ≡ count) × (count < provider_count loader)
IsOtherLoad loader count cause (Over (HandOut c) cache) = ⊥
IsOtherLoad loader count cause (Over (Refuse other) cache) = (other ≡ why.Missing) ⊎ (other ≡ cause)

module _ {K : Type 0} where
  chain-look : (n : ℕ) (cache : Option K) → IsLook (Chain n) (next_of_chain n cache 0)
  chain-look n cache = by_test (nat_lt 0 n) refl
    where
      by_test : (b : Bool) → nat_lt 0 n ≡ b
          → IsLook (Chain n) (cond b (let p : Progress K = Asking 0 in p) (Over (Refuse why.Missing) cache))
      by_test true e = (refl, grind (arith, nat_tests, e))
      by_test false e = refl

  after-look : (loader : Loader) (o : Option (Outcome K)) (cache : Option K) (p : Progress K)
      → ((cause : Why) → o ≡ Some (Refuse cause) → IsTrue (is_of_look cause)) → IsLook loader p
      → IsLook loader (after_lookup o cache p)
  after-look loader None cache p h q = q
  after-look loader (Some (HandOut c)) cache p h q = tt
  after-look loader (Some (Refuse cause)) cache p h q = h cause refl

  load-look : (check : K → ℤ → Outcome K) (loader : Loader) (cache : Option K)
      → IsLook loader (load_progress check loader cache 0 None)
  load-look check Single cache = (refl, omega arith)
  load-look check (Chain n) cache = chain-look n cache

module _ {K D : Type 0} where
  -- a look refuses for no other cause than a deadline out of range
  lookup-refuses : (policy : Policy K D) (cache : Option K) (rule : D) (duration : Option ℕ) (now : ℤ)
      (cause : Why) → cache_lookup policy cache rule duration now ≡ Some (Refuse cause)
      → IsTrue (is_of_look cause)
  lookup-refuses policy None rule duration now cause e = absurd (cc)
  lookup-refuses policy (Some c) rule duration now cause e = by_valid (policy.valid c now) (policy.deadline rule c duration now) e
    where
      by_lasts : (deadline : ℤ) (b : Bool)
          → cond b (Some (let o : Outcome K = HandOut c in o)) None ≡ Some (Refuse cause)
          → IsTrue (is_of_look cause)
      by_lasts deadline true e = absurd (cc)
      by_lasts deadline false e = absurd (cc)

      by_deadline : (d : Option ℤ) → lookup_by policy c now d ≡ Some (Refuse cause)
          → IsTrue (is_of_look cause)
      by_deadline None e = let same : why.Range ≡ cause = cc in subst (λ w. IsTrue (is_of_look w)) same refl
      by_deadline (Some deadline) e = by_lasts deadline (policy.valid_at c deadline now) e

      by_valid : (b : Bool) (d : Option ℤ) → cond b (lookup_by policy c now d) None ≡ Some (Refuse cause)
          → IsTrue (is_of_look cause)
      by_valid true d e = by_deadline d e
      by_valid false d e = absurd (cc)

  pub look-is : (policy : Policy K D) (cached : Option K) (loader : Loader) (view : LiveCallView) (now : ℤ)
      (rule : D) → IsLook loader (sequential_call policy cached loader (desk_look_input view now rule))
  look-is policy cached loader view now rule =
      let input : HoldInput K D = desk_look_input view now rule in
      after-look loader (cache_lookup policy cached rule input.duration now) cached (load_progress (check_refreshed policy rule input.duration) loader cached 0 None)
      (lookup-refuses policy cached rule input.duration now) (load-look (check_refreshed policy rule input.duration) loader cached)

  pub check-found : (policy : Policy K D) (c : K) (now : ℤ) (d : Option ℤ)
      → IsFoundLoad (found_progress (check_by policy c now d) None)
  check-found policy c now None = refl
  check-found policy c now (Some deadline) = by_lasts (policy.valid_at c deadline now)
    where
      by_lasts : (b : Bool)
          → IsFoundLoad
          (found_progress (cond b (let o : Outcome K = HandOut c in o) (Refuse (why.Short deadline))) None)
      by_lasts true = tt
      by_lasts false = refl

module _ (K : Type 0) where
  pub next-other : (loader : Loader) (count : ℕ) (cause : Why)
      → IfSome (next_load {K = K} (Some loader) count cause) (IsOtherLoad loader count cause)
  next-other Single count cause = inr refl
  next-other (Chain n) count cause = by_test (nat_lt count n) refl
    where
      by_test : (b : Bool) → nat_lt count n ≡ b
          → IsOtherLoad (Chain n) count cause
          (cond b (let p : Progress K = Asking count in p) (Over (Refuse why.Missing) None))
      by_test true e = (refl, grind (arith, nat_tests, e))
      by_test false e = inl refl

-- a load whose loader is there gets somewhere
pub some_load : (K : Type 0) (loader : Loader) (count : ℕ) (cause : Why)
    → is_some (next_load {K = K} (Some loader) count cause) ≡ true
some_load K Single count cause = refl
some_load K (Chain n) count cause = refl
