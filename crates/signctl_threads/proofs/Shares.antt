-- The shares of all threads are all jobs.
use Rattle.std.proofs.Common.{◌≡◌, ℕ, zero, suc, ◌+◌, ◌-◌, ◌*◌, ◌/◌, ◌%◌, ◌<◌, ◌≤◌, nat_lt, Bool, true, false, refl, ◌∙◌, arith}
use Rattle.std.specs.Prelude.{if◌then◌else◌}
use Rattle.std.proofs.lemmas.Bool.Decides.{nat_tests}
use native.Mathlib.Nat.{mod-add-div, suc-mul}
use Rattle.std.proofs.lemmas.Nat.{mod_below}

-- what so many threads get, from this place on: this many each, and one more below the last
abbrev pub dealt_from : ℕ → ℕ → ℕ → ℕ → ℕ
dealt_from each last place zero = 0
dealt_from each last place (suc n) = (each + (if nat_lt place last then 1 else 0)) + dealt_from each last (suc place) n

past : (each last place n : ℕ) → last ≤ place → dealt_from each last place n ≡ n * each
past each last place zero h = omega arith
past each last place (suc n) h =
    let no : nat_lt place last ≡ false = grind (arith, nat_tests) in
    let rest : dealt_from each last (suc place) n ≡ n * each = past each last (suc place) n (omega arith) in
    rw (no, rest) (omega (arith, suc-mul n each))

module _ (each last : ℕ) where
  step : (place n : ℕ) (b : Bool) → nat_lt place last ≡ b → place ≤ last → last ≤ place + suc n
      → ((place < last) → dealt_from each last (suc place) n ≡ n * each + (last - suc place))
      → dealt_from each last place (suc n) ≡ suc n * each + (last - place)
  step place n true t low high later =
      let below : place < last = grind (arith, nat_tests) in
      let rest : dealt_from each last (suc place) n ≡ n * each + (last - suc place) = later below in
      rw (t, rest) (omega (arith, suc-mul n each))
  step place n false t low high later =
      let above : last ≤ place = grind (arith, nat_tests) in
      let rest : dealt_from each last (suc place) n ≡ n * each = past each last (suc place) n (omega arith) in
      rw (t, rest) (omega (arith, suc-mul n each))

  upto : (place n : ℕ) → place ≤ last → last ≤ place + n
      → dealt_from each last place n ≡ n * each + (last - place)
  upto place zero low high = omega arith
  upto place (suc n) low high = step place n (nat_lt place last) refl low high (λ below. upto (suc place) n (omega arith) (omega arith))

-- all jobs are dealt out
pub all_dealt : (workers jobs : ℕ) → 0 < workers
    → dealt_from (jobs / workers) (jobs % workers) 0 workers ≡ jobs
all_dealt workers jobs some =
    upto (jobs / workers) (jobs % workers) 0 workers (omega arith) (omega (arith, mod_below jobs workers some)) ∙ whole
  where
    whole : workers * (jobs / workers) + (jobs % workers - 0) ≡ jobs
    whole = omega (arith, mod-add-div jobs workers)
