-- The lists of a pool: each is of its worker's handle, with numbers that rise, and together they have all
-- jobs.
use Rattle.std.proofs.Common.{◌≡◌, ℕ, pos, zero, suc, ◌+◌, ◌*◌, ◌/◌, ◌%◌, ◌≤◌, ◌<◌, ◌==◌, nat_lt, Bool, true, false, List, [], ◌∷◌, Some, filter, length, map, replicate, slice_get, Option, None, option_map, option_and_then, refl, sym, ◌∙◌, ap, subst, arith}
use Rattle.std.specs.Duration.{as_nanos}
use Rattle.std.specs.List.{range_with_len}
use Rattle.std.specs.declared.time.Duration.{Duration}
use Rattle.std.proofs.Math.Nat.{mul-le-mul_left}
use Rattle.std.proofs.lemmas.Bool.Decides.{nat_tests}
use Rattle.std.proofs.lemmas.List.{length-map}
use Rattle.std.proofs.lemmas.Nat.{mod_below}
use Rattle.sequential_signer.specs.LawsOfCaches.{serves_at}
use Rattle.sequential_signer.specs.Setup.{Handle}
use Rattle.signctl_format.specs.Policy.{script_policy}
use Rattle.signctl_format.specs.declared.credential.ScriptRule.{ScriptRule}
use Rattle.signctl_format.specs.declared.credential.ScriptRule.TheVariants.{Now}
use Rattle.signer_shared.specs.declared.job.Job.{Job}
use Rattle.pool_jobs.specs.Meaning.{pool_credential, pool_meaning, accepted_head}
use Rattle.pool_jobs.specs.Setup.{pool_setup}
use Rattle.pool_jobs.specs.Work.{pool_job, jobs_of_worker, pool_work}
use Rattle.prompt_law.proofs.Dealt.{is_of, is_from, count_of, counts_all, all_from}
use Rattle.prompt_law.specs.PromptGates.{AnswersAtOnce, IsWorkerJob, AreWorkerJobs, AreWorkerLists, jobs_in}

-- the handle of each worker
abbrev pool_handle : Handle
pool_handle = record { cache = 0; rule = 0 }

handle_at : (workers n : ℕ) → n < workers → slice_get (replicate workers pool_handle) n ≡ Some pool_handle
handle_at zero n lt = absurd (omega arith)
handle_at (suc workers) zero lt = refl
handle_at (suc workers) (suc n) lt = handle_at workers n (omega arith)

-- the gate of a pool answers at once
pub prompt : AnswersAtOnce pool_credential (pos 0) pool_meaning
prompt = record {
  ready = λ call provider. tt;
  gives = λ call provider answer h. h;
  judges = λ call k head verdict h. (accepted_head head, h);
  tells = λ now h. h;
}

-- of two numbers with the same remainder the greater has the greater quotient
quotient_rises : (n a b : ℕ) → 0 < n → a < b → a % n ≡ b % n → a / n < b / n
quotient_rises n a b more lt same = by_test (nat_lt (a / n) (b / n)) refl
  where
    by_test : (t : Bool) → nat_lt (a / n) (b / n) ≡ t → a / n < b / n
    by_test true t = grind (arith, nat_tests)
    by_test false t =
        let le : b / n ≤ a / n = grind (arith, nat_tests) in
        let products : n * (b / n) ≤ n * (a / n) = mul-le-mul_left n le in
        absurd (omega arith)

-- a job of a worker's handle that has no duration
pub worker_job : (workers : ℕ) (job : Job) → job.call.handle < workers → job.expires_in ≡ None
    → IsWorkerJob script_policy (pool_setup workers) pool_credential (pos 0) job.call.handle job
worker_job workers job lt none = record {
  under = refl;
  cache = ap (option_map (λ (h : Handle). h.cache)) (handle_at workers job.call.handle lt);
  rule = Now;
  ruled = ap (option_and_then (λ (h : Handle). slice_get {X = ScriptRule} (Now ∷ []) h.rule)) (handle_at workers job.call.handle lt);
  lasts = subst (λ (d : Option Duration). serves_at script_policy pool_credential Now (option_map as_nanos d) (pos 0) ≡ true) (sym none) refl;
}

module _ (workers : ℕ) (some : 0 < workers) where
  -- the jobs of a worker among those from one on
  abbrev jobs_from : ℕ → ℕ → ℕ → List Job
  jobs_from first at n = map (λ j. pool_job first (j / workers)) (filter (λ j. j % workers == first) (range_with_len at n))

  worker_jobs : (first : ℕ) → first < workers → (at n from : ℕ)
      → ((j : ℕ) → at ≤ j → j % workers ≡ first → from ≤ j / workers)
      → AreWorkerJobs script_policy (pool_setup workers) pool_credential (pos 0) first from
      (jobs_from first at n)
  worker_jobs first lt at zero from above = tt
  worker_jobs first lt at (suc n) from above = by_test (at % workers == first) refl (λ m k. worker_jobs first lt (at + 1) n m k)
    where
      by_test : (t : Bool) → (at % workers == first) ≡ t
          → ((m : ℕ) → ((j : ℕ) → at + 1 ≤ j → j % workers ≡ first → m ≤ j / workers)
          → AreWorkerJobs script_policy (pool_setup workers) pool_credential (pos 0) first m (jobs_from first
          (at + 1) n))
          → AreWorkerJobs script_policy (pool_setup workers) pool_credential (pos 0) first from
          (jobs_from first at (suc n))
      by_test true t later =
          let here : at % workers ≡ first = grind (arith, nat_tests) in
          rw t (
            worker_job workers (pool_job first (at / workers)) lt refl,
            above at (omega arith) here,
            later (suc (at / workers)) (λ j le same. quotient_rises workers at j some (omega arith) (here ∙ sym same)),
          )
      by_test false t later = rw t (later from (λ j le same. above j (omega arith) same))

  module _ (jobs : ℕ) where
    -- the lists from one worker on
    lists_from : (first n : ℕ) → first + n ≡ workers
        → AreWorkerLists script_policy (pool_setup workers) pool_credential (pos 0) first
        (map (jobs_of_worker workers jobs) (range_with_len first n))
    lists_from first zero e = tt
    lists_from first (suc n) e =
        let next : first + 1 ≡ suc first = omega arith in (
          worker_jobs first (omega arith) 0 jobs 0 (λ j le same. omega arith),
          subst (λ m. AreWorkerLists script_policy (pool_setup workers) pool_credential (pos 0) m (map (jobs_of_worker workers jobs) (range_with_len (first + 1) n))) next
              (lists_from (first + 1) n (omega arith)),
        )

    pub pool_lists : AreWorkerLists script_policy (pool_setup workers) pool_credential (pos 0) 0
        (pool_work workers jobs)
    pool_lists = lists_from 0 workers (omega arith)

    -- the worker of a job
    abbrev worker_of : ℕ → ℕ
    worker_of j = j % workers

    lengths_from : (first n : ℕ)
        → jobs_in (map (jobs_of_worker workers jobs) (range_with_len first n))
        ≡ count_of worker_of first n (range_with_len 0 jobs)
    lengths_from first zero = refl
    lengths_from first (suc n) =
        let next : first + 1 ≡ suc first = omega arith in
        ap (λ m. m + jobs_in (map (jobs_of_worker workers jobs) (range_with_len (first + 1) n))) (length-map (filter (λ j. j % workers == first) (range_with_len 0 jobs)) (λ j. pool_job first (j / workers)))
        ∙ ap (λ m. length (filter (is_of worker_of first) (range_with_len 0 jobs)) + m) (lengths_from (first + 1) n ∙ ap (λ m. count_of worker_of m n (range_with_len 0 jobs)) next)

    no_worker : (j : ℕ) → is_from worker_of workers j ≡ false
    no_worker j = let lt : j % workers < workers = mod_below j workers some in grind (arith, nat_tests)

    nobody_from : (at n : ℕ) → length (filter (is_from worker_of workers) (range_with_len at n)) ≡ 0
    nobody_from at zero = refl
    nobody_from at (suc n) = rw (no_worker at) (nobody_from (at + 1) n)

    range_length : (at n : ℕ) → length (range_with_len at n) ≡ n
    range_length at zero = refl
    range_length at (suc n) = ap suc (range_length (at + 1) n)

    pub pool_jobs_in : jobs_in (pool_work workers jobs) ≡ jobs
    pool_jobs_in =
        let e : workers ≡ 0 + workers = omega arith in
        lengths_from 0 workers
        ∙ counts_all worker_of 0 workers (range_with_len 0 jobs) (ap (λ m. length (filter (is_from worker_of m) (range_with_len 0 jobs))) (sym e) ∙ nobody_from 0 jobs)
        ∙ ap length (all_from worker_of (range_with_len 0 jobs))
        ∙ range_length 0 jobs
