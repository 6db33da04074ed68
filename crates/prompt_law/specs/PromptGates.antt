-- Gates that answer at once, and lists of jobs for them: each list has a handle of its own,
-- and all handles are on cache 0.
use Rattle.std.specs.Prelude.{◌≡◌, ℕ, ℤ, suc, ◌+◌, ◌≤◌, true, List, [], ◌∷◌, Some, length, option_map}
use Rattle.std.specs.Duration.{as_nanos}
use Rattle.sign_base.specs.declared.head.Head.{Head}
use Rattle.sign_base.specs.declared.call_id.CallId.{CallId}
use Rattle.sequential_signer.specs.Policy.{Policy}
use Rattle.sequential_signer.specs.Setup.{Setup, cache_of, rule_of}
use Rattle.sequential_signer.specs.LawsOfCaches.{serves_at}
use Rattle.sequential_signer.specs.declared.event.Answer.{Answer}
use Rattle.sequential_signer.specs.declared.event.Answer.TheVariants.{Found}
use Rattle.sequential_signer.specs.declared.event.Verdict.{Verdict}
use Rattle.sequential_signer.specs.declared.event.Verdict.TheVariants.{Accepted}
use Rattle.signer_shared.specs.Gates.{GateMeaning}
use Rattle.signer_shared.specs.declared.job.Job.{Job}

-- the gate answers each load in the first turn, with this credential alone; it accepts each
-- head; and its clock stands still
pub record AnswersAtOnce {K : Type 0} (c : K) (moment : ℤ) (gate : GateMeaning K) : Type 0 where
  pub ready : (call : CallId) (provider : ℕ) → gate.ready call provider 0
  pub gives : (call : CallId) (provider : ℕ) (answer : Answer K) → gate.gives call provider answer
      → answer ≡ Found c
  pub judges : (call : CallId) (credential : K) (head : Head) (verdict : Verdict)
      → gate.judges call credential head verdict → (made : Head) × (verdict ≡ Accepted made)
  pub tells : (now : ℤ) → gate.tells now → now ≡ moment

module _ {K D : Type 0} (policy : Policy K D) (setup : Setup D) (c : K) (moment : ℤ) where
  -- a job of this handle, whose call is of cache 0, and for which the credential is good at the moment
  pub record IsWorkerJob (handle : ℕ) (job : Job) : Type 0 where
    pub under : job.call.handle ≡ handle
    pub cache : cache_of setup job.call ≡ Some 0
    pub rule : D
    pub ruled : rule_of setup job.call ≡ Some rule
    pub lasts : serves_at policy c rule (option_map as_nanos job.expires_in) moment ≡ true

  -- jobs of one handle, whose calls have numbers that rise from this one on
  abbrev pub AreWorkerJobs : ℕ → ℕ → List Job → Type 0
  AreWorkerJobs handle from [] = Unit {0}
  AreWorkerJobs handle from (job ∷ jobs) =
      IsWorkerJob handle job × (from ≤ job.call.number) × AreWorkerJobs handle (suc job.call.number) jobs

  -- lists of jobs, each of the next handle from this one on
  abbrev pub AreWorkerLists : ℕ → List (List Job) → Type 0
  AreWorkerLists handle [] = Unit {0}
  AreWorkerLists handle (jobs ∷ lists) = AreWorkerJobs handle 0 jobs × AreWorkerLists (suc handle) lists

-- how many jobs the lists have
abbrev pub jobs_in : List (List Job) → ℕ
jobs_in [] = 0
jobs_in (jobs ∷ lists) = length jobs + jobs_in lists
