-- Laws of pools whose gate answers at once: each call is signed, and the provider is asked at most once.
use Rattle.std.specs.Prelude.{◌≡◌, ℕ, ℤ, ◌<◌, min, Bool, true, false, IsTrue, List, Some, All, count_by}
use Rattle.std.specs.Prelude.{sum_by, slice_get}
use Rattle.sequential_signer.specs.Policy.{Policy}
use Rattle.sequential_signer.specs.Setup.{Setup}
use Rattle.sequential_signer.specs.Legal.{IsLegal}
use Rattle.sequential_signer.specs.Replies.{is_ask, is_done}
use Rattle.sequential_signer.specs.declared.event.Entry.{Entry}
use Rattle.sequential_signer.specs.declared.event.Loader.TheVariants.{Single}
use Rattle.sequential_signer.specs.declared.event.Reply.{Reply}
use Rattle.sequential_signer.specs.declared.event.Reply.TheVariants.{Begun, Pending, Ask, Sign, Done}
use Rattle.signer_book.specs.Settled.{IsSettled}
use Rattle.signer_book.specs.declared.pass.Receipt.{Receipt}
use Rattle.signer_shared.specs.Gates.{GateMeaning}
use Rattle.signer_shared.specs.Pools.{ServesLists}
use Rattle.signer_shared.specs.declared.job.Job.{Job}
use Rattle.signer_shared.specs.declared.job.Served.{Served}
use Rattle.prompt_law.specs.PromptGates.{AnswersAtOnce, AreWorkerLists, jobs_in}

-- whether the reply is one that a call gets on its way to its signed head: none that refuses it, gives it up,
-- or finds that an event does not fit
abbrev pub is_on_the_way_to_done : {K : Type 0} → Reply K → Bool
is_on_the_way_to_done Begun = true
is_on_the_way_to_done Pending = true
is_on_the_way_to_done (Ask provider) = true
is_on_the_way_to_done (Sign credential wake) = true
is_on_the_way_to_done (Done head) = true
is_on_the_way_to_done _ = false

-- each event fitted, and no call was refused or given up
abbrev pub NoCallIsRefused : {K : Type 0} → List (Entry K) → Type 0
NoCallIsRefused journal = All (λ e. IsTrue (is_on_the_way_to_done e.reply)) journal

-- so many jobs were signed, with at most one load: by the journal, and by what the workers counted
pub record SignsAll {K : Type 0} (jobs : ℕ) (journal : List (Entry K)) (served : List Served) : Type 0 where
  pub well : NoCallIsRefused journal
  pub signed : count_by (λ e. is_done e.reply) journal ≡ jobs
  pub loads : count_by (λ e. is_ask e.reply) journal ≡ min jobs 1
  pub done : sum_by (λ s. s.done) served ≡ jobs
  pub refused : All (λ s. s.refused ≡ 0) served
  pub not_now : All (λ s. s.not_now ≡ 0) served
  pub given_up : All (λ s. s.given_up ≡ 0) served

-- Workers whose handles are on one cache with one provider, and whose gate answers at once, sign
-- all their jobs with at most one load, where none of them ran out of memory. So it is in every
-- order in which their steps may come.
abbrev pub PromptCallsAreSigned : {K D : Type 0} → Policy K D → GateMeaning K → Type 0
PromptCallsAreSigned {K} {D} policy gate =
    (setup : Setup D) (c : K) (moment : ℤ) (turns : ℕ) (lists : List (List Job))
    (journal : List (Entry K)) (passes : List (List (Receipt K))) (served : List Served)
    → slice_get setup.loaders 0 ≡ Some Single → AnswersAtOnce c moment gate → 0 < turns
    → AreWorkerLists policy setup c moment 0 lists
    → IsSettled journal passes → IsLegal policy setup journal
    → ServesLists gate turns lists passes served → All (λ s. s.out_of_memory ≡ false) served
    → SignsAll (jobs_in lists) journal served
