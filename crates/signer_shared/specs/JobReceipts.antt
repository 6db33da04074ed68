-- The receipts of jobs in the words of events and replies: what a worker's run leaves, without its states.
use Rattle.std.specs.Prelude.{◌≡◌, ◌⊎◌, ◌<◌, ◌++◌, ℕ, ℤ, Bool, true, false, List, [], ◌∷◌}
use Rattle.sequential_signer.specs.declared.event.Answer.{Answer}
use Rattle.sequential_signer.specs.declared.event.Event.{Event}
use Rattle.sequential_signer.specs.declared.event.Event.TheVariants as event
use Rattle.sequential_signer.specs.declared.event.Reply.{Reply}
use Rattle.sequential_signer.specs.declared.event.Reply.TheVariants as reply
use Rattle.sequential_signer.specs.declared.event.Verdict.{Verdict}
use Rattle.signer_book.specs.declared.pass.Receipt.{Receipt}
use Rattle.signer_shared.specs.Gates.{GateMeaning}
use Rattle.signer_shared.specs.Serving.{IsServing}
use Rattle.signer_shared.specs.declared.job.Job.{Job}
use Rattle.signer_shared.specs.declared.job.Served.{Served}

module _ {K : Type 0} (gate : GateMeaning K) (turns : ℕ) where
  -- the job's call is cancelled, since an allocation failed
  abbrev pub StopsFor : Bool → Job → Event K → Type 0
  StopsFor out job e = (e ≡ event.Cancel job.call) × (out ≡ true)

  -- The job's call goes on so behind a reply: with a poll, with what the provider that was asked answers, or
  -- with what the service answers. It is cancelled where the provider was ready in none of the turns, or
  -- where an allocation failed. Any other reply is its last.
  abbrev pub GoesOnWith : Bool → Job → Reply K → Event K → Type 0
  GoesOnWith out job reply.Begun e =
      ((now : ℤ) × gate.tells now × (e ≡ event.Poll job.call now)) ⊎ StopsFor out job e
  GoesOnWith out job reply.Pending e =
      ((now : ℤ) × gate.tells now × (e ≡ event.Poll job.call now)) ⊎ StopsFor out job e
  GoesOnWith out job (reply.Ask provider) e =
      ((now : ℤ) × (answer : Answer K) × gate.tells now × gate.gives job.call provider answer
      × (e ≡ event.Provided job.call now answer))
      ⊎ (((e ≡ event.Cancel job.call)
      × ((turn : ℕ) → turn < turns → ¬ gate.ready job.call provider turn))
      ⊎ StopsFor out job e)
  GoesOnWith out job (reply.Sign credential wake) e =
      ((verdict : Verdict) × gate.judges job.call credential job.head verdict
      × (e ≡ event.Signed job.call verdict)) ⊎ StopsFor out job e
  GoesOnWith out job _ e = ⊥

  -- receipts of the job behind this reply
  abbrev pub GoOnFrom : Bool → Job → Reply K → List (Receipt K) → Type 0
  GoOnFrom out job r [] = Unit {0}
  GoOnFrom out job r (x ∷ rest) = GoesOnWith out job r x.entry.event × GoOnFrom out job x.entry.reply rest

  -- the job's receipts: first its begin, with its head and duration
  abbrev pub AreOfJob : Bool → Job → List (Receipt K) → Type 0
  AreOfJob out job [] = Unit {0}
  AreOfJob out job (x ∷ rest) =
      (x.entry.event ≡ event.Begin job.call job.head job.expires_in) × GoOnFrom out job x.entry.reply rest

  -- receipts of the jobs alone, job after job; behind one at which an allocation failed there are no more
  abbrev pub AreOfJobs : Bool → List Job → List (Receipt K) → Type 0
  AreOfJobs out [] added = added ≡ []
  AreOfJobs out (job ∷ jobs) added =
      (own rest : List (Receipt K)) × (added ≡ own ++ rest)
      × ((AreOfJob false job own × AreOfJobs out jobs rest)
      ⊎ ((out ≡ true) × AreOfJob true job own × (rest ≡ [])))

-- what serving jobs adds is receipts of these jobs alone, in their order
abbrev pub ReceiptsAreOfTheJobs : {K : Type 0} → GateMeaning K → Type 0
ReceiptsAreOfTheJobs {K} gate =
    (turns : ℕ) (jobs : List Job) (added : List (Receipt K)) (served : Served)
    → IsServing gate turns jobs added served → AreOfJobs gate turns served.out_of_memory jobs added
