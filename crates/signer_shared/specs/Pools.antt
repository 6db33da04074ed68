-- What a pool of workers leaves: a pass and counts for each list of jobs.
use Rattle.std.specs.Prelude.{ℕ, List, [], ◌∷◌}
use Rattle.sign_desk.specs.DeskState.{DeskState}
use Rattle.signer_book.specs.declared.pass.Receipt.{Receipt}
use Rattle.signer_book.specs.declared.settled.CloseRefused.{CloseRefused}
use Rattle.signer_shared.specs.Gates.{GateMeaning}
use Rattle.signer_shared.specs.Serving.{IsServing}
use Rattle.signer_shared.specs.declared.job.Job.{Job}
use Rattle.signer_shared.specs.declared.job.Served.{Served}
use Rattle.signer_shared.specs.declared.pool.PoolRefused.{PoolRefused}
use Rattle.signer_shared.specs.declared.pool.PoolRefused.TheVariants as refused

-- each pass and its counts are those of serving one list, in the order of the lists
abbrev pub ServesLists : {K : Type 0} → GateMeaning K → ℕ
    → List (List Job) → List (List (Receipt K)) → List Served → Type 0
ServesLists gate turns [] [] [] = Unit {0}
ServesLists gate turns (jobs ∷ lists) (pass ∷ passes) (counts ∷ served) =
    IsServing gate turns jobs pass counts × ServesLists gate turns lists passes served
ServesLists gate turns _ _ _ = ⊥

-- a fact of the plan where no worker was started, and one of what closing gave and of the counts
abbrev pub MatchPoolRefused : {K D : Type 0} → PoolRefused K D → (DeskState K D → Type 0)
    → (CloseRefused K D → List Served → Type 0) → Type 0
MatchPoolRefused (refused.OutOfMemory plan) P Q = P plan
MatchPoolRefused (refused.Close close served) P Q = Q close served.items
