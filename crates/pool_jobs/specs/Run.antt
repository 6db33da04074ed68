-- A run of a pool: its journal and its passes.
use Rattle.std.specs.Prelude.{◌≡◌, ℕ, List, All, count_by, false}
use Rattle.sequential_signer.specs.Replies.{is_ask, is_done}
use Rattle.sequential_signer.specs.Legal.{IsLegal}
use Rattle.sequential_signer.specs.declared.event.Entry.{Entry}
use Rattle.signctl_format.specs.Policy.{script_policy}
use Rattle.signctl_format.specs.declared.credential.ScriptCredential.{ScriptCredential}
use Rattle.signer_book.specs.Settled.{IsSettled}
use Rattle.signer_book.specs.declared.pass.Receipt.{Receipt}
use Rattle.signer_shared.specs.Gates.{GateMeaning}
use Rattle.signer_shared.specs.Pools.{ServesLists}
use Rattle.signer_shared.specs.declared.job.Served.{Served}
use Rattle.pool_jobs.specs.Setup.{pool_setup}
use Rattle.pool_jobs.specs.Work.{pool_work}

-- each pass is that of serving its worker's jobs in one turn, and no worker ran out of memory
abbrev pub ServesPool : GateMeaning ScriptCredential → ℕ → ℕ
    → List (List (Receipt ScriptCredential)) → List Served → Type 0
ServesPool gate workers jobs passes served =
    ServesLists gate 1 (pool_work workers jobs) passes served × All (λ s. s.out_of_memory ≡ false) served

-- the journal is the steps of these passes, a legal history of the pool's setup,
-- and the passes serve its jobs
pub record IsPoolRun (gate : GateMeaning ScriptCredential) (workers jobs : ℕ)
    (journal : List (Entry ScriptCredential)) (passes : List (List (Receipt ScriptCredential)))
    (served : List Served) : Type 0 where
  pub settled : IsSettled journal passes
  pub legal : IsLegal script_policy (pool_setup workers) journal
  pub serves : ServesPool gate workers jobs passes served

-- how many heads were signed
abbrev pub signed : List (Entry ScriptCredential) → ℕ
signed journal = count_by (λ e. is_done e.reply) journal

-- how often the provider was asked
abbrev pub loads : List (Entry ScriptCredential) → ℕ
loads journal = count_by (λ e. is_ask e.reply) journal
