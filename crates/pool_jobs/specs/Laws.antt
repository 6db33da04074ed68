-- The law of the program's pool: each call is signed, and the provider is asked at most once.
use Rattle.std.specs.Prelude.{ℕ, ◌<◌, List}
use Rattle.sequential_signer.specs.declared.event.Entry.{Entry}
use Rattle.signctl_format.specs.declared.credential.ScriptCredential.{ScriptCredential}
use Rattle.signer_book.specs.declared.pass.Receipt.{Receipt}
use Rattle.signer_shared.specs.declared.job.Served.{Served}
use Rattle.pool_jobs.specs.Meaning.{pool_meaning}
use Rattle.pool_jobs.specs.Run.{IsPoolRun}
pub use Rattle.prompt_law.specs.Laws.{NoCallIsRefused, SignsAll, PromptCallsAreSigned}

-- a run of a pool with at least one worker signs all jobs
abbrev pub EveryPoolCallIsSigned : Type 0
EveryPoolCallIsSigned =
    (workers jobs : ℕ) (journal : List (Entry ScriptCredential))
    (passes : List (List (Receipt ScriptCredential))) (served : List Served)
    → 0 < workers → IsPoolRun pool_meaning workers jobs journal passes served → SignsAll jobs journal served
