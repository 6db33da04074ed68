-- The lines of a pool and of a queue whose gate answers at once.
use Rattle.std.specs.Prelude.{◌≡◌, ℕ, ◌<◌, min, List, [], ◌∷◌, codes}
use Rattle.std.specs.Fmt.{decimal}
use Rattle.line_words.specs.Words.{with_newline, line_of}
use Rattle.signctl_format.specs.declared.credential.ScriptCredential.{ScriptCredential}
use Rattle.signctl_format.specs.declared.credential.ScriptRule.{ScriptRule}
use Rattle.signer_book.specs.declared.settled.Settled.{Settled}
use Rattle.pool_books.specs.declared.finished.Finished.{Finished}
use Rattle.pool_jobs.specs.Meaning.{pool_meaning}
use Rattle.signctl_threads.specs.Run.{IsFinishedQueue}
use Rattle.signctl_threads.specs.Line.{books_line, pool_line, queue_line}
use Rattle.signctl_threads.specs.Pool.{IsSettledPool}

-- so many calls, all of them signed, with one load if there is a call
abbrev pub line_of_all_signed : ℕ → List ℕ
line_of_all_signed jobs =
    with_newline (line_of (codes "calls" ∷ decimal jobs ∷ codes "signed" ∷ decimal jobs
    ∷ codes "loads" ∷ decimal (min jobs 1) ∷ codes "settled" ∷ []))

-- that is the line of each settled pool, in every order in which its workers' steps may come
abbrev pub EveryPoolWritesTheSameLine : Type 0
EveryPoolWritesTheSameLine =
    (workers jobs : ℕ) (settled : Settled ScriptCredential ScriptRule) → 0 < workers
    → IsSettledPool pool_meaning workers jobs settled
    → pool_line jobs settled.journal.items ≡ line_of_all_signed jobs

-- all jobs answered and none left, with one load if there is a job: that is the line of each finished queue,
-- in every order in which its workers' steps may come
abbrev pub EveryQueueWritesTheSameLine : Type 0
EveryQueueWritesTheSameLine =
    (workers jobs : ℕ) (finished : Finished ScriptCredential ScriptRule)
    → IsFinishedQueue pool_meaning workers jobs finished
    → queue_line jobs finished.settled.journal.items ≡ books_line jobs jobs 0 (min jobs 1)
