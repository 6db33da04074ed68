-- The lines that a pool and a queue write.
use Rattle.std.specs.Prelude.{ℕ, List, [], ◌∷◌, codes}
use Rattle.std.specs.Fmt.{decimal}
use Rattle.sequential_signer.specs.declared.event.Entry.{Entry}
use Rattle.line_words.specs.Words.{with_newline, line_of}
use Rattle.signctl_format.specs.declared.credential.ScriptCredential.{ScriptCredential}
use Rattle.pool_jobs.specs.Run.{signed, loads}

-- so many calls, and what their journal counts
abbrev pub pool_line : ℕ → List (Entry ScriptCredential) → List ℕ
pool_line jobs journal =
    with_newline (line_of (codes "calls" ∷ decimal jobs ∷ codes "signed" ∷ decimal (signed journal)
    ∷ codes "loads" ∷ decimal (loads journal) ∷ codes "settled" ∷ []))

-- so many jobs were submitted, answered and left, with so many loads
abbrev pub books_line : ℕ → ℕ → ℕ → ℕ → List ℕ
books_line calls answered left loads =
    with_newline (line_of (codes "calls" ∷ decimal calls ∷ codes "answered" ∷ decimal answered
    ∷ codes "left" ∷ decimal left ∷ codes "loads" ∷ decimal loads ∷ codes "settled" ∷ []))

-- all jobs were answered, and none is left
abbrev pub queue_line : ℕ → List (Entry ScriptCredential) → List ℕ
queue_line jobs journal = books_line jobs jobs 0 (loads journal)
