-- How runs of a queue end.
use Rattle.std.proofs.Common.{◌≡◌, ℕ, length, refl, ap}
use Rattle.signer_shared.specs.Gates.{GateMeaning}
use Rattle.signctl_format.specs.declared.credential.ScriptCredential.{ScriptCredential}
use Rattle.signctl_format.specs.declared.credential.ScriptRule.{ScriptRule}
use Rattle.pool_books.specs.Cleared.{joined, lists_of}
use Rattle.pool_books.specs.declared.finished.Finished.{Finished}
use Rattle.pool_jobs.specs.Run.{loads}
use Rattle.signctl_threads.specs.Run.{IsFinishedQueue}
use Rattle.signctl_threads.specs.Line.{books_line, queue_line}

module _ (gate : GateMeaning ScriptCredential) (workers jobs : ℕ) where
  -- the line of a finished queue's books
  pub line_of_books : (finished : Finished ScriptCredential ScriptRule)
      → IsFinishedQueue gate workers jobs finished
      → books_line (length (joined (lists_of finished.submitted.items)))
      (length (joined (lists_of finished.answers.items)))
      (length finished.left.items) (loads finished.settled.journal.items) ≡ queue_line jobs finished.settled.journal.items
  line_of_books finished h =
      let none : length finished.left.items ≡ 0 = ap length h.none_left in
      rw (h.closed.submitted.count, h.closed.serves.answered, none) refl
