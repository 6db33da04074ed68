-- What a run of a queue gives, by how it ended.
use Rattle.std.specs.Prelude.{◌≡◌, ℕ}
use Rattle.std.specs.Io.KnownBytes.{Appends}
use Rattle.pool_books.specs.declared.finished.Finished.{Finished}
use Rattle.signer_shared.specs.Gates.{GateMeaning}
use Rattle.signctl_driver.specs.Output.{AppendsPrefix}
use Rattle.signctl_driver.specs.declared.status.Status.TheVariants as status
use Rattle.signctl_format.specs.declared.credential.ScriptCredential.{ScriptCredential}
use Rattle.signctl_format.specs.declared.credential.ScriptRule.{ScriptRule}
use Rattle.signctl_threads.specs.Run.{IsFinishedQueue, IsUnclearedQueue, IsUnclosedQueue}
use Rattle.signctl_threads.specs.Line.{queue_line}
use Rattle.signctl_threads.specs.Written.{Written}
use Rattle.signctl_threads.specs.declared.end.PoolEnd.{PoolEnd}
use Rattle.signctl_threads.specs.declared.end.PoolEnd.TheVariants as end

module _ (gate : GateMeaning ScriptCredential) (workers jobs : ℕ) where
  -- What a run gives, by how it ended. Finished: the sink has the whole line of these jobs more. A failed
  -- write: it has a prefix of the line of a finished queue. Any other end leaves it as it was
  abbrev pub EndsQueue : {D : Type 0} → PoolEnd → Written D → Type 0
  EndsQueue (end.Finished finished) sink =
      IsFinishedQueue gate workers jobs finished
      × Appends (sink.holds sink.old) (sink.holds sink.new) (queue_line jobs finished.settled.journal.items)
  EndsQueue (end.Uncleared finished why) sink =
      IsUnclearedQueue gate workers jobs finished why × (sink.new ≡ sink.old)
  EndsQueue (end.Disagreed refused) sink = IsUnclosedQueue gate workers jobs refused × (sink.new ≡ sink.old)
  EndsQueue (end.Ended status.WriteFault) sink =
      (finished : Finished ScriptCredential ScriptRule) × IsFinishedQueue gate workers jobs finished
      × AppendsPrefix (sink.holds sink.old) (sink.holds sink.new)
      (queue_line jobs finished.settled.journal.items)
  EndsQueue (end.Ended status.OutOfMemory) sink = sink.new ≡ sink.old
  EndsQueue _ sink = ⊥
