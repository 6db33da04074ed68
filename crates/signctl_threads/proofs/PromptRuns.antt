-- What a command writes whose gate answers at once.
use Rattle.std.proofs.Common.{◌≡◌, ℕ, List, Option, Some, None, subst}
use Rattle.std.specs.Prelude.{IfSome}
use Rattle.std.specs.Io.KnownBytes.{Appends}
use Rattle.pool_jobs.specs.Meaning.{pool_meaning}
use Rattle.signctl_driver.specs.Output.{AppendsPrefix}
use Rattle.signctl_driver.specs.declared.status.Status.{Status}
use Rattle.signctl_driver.specs.declared.status.Status.TheVariants as status
use Rattle.signctl_threads.specs.Line.{pool_line, queue_line}
use Rattle.signctl_threads.specs.Pool.{EndsCommand, EndsPool, IsThreadsRun}
use Rattle.signctl_threads.specs.PromptLine.{prompt_line, WritesLine, WritesPromptLine}
use Rattle.signctl_threads.specs.Queue.{EndsQueue}
use Rattle.signctl_threads.specs.Words.{IsPoolSize}
use Rattle.signctl_threads.specs.Written.{Written}
use Rattle.signctl_threads.specs.declared.end.PoolEnd.{PoolEnd}
use Rattle.signctl_threads.specs.declared.end.PoolEnd.TheVariants as end
use Rattle.signctl_threads.specs.declared.words.ThreadedCommand.{ThreadedCommand}
use Rattle.signctl_threads.specs.declared.words.ThreadedCommand.TheVariants.{Pool, Queue}
use Rattle.signctl_threads.proofs.PoolLines.{every_pool_writes_the_same_line, every_queue_writes_the_same_line}

module _ {D : Type 0} (sink : Written D) where
  whole : (old new : List ℕ) → old ≡ new → Appends (sink.holds sink.old) (sink.holds sink.new) old
      → Appends (sink.holds sink.old) (sink.holds sink.new) new
  whole old new e h = subst (λ l. Appends (sink.holds sink.old) (sink.holds sink.new) l) e h

  prefix : (old new : List ℕ) → old ≡ new → AppendsPrefix (sink.holds sink.old) (sink.holds sink.new) old
      → AppendsPrefix (sink.holds sink.old) (sink.holds sink.new) new
  prefix old new e h = subst (λ l. AppendsPrefix (sink.holds sink.old) (sink.holds sink.new) l) e h

  command-line : (command : ThreadedCommand) (ended : PoolEnd) → IsPoolSize command
      → EndsCommand pool_meaning command ended sink → WritesLine (prompt_line command) ended sink
  command-line (Pool workers jobs) (end.Done settled) size h =
      whole (pool_line jobs settled.journal.items) (prompt_line (Pool workers jobs)) (every_pool_writes_the_same_line workers jobs settled size.0 h.0) h.1
  command-line (Pool workers jobs) (end.Finished finished) size h = absurd h
  command-line (Pool workers jobs) (end.Disagreed refused) size h = tt
  command-line (Pool workers jobs) (end.Uncleared finished why) size h = tt
  command-line (Pool workers jobs) (end.Ended status.WriteFault) size h =
      prefix (pool_line jobs h.0.journal.items) (prompt_line (Pool workers jobs)) (every_pool_writes_the_same_line workers jobs h.0 size.0 h.1) h.2
  command-line (Pool workers jobs) (end.Ended status.Done) size h = tt
  command-line (Pool workers jobs) (end.Ended status.Usage) size h = tt
  command-line (Pool workers jobs) (end.Ended status.Refused) size h = tt
  command-line (Pool workers jobs) (end.Ended status.ReadFault) size h = tt
  command-line (Pool workers jobs) (end.Ended status.OutOfMemory) size h = tt
  command-line (Queue workers jobs capacity) (end.Finished finished) size h =
      whole (queue_line jobs finished.settled.journal.items) (prompt_line (Queue workers jobs capacity)) (every_queue_writes_the_same_line workers jobs finished h.0) h.1
  command-line (Queue workers jobs capacity) (end.Done settled) size h = absurd h
  command-line (Queue workers jobs capacity) (end.Disagreed refused) size h = tt
  command-line (Queue workers jobs capacity) (end.Uncleared finished why) size h = tt
  command-line (Queue workers jobs capacity) (end.Ended status.WriteFault) size h =
      prefix (queue_line jobs h.0.settled.journal.items) (prompt_line (Queue workers jobs capacity)) (every_queue_writes_the_same_line workers jobs h.0 h.1) h.2
  command-line (Queue workers jobs capacity) (end.Ended status.Done) size h = tt
  command-line (Queue workers jobs capacity) (end.Ended status.Usage) size h = tt
  command-line (Queue workers jobs capacity) (end.Ended status.Refused) size h = tt
  command-line (Queue workers jobs capacity) (end.Ended status.ReadFault) size h = tt
  command-line (Queue workers jobs capacity) (end.Ended status.OutOfMemory) size h = tt

  -- the command that was asked for wrote its line
  pub prompt-run : (asked : Option ThreadedCommand) (ended : PoolEnd) → IfSome asked IsPoolSize
      → IsThreadsRun pool_meaning asked ended sink → WritesPromptLine asked ended sink
  prompt-run asked ended size run = by_asked asked size run.gives
    where
      by_asked : (o : Option ThreadedCommand) → IfSome o IsPoolSize
          → IfSome o (λ command. EndsCommand pool_meaning command ended sink) → WritesPromptLine o ended sink
      by_asked None size gives = tt
      by_asked (Some command) size gives = command-line command ended size gives
