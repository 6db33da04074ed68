-- What a run of a pool gives, by how it ended; and what one of either command gives.
use Rattle.std.specs.Prelude.{◌≡◌, ◌↔◌, ℕ, List, Option, None, IfSome}
use Rattle.std.specs.Io.KnownBytes.{Appends}
use Rattle.sign_io.specs.Faults.{CountsFault}
use Rattle.desk_parts.specs.Tables.{setup_of}
use Rattle.sign_desk.specs.DeskState.{Represents}
use Rattle.signer_book.specs.Close.{IsCloseCause}
use Rattle.signer_book.specs.declared.settled.CloseRefused.{CloseRefused}
use Rattle.signer_book.specs.declared.settled.Settled.{Settled}
use Rattle.signer_shared.specs.Gates.{GateMeaning}
use Rattle.signer_shared.specs.declared.job.Served.{Served}
use Rattle.signctl_driver.specs.Output.{AppendsPrefix}
use Rattle.signctl_driver.specs.Status.{is_write_fault}
use Rattle.signctl_driver.specs.declared.status.Status.TheVariants as status
use Rattle.signctl_format.specs.Policy.{script_policy}
use Rattle.signctl_format.specs.declared.credential.ScriptCredential.{ScriptCredential}
use Rattle.signctl_format.specs.declared.credential.ScriptRule.{ScriptRule}
use Rattle.pool_jobs.specs.Setup.{pool_setup}
use Rattle.pool_jobs.specs.Run.{ServesPool, IsPoolRun}
use Rattle.signctl_threads.specs.Ends.{status_of}
use Rattle.signctl_threads.specs.Line.{pool_line}
use Rattle.signctl_threads.specs.Queue.{EndsQueue}
use Rattle.signctl_threads.specs.Written.{Written}
use Rattle.signctl_threads.specs.declared.end.PoolEnd.{PoolEnd}
use Rattle.signctl_threads.specs.declared.end.PoolEnd.TheVariants as end
use Rattle.signctl_threads.specs.declared.words.ThreadedCommand.{ThreadedCommand}
use Rattle.signctl_threads.specs.declared.words.ThreadedCommand.TheVariants.{Pool, Queue}

module _ (gate : GateMeaning ScriptCredential) (workers jobs : ℕ) where
  -- a signer that was closed behind a pool: its desk represents the journal of the run
  pub record IsSettledPool (settled : Settled ScriptCredential ScriptRule) : Type 0 where
    pub setup : setup_of settled.desk ≡ pool_setup workers
    pub represents : Represents script_policy settled.desk settled.journal.items
    pub run : (served : List Served)
        × IsPoolRun gate workers jobs settled.journal.items settled.passes.items served

  -- a signer that was not closed behind a pool: the passes serve its jobs, and there is a cause
  pub record IsRefusedPool (refused : CloseRefused ScriptCredential ScriptRule) : Type 0 where
    pub setup : setup_of refused.plan ≡ pool_setup workers
    pub book : Represents script_policy refused.book.desk refused.book.journal
    pub cause : IsCloseCause refused.plan refused.book refused.passes.items refused.why
    pub serves : (served : List Served) × ServesPool gate workers jobs refused.passes.items served

  -- a run that ended before its line: the signer was not closed, or an allocation failed
  abbrev pub EndsEarly : PoolEnd → Type 0
  EndsEarly (end.Disagreed refused) = IsRefusedPool refused
  EndsEarly (end.Ended status.OutOfMemory) = Unit {0}
  EndsEarly _ = ⊥

  -- What a run gives, by how it ended. Done: the sink has the whole line of the settled journal more. A
  -- failed write: it has a prefix of the line of such a journal. Any other end leaves it as it was
  abbrev pub EndsPool : {D : Type 0} → PoolEnd → Written D → Type 0
  EndsPool (end.Done settled) sink =
      IsSettledPool settled
      × Appends (sink.holds sink.old) (sink.holds sink.new) (pool_line jobs settled.journal.items)
  EndsPool (end.Disagreed refused) sink = IsRefusedPool refused × (sink.new ≡ sink.old)
  EndsPool (end.Ended status.WriteFault) sink =
      (settled : Settled ScriptCredential ScriptRule) × IsSettledPool settled
      × AppendsPrefix (sink.holds sink.old) (sink.holds sink.new) (pool_line jobs settled.journal.items)
  EndsPool (end.Ended status.OutOfMemory) sink = sink.new ≡ sink.old
  EndsPool _ sink = ⊥

-- what a run of a command gives
abbrev pub EndsCommand : {D : Type 0} → GateMeaning ScriptCredential → ThreadedCommand → PoolEnd
    → Written D → Type 0
EndsCommand gate (Pool workers jobs) ended sink = EndsPool gate workers jobs ended sink
EndsCommand gate (Queue workers jobs capacity) ended sink = EndsQueue gate workers jobs ended sink

-- a run did what its words ask for
pub record IsThreadsRun {D : Type 0} (gate : GateMeaning ScriptCredential) (asked : Option ThreadedCommand)
    (ended : PoolEnd) (sink : Written D) : Type 0 where
  -- Usage comes exactly where nothing is asked for, and writes nothing
  pub usage : (ended ≡ end.Ended status.Usage) ↔ (asked ≡ None)
  pub untouched : ended ≡ end.Ended status.Usage → sink.new ≡ sink.old
  -- what was done, and written
  pub gives : IfSome asked (λ command. EndsCommand gate command ended sink)
  -- the count of faults rises by one exactly where the end says so, and else stays
  pub writes : CountsFault (is_write_fault (status_of ended)) (sink.faults sink.old) (sink.faults sink.new)
