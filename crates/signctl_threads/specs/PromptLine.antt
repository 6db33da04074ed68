-- The very line of a command whose gate answers at once.
use Rattle.std.specs.Prelude.{ℕ, List, Option, IfSome, min}
use Rattle.std.specs.Io.KnownBytes.{Appends}
use Rattle.signctl_driver.specs.Output.{AppendsPrefix}
use Rattle.signctl_driver.specs.declared.status.Status.TheVariants as status
use Rattle.signctl_threads.specs.Line.{books_line}
use Rattle.signctl_threads.specs.LineLaws.{line_of_all_signed}
use Rattle.signctl_threads.specs.Written.{Written}
use Rattle.signctl_threads.specs.declared.end.PoolEnd.{PoolEnd}
use Rattle.signctl_threads.specs.declared.end.PoolEnd.TheVariants as end
use Rattle.signctl_threads.specs.declared.words.ThreadedCommand.{ThreadedCommand}
use Rattle.signctl_threads.specs.declared.words.ThreadedCommand.TheVariants.{Pool, Queue}

-- all jobs signed, or answered and none left; and one load, if there is a job
abbrev pub prompt_line : ThreadedCommand → List ℕ
prompt_line (Pool workers jobs) = line_of_all_signed jobs
prompt_line (Queue workers jobs capacity) = books_line jobs jobs 0 (min jobs 1)

-- the sink has the whole line more where the run was done, and a prefix of it where the write failed
abbrev pub WritesLine : {D : Type 0} → List ℕ → PoolEnd → Written D → Type 0
WritesLine line (end.Done settled) sink = Appends (sink.holds sink.old) (sink.holds sink.new) line
WritesLine line (end.Finished finished) sink = Appends (sink.holds sink.old) (sink.holds sink.new) line
WritesLine line (end.Ended status.WriteFault) sink =
    AppendsPrefix (sink.holds sink.old) (sink.holds sink.new) line
WritesLine line _ sink = Unit {0}

-- so it is for the command that is asked for
abbrev pub WritesPromptLine : {D : Type 0} → Option ThreadedCommand → PoolEnd → Written D → Type 0
WritesPromptLine asked ended sink = IfSome asked (λ command. WritesLine (prompt_line command) ended sink)
