use Rattle.std.proofs.Common.{◌∙◌, ap, subst}
use Rattle.signctl_driver.specs.Reasons.{reason_line}
use Rattle.signctl_driver.specs.Status.{exit_status}
use Rattle.signctl_driver.specs.Streams.{WritesOnce}
use Rattle.signctl_driver.specs.declared.status.Status.{Status}
use Rattle.std.specs.Prelude.{map, string_bytes, option_map}
use Rattle.signctl_threads.specs.CommandLine.{asked_of}
use Rattle.signctl_threads.proofs.PromptRuns.{prompt-run}
use Rattle.signctl_threads.proofs.program.run_threads.Goals as goal

pub returns : goal.returns
returns g c =
    let Written : Status → Type 0 = λ status. WritesOnce (reason_line status)
    (record { holds = g.E.Sink.holds; faults = g.E.Sink.faults; old = c.args.errors.now; new = c.report.new.errors }) in (
      c.serve-ended.result,
      c.exit_status.ensures ∙ ap exit_status c.status-status.ensures,
      c.serve-ended.ensures.run,
      prompt-run (record { holds = g.D.Sink.holds; faults = g.D.Sink.faults; old = c.args.output.now; new = c.serve-ended.new.output })
          (asked_of (option_map (λ all. map string_bytes all.items) c.args.words)) c.serve-ended.result c.serve-ended.ensures.size c.serve-ended.ensures.run,
      subst Written c.status-status.ensures c.report.ensures,
    )
