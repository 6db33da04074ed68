use Rattle.std.proofs.Common.{◌∙◌, subst}
use Rattle.signctl_driver.specs.Output.{AppendsPrefix}
use Rattle.signctl_threads.proofs.QueueRuns.{line_of_books}
use Rattle.signctl_threads.proofs.queue.run_queue_command.Goals as goal

pub returns-in-Err-write_all-clause-gives : goal.returns-in-Err-write_all-clause-gives
returns-in-Err-write_all-clause-gives g c = (
  c.in-Ok.finished,
  c.in-Ok.ensures,
  subst (λ text. AppendsPrefix (g.D.Sink.holds c.args.sink.now) (g.D.Sink.holds c.write_all.new.sink) text)
      (c.as_slice.ensures.value ∙ c.in-Ok-books_line.ensures
      ∙ line_of_books (g.G.Gate.meaning c.args.gate.now) c.args.workers c.args.jobs c.in-Ok.finished c.in-Ok.ensures)
      c.in-Err-write_all.ensures.err,
)
