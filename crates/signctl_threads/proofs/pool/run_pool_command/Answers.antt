use Rattle.std.proofs.Common.{ap, ◌∙◌, subst}
use Rattle.signctl_driver.specs.Output.{AppendsPrefix}
use Rattle.signctl_threads.specs.Line.{pool_line}
use Rattle.signctl_threads.proofs.pool.run_pool_command.Goals as goal

pub returns-in-Err-write_all-clause-gives : goal.returns-in-Err-write_all-clause-gives
returns-in-Err-write_all-clause-gives g c = (
  c.in-Ok.settled,
  c.in-Ok.ensures,
  subst (λ text. AppendsPrefix (g.D.Sink.holds c.args.sink.now) (g.D.Sink.holds c.write_all.new.sink) text)
      (c.as_slice-2.ensures.value ∙ c.in-Ok-pool_line.ensures ∙ ap (pool_line c.args.jobs) c.as_slice.ensures.value)
      c.in-Err-write_all.ensures.err,
)
