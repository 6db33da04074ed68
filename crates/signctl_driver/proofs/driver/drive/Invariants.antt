use Rattle.std.proofs.Common.{◌≡◌, ◌-◌}
use Rattle.sign_io.specs.Lines.{input_limit}
use Rattle.signctl_driver.proofs.RunState.{streams_of, RunState}
use Rattle.signctl_driver.proofs.driver.drive.Given as goal

-- the lines so far are answered, and no read or write has failed
abbrev pub invariant-lines : goal.invariant-lines
invariant-lines g l = record {
  state : RunState g.C.LineCommand.command g.C.LineCommand.represents
      (streams_of (record { before = g.S.Source.left l.fn.source; now = g.S.Source.left l.source })
      (record { before = g.D.Sink.holds l.fn.sink; now = g.D.Sink.holds l.sink }))
      l.reader l.service;
  reads : g.S.Source.faults l.source ≡ g.S.Source.faults l.fn.source;
  writes : g.D.Sink.faults l.sink ≡ g.D.Sink.faults l.fn.sink;
}

-- each line hands out a byte more, up to the limit
abbrev pub decreases-lines : goal.decreases-lines
decreases-lines g l = input_limit - l.reader.handed
