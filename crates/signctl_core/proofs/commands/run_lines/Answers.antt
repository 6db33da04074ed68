use Rattle.signctl_core.proofs.NothingRan.{not-started}
use Rattle.signctl_core.proofs.commands.run_lines.Goals as goal

pub returns-in-Err-clause-bytes : goal.returns-in-Err-clause-bytes
returns-in-Err-clause-bytes g c =
    not-started g.C.LineCommand.command g.S.Source.left g.D.Sink.holds g.S.Source.faults g.D.Sink.faults c.args.source.now c.args.sink.now
