use Rattle.aws_process.specs.CommandLine.{command_in, command_seen}
use Rattle.aws_process.proofs.ProfileLemmas.{refused-gives, run-gives, run-waits}
use Rattle.std.proofs.Common.{inl}
use Rattle.aws_process.proofs.profile_steps.run_line.Goals as goal

pub returns-in-Err-clause-gives : goal.returns-in-Err-clause-gives
returns-in-Err-clause-gives g c =
    refused-gives (g.X.HasCommands.answers c.args.ctx.now) (command_in c.args.place.now c.args.line.now) c.in-Err.error c.failed.result
    c.in-Err.ensures c.failed.ensures.memory c.failed.ensures.other

pub returns-in-Ok-begin-clause-kept : goal.returns-in-Ok-begin-clause-kept
returns-in-Ok-begin-clause-kept g c =
    run-waits (g.X.HasCommands.begun c.args.ctx.now) (command_in c.args.place.now c.args.line.now) (command_seen c.in-Ok.command) c.in-Ok-begin.run'
    c.args.load.now c.poll_run.new.load c.in-Ok.ensures c.in-Ok-begin.ensures c.poll_run.ensures.kept

pub returns-in-Ok-begin-clause-gives : goal.returns-in-Ok-begin-clause-gives
returns-in-Ok-begin-clause-gives g c =
    inl (run-gives (g.X.HasCommands.answers c.args.ctx.now) (command_in c.args.place.now c.args.line.now) (command_seen c.in-Ok.command) c.poll_run.result
    c.in-Ok.ensures (c.poll_run.ensures.gives (command_seen c.in-Ok.command) c.in-Ok-begin.ensures))
