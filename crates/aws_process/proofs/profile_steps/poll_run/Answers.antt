use Rattle.std.proofs.Common.{inl, inr, refl}
use Rattle.credentials.specs.declared.polled.Polled.TheVariants.{Pending}
use Rattle.aws_process.proofs.ProfileLemmas.{polled-gives}
use Rattle.aws_process.proofs.profile_steps.poll_run.Goals as goal

pub returns-in-Pending-clause-kept : goal.returns-in-Pending-clause-kept
returns-in-Pending-clause-kept g c =
    inr (c.poll_command.new.run, refl, λ program args begun. c.in-Pending.ensures.kept program args begun tt)

pub returns-in-Pending-clause-gives : goal.returns-in-Pending-clause-gives
returns-in-Pending-clause-gives g c = λ command begun.
    polled-gives (g.X.HasCommands.answers c.args.ctx.now) command Pending Pending (c.in-Pending.ensures.gives command.program command.args begun)
    (inl refl)

pub returns-in_default-clause-gives : goal.returns-in_default-clause-gives
returns-in_default-clause-gives g c = λ command begun.
    polled-gives (g.X.HasCommands.answers c.args.ctx.now) command c.poll_command.result c.session_polled.result
    (c.poll_command.ensures.gives command.program command.args begun) c.session_polled.ensures.gives
