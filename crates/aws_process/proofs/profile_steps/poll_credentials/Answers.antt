use Rattle.std.proofs.Common.{option_map}
use Rattle.std.specs.String.{string_bytes}
use Rattle.aws_profiles.specs.declared.shared_file.SharedFile.TheVariants.{Credentials}
use Rattle.aws_process.proofs.ProfileLemmas.{config-gives, config-starts, read-begun}
use Rattle.aws_process.proofs.profile_steps.poll_credentials.Goals as goal

pub returns-in-None-clause-kept : goal.returns-in-None-clause-kept
returns-in-None-clause-kept g c = λ started at.
    let v = g.X.HasVariables.variables c.args.ctx.now in
    let h = g.X.HasFiles.home c.args.ctx.now in
    let reads = g.X.HasFiles.reads c.args.ctx.now in
    let answers = g.X.HasCommands.answers c.args.ctx.now in
    let chosen = option_map string_bytes c.args.chosen.now in
    let begun = read-begun v h reads answers chosen (g.X.HasFiles.begun c.args.ctx.now) (g.X.HasCommands.begun c.args.ctx.now)
    Credentials c.args.open_read at in
    c.poll_config.ensures.kept (c.in-None.ensures.kept started at)
    (config-starts v h reads answers chosen (g.X.HasFiles.begun c.args.ctx.now) (g.X.HasCommands.begun c.args.ctx.now) (c.in-None.ensures.none begun))

pub returns-in-None-clause-gives : goal.returns-in-None-clause-gives
returns-in-None-clause-gives g c = λ begun.
    c.in-None.ensures.none begun c.poll_config.result
    (config-gives (g.X.HasVariables.variables c.args.ctx.now) (g.X.HasFiles.home c.args.ctx.now) (g.X.HasFiles.reads c.args.ctx.now)
    (g.X.HasCommands.answers c.args.ctx.now) (option_map string_bytes c.args.chosen.now) c.poll_config.result (c.poll_config.ensures.gives tt))
