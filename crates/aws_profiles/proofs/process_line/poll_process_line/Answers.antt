use Rattle.std.proofs.Common.{option_map}
use Rattle.std.specs.String.{string_bytes}
use Rattle.credentials.specs.Polled.{polled_map}
use Rattle.aws_profiles.proofs.ReadLemmas.{line-gives, no_line-gives}
use Rattle.aws_profiles.proofs.process_line.poll_process_line.Goals as goal

pub returns-in-Some-clause-gives : goal.returns-in-Some-clause-gives
returns-in-Some-clause-gives g c = λ begun.
    line-gives (g.X.HasVariables.variables c.args.ctx.now) (g.X.HasFiles.home c.args.ctx.now) (g.X.HasFiles.reads c.args.ctx.now)
    (option_map string_bytes c.args.chosen.now) c.args.file (option_map string_bytes) (polled_map (λ v. v.items) c.in-Some.bytes)
    c.line_answered.result (c.in-Some.ensures.gives begun) c.line_answered.ensures.gives

pub returns-in-None-clause-gives : goal.returns-in-None-clause-gives
returns-in-None-clause-gives g c = λ begun.
    no_line-gives (g.X.HasVariables.variables c.args.ctx.now) (g.X.HasFiles.home c.args.ctx.now) (g.X.HasFiles.reads c.args.ctx.now)
    (option_map string_bytes c.args.chosen.now) c.args.file (c.in-None.ensures.gives begun)
