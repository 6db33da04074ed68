use Rattle.std.proofs.Common.{option_map}
use Rattle.std.specs.String.{string_bytes}
use Rattle.credentials.specs.Polled.{polled_map}
use Rattle.aws_profiles.specs.Profiles.{path_of, profile_of, found_in_file}
use Rattle.aws_profiles.proofs.ReadLemmas.{file-gives}
use Rattle.aws_profiles.proofs.profile_load.poll_file.Goals as goal

pub returns-in-Some-clause-gives : goal.returns-in-Some-clause-gives
returns-in-Some-clause-gives g c = λ begun.
    file-gives (g.X.HasFiles.reads c.args.ctx.now) (path_of c.args.file (g.X.HasVariables.variables c.args.ctx.now) (g.X.HasFiles.home c.args.ctx.now))
    (found_in_file c.args.file (profile_of (option_map string_bytes c.args.chosen.now) (g.X.HasVariables.variables c.args.ctx.now)))
    (polled_map (λ v. v.items) c.in-Some.bytes) c.answer.result (c.in-Some.ensures.gives begun) c.answer.ensures.gives
