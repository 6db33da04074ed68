use Rattle.std.proofs.Common.{refl}
use Rattle.aws_process.proofs.profile_steps.poll_config.Goals as goal

pub returns-in-None-clause-gives : goal.returns-in-None-clause-gives
returns-in-None-clause-gives g c = λ begun. c.in-None.ensures.none begun _ refl
