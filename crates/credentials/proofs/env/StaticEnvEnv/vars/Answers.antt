use Rattle.credentials.proofs.Variables.{clone-lookup}
use Rattle.credentials.proofs.env.StaticEnvEnv.vars.Goals as goal

pub returns : goal.returns
returns c = λ name. clone-lookup _ _ name c.in_ok-clone.ensures.cases
