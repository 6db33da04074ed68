use Rattle.std.proofs.Common.{subst}
use Rattle.std.specs.Prelude.{IfOk}
use Rattle.credentials.specs.Context.{Objects}
use Rattle.credentials.specs.Env.{HasVariables}
use Rattle.credentials.proofs.context.Context.env_vars.Goals as goal

pub returns : goal.returns
returns g c =
    subst (λ (objects : Objects _ _ _ _). IfOk c.vars.result (λ vars. HasVariables vars (g.E.Env.variables objects.env)))
    c.self.view_is c.vars.ensures
