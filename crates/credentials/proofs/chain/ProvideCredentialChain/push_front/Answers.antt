use Rattle.std.proofs.Common.{List, ◌∷◌, ◌∙◌, ap}
use Rattle.credentials.proofs.chain.ProvideCredentialChain.push_front.Goals as goal

pub returns-in-Ok-clause-ok : goal.returns-in-Ok-clause-ok
returns-in-Ok-clause-ok g c =
    (c.in-Ok.ensures {u = tt}).items ∙ ap (λ (providers : List _). c.args.provider ∷ providers) c.self.view_is

pub returns-in-Err-clause-back : goal.returns-in-Err-clause-back
returns-in-Err-clause-back g c =
    λ i. (((c.in-Err.ensures {u = tt}).items ∙ c.self.view_is) i, (c.in-Err.ensures {u = tt}).value_returned i)
