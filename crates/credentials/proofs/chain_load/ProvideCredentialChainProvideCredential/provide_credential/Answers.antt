use Rattle.std.proofs.Common.{◌∙◌}
use Rattle.credentials.proofs.ChainLemmas.{first-without-memory}
use Rattle.credentials.proofs.chain_load.ProvideCredentialChainProvideCredential.provide_credential.Goals as goal

pub returns-in_err-provide_credential-in-Some-clause-memory :
    goal.returns-in_err-provide_credential-in-Some-clause-memory
returns-in_err-provide_credential-in-Some-clause-memory g c =
    first-without-memory (λ p a. g.P.ProvideCredential.gives p c.args.ctx.now a) _ _ c.in-Some.first.now
    c.from_residual.result (c.deref.ensures.value ∙ c.self.view_is) c.in-Some.ensures.item.3.0 c.in-Some.ensures.item.3.1
    (c.in_err-provide_credential-in-Some.ensures {u = tt}).memory
