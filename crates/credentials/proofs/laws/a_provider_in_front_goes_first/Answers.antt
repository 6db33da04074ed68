use Rattle.credentials.proofs.ChainLaws.{first-or-rest, from-first-or-rest}
use Rattle.credentials.proofs.laws.a_provider_in_front_goes_first.Goals as goal

pub returns : goal.returns
returns g c = λ ctx p providers answer.
    (first-or-rest (λ q a. g.P.ProvideCredential.gives q ctx a) p providers answer, from-first-or-rest (λ q a. g.P.ProvideCredential.gives q ctx a) p providers answer)
