use Rattle.credentials.proofs.ChainLaws.{answers-first}
use Rattle.credentials.proofs.laws.a_chain_answers_its_first_found.Goals as goal

pub returns : goal.returns
returns g c = λ ctx found providers answer only h. answers-first (λ p a. g.P.ProvideCredential.gives p ctx a) found providers answer only h
