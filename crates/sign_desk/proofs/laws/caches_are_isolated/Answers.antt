use Rattle.sequential_signer.proofs.Isolation.{caches_are_isolated}
use Rattle.sign_desk.proofs.laws.caches_are_isolated.Goals as goal

pub returns : goal.returns
returns g c = caches_are_isolated g.row.K.Denot g.row.D.Denot
