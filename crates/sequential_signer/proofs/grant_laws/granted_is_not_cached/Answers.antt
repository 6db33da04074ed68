use Rattle.sequential_signer.proofs.GrantSources.{granted_is_not_cached}
use Rattle.sequential_signer.proofs.grant_laws.granted_is_not_cached.Goals as goal

pub returns : goal.returns
returns g c = granted_is_not_cached g.row.K.Denot g.row.D.Denot
