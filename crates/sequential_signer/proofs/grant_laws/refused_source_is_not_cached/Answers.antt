use Rattle.sequential_signer.proofs.GrantSources.{refused_source_is_not_cached}
use Rattle.sequential_signer.proofs.grant_laws.refused_source_is_not_cached.Goals as goal

pub returns : goal.returns
returns g c = refused_source_is_not_cached g.row.K.Denot g.row.D.Denot
