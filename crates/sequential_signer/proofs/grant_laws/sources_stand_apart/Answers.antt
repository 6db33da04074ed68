use Rattle.sequential_signer.proofs.GrantSources.{sources_stand_apart}
use Rattle.sequential_signer.proofs.grant_laws.sources_stand_apart.Goals as goal

pub returns : goal.returns
returns g c = sources_stand_apart g.row.K.Denot g.row.D.Denot
