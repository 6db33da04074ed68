use Rattle.sequential_signer.proofs.GrantSources.{last_store_stays}
use Rattle.sequential_signer.proofs.grant_laws.last_store_stays.Goals as goal

pub returns : goal.returns
returns g c = last_store_stays g.row.K.Denot g.row.D.Denot
