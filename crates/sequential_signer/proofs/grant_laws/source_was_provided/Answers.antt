use Rattle.sequential_signer.proofs.GrantSources.{source_was_provided}
use Rattle.sequential_signer.proofs.grant_laws.source_was_provided.Goals as goal

pub returns : goal.returns
returns g c = source_was_provided g.row.K.Denot g.row.D.Denot
