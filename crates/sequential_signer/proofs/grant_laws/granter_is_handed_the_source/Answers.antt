use Rattle.sequential_signer.proofs.GrantHandsOut.{granter_is_handed_the_source}
use Rattle.sequential_signer.proofs.grant_laws.granter_is_handed_the_source.Goals as goal

pub returns : goal.returns
returns g c = granter_is_handed_the_source g.row.K.Denot g.row.D.Denot
