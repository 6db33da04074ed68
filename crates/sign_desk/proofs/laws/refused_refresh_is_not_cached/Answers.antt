use Rattle.sequential_signer.proofs.LastHandedOut.{refused_refresh_is_not_cached}
use Rattle.sign_desk.proofs.laws.refused_refresh_is_not_cached.Goals as goal

pub returns : goal.returns
returns g c = refused_refresh_is_not_cached g.row.K.Denot g.row.D.Denot
