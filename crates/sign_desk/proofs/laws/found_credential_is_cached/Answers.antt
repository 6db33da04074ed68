use Rattle.sequential_signer.proofs.LastHandedOut.{found_credential_is_cached}
use Rattle.sign_desk.proofs.laws.found_credential_is_cached.Goals as goal

pub returns : goal.returns
returns g c = found_credential_is_cached g.row.K.Denot g.row.D.Denot
