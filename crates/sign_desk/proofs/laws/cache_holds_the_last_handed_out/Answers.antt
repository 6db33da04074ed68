use Rattle.sequential_signer.proofs.LastHandedOut.{cache_holds_the_last_handed_out}
use Rattle.sign_desk.proofs.laws.cache_holds_the_last_handed_out.Goals as goal

pub returns : goal.returns
returns g c = cache_holds_the_last_handed_out g.row.K.Denot g.row.D.Denot
