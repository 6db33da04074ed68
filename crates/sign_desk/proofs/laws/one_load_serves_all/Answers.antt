use Rattle.sequential_signer.proofs.OneLoad.{one_load_serves_all}
use Rattle.sign_desk.proofs.laws.one_load_serves_all.Goals as goal

pub returns : goal.returns
returns g c = one_load_serves_all g.row.K.Denot g.row.D.Denot
