use Rattle.sequential_signer.proofs.HandOver.{one_call_loads}
use Rattle.sign_desk.proofs.laws.one_call_loads.Goals as goal

pub returns : goal.returns
returns g c = one_call_loads g.row.K.Denot g.row.D.Denot
