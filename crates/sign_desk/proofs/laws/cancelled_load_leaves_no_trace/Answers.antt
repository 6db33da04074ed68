use Rattle.sequential_signer.proofs.CancelTrace.{cancelled_load_leaves_no_trace}
use Rattle.sign_desk.proofs.laws.cancelled_load_leaves_no_trace.Goals as goal

pub returns : goal.returns
returns g c = cancelled_load_leaves_no_trace g.row.K.Denot g.row.D.Denot
