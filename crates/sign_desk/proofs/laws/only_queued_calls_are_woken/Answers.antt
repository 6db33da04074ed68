use Rattle.sequential_signer.proofs.WokenOnce.{only_queued_calls_are_woken}
use Rattle.sign_desk.proofs.laws.only_queued_calls_are_woken.Goals as goal

pub returns : goal.returns
returns g c = only_queued_calls_are_woken g.row.K.Denot g.row.D.Denot
