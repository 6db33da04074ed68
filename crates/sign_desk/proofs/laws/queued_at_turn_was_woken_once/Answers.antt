use Rattle.sequential_signer.proofs.WokenOnce.{queued_at_turn_was_woken_once}
use Rattle.sign_desk.proofs.laws.queued_at_turn_was_woken_once.Goals as goal

pub returns : goal.returns
returns g c = queued_at_turn_was_woken_once g.row.K.Denot g.row.D.Denot
