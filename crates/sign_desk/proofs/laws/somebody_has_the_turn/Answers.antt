use Rattle.sequential_signer.proofs.HandOver.{somebody_has_the_turn}
use Rattle.sign_desk.proofs.laws.somebody_has_the_turn.Goals as goal

pub returns : goal.returns
returns g c = somebody_has_the_turn g.row.K.Denot g.row.D.Denot
