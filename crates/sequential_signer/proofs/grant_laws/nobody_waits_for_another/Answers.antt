use Rattle.sequential_signer.proofs.GrantReplies.{nobody_waits_for_another}
use Rattle.sequential_signer.proofs.grant_laws.nobody_waits_for_another.Goals as goal

pub returns : goal.returns
returns g c = nobody_waits_for_another g.row.K.Denot g.row.D.Denot
