use Rattle.sequential_signer.proofs.CancelTrace.{cancel_changes_no_cache}
use Rattle.sign_desk.proofs.laws.cancel_changes_no_cache.Goals as goal

pub returns : goal.returns
returns g c = cancel_changes_no_cache g.row.K.Denot g.row.D.Denot
