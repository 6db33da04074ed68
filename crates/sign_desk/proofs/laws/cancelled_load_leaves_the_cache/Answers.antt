use Rattle.sequential_signer.proofs.LoadLeavesCache.{cancelled_load_leaves_the_cache}
use Rattle.sign_desk.proofs.laws.cancelled_load_leaves_the_cache.Goals as goal

pub returns : goal.returns
returns g c = cancelled_load_leaves_the_cache g.row.K.Denot g.row.D.Denot
