use Rattle.std.proofs.Common.{◌≡◌, ℕ, ◌<◌}
use Rattle.signer_shared.proofs.job_server.JobServer.load.Given as goal

abbrev pub invariant-loop-turn : goal.invariant-loop-turn
invariant-loop-turn g l =
    (l.pass ≡ l.fn.pass)
    × ((t : ℕ) → t < l.turn → ¬ (g.S.Surroundings.meaning l.self.around.now).ready l.job.call l.provider t)
    × (g.S.Surroundings.allows l.history).loads l.provider l.turn
