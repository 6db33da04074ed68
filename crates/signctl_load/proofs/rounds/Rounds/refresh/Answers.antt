use Rattle.std.proofs.Common.{◌≡◌, [], rules}
use Rattle.signctl_load.specs.LoadRound.{refresh_events}
use Rattle.signctl_load.proofs.PlayedEvents.{plays_none, plays-these}
use Rattle.signctl_load.proofs.rounds.Rounds.refresh.Goals as goal

pub returns-in_default : goal.returns-in_default
returns-in_default c =
    let none : refresh_events c.args.round c.args.calls.now ≡ [] = search rules in
    plays-these [] _ c.args.self.now c.args.self.now none (plays_none c.args.self.now)
