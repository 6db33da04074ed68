use Rattle.std.proofs.Common.{map, take}
use Rattle.signctl_load.specs.LoadRound.{poll_event}
use Rattle.signctl_load.specs.LoadState.{Plays}
use Rattle.signctl_load.proofs.rounds.Rounds.poll_each.Given as goal

abbrev pub invariant-loop-call : goal.invariant-loop-call
invariant-loop-call l = Plays (map (poll_event l.round l.seconds) (take l.call-index l.calls)) l.fn.self l.self
