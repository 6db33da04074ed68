use Rattle.std.proofs.Common.{map, take}
use Rattle.signctl_load.specs.LoadRound.{begin_event}
use Rattle.signctl_load.specs.LoadState.{Plays}
use Rattle.signctl_load.proofs.rounds.Rounds.begin_each.Given as goal

abbrev pub invariant-loop-call : goal.invariant-loop-call
invariant-loop-call l = Plays (map begin_event (take l.call-index l.calls)) l.fn.self l.self
