use Rattle.std.proofs.Common.{map, take}
use Rattle.signctl_load.specs.LoadRound.{accepted_event}
use Rattle.signctl_load.specs.LoadState.{Plays}
use Rattle.signctl_load.proofs.rounds.Rounds.accept_each.Given as goal

abbrev pub invariant-loop-call : goal.invariant-loop-call
invariant-loop-call l = Plays (map accepted_event (take l.call-index l.calls)) l.fn.self l.self
