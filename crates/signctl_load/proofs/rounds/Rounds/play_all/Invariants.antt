use Rattle.std.proofs.Common.{[]}
use Rattle.signctl_load.specs.Load.{transcript_of_rounds}
use Rattle.signctl_load.specs.LoadState.{RoundsRepresent}
use Rattle.signctl_load.proofs.rounds.Rounds.play_all.Given as goal

-- the rounds so far were played
abbrev pub invariant-loop-round : goal.invariant-loop-round
invariant-loop-round l = RoundsRepresent l.fn.self [] → RoundsRepresent l.self (transcript_of_rounds l.calls l.round)
