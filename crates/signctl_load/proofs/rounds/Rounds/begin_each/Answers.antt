use Rattle.signctl_load.specs.LoadRound.{begin_event}
use Rattle.signctl_load.proofs.PlayedEvents.{plays_none, plays_next}
use Rattle.signctl_load.proofs.rounds.Rounds.begin_each.Goals as goal

pub loop-call-init : goal.loop-call-init
loop-call-init c = plays_none c.args.self.now

pub loop-call-preserved : goal.loop-call-preserved
loop-call-preserved c =
    plays_next begin_event c.args.calls.now c.loop-call.call-index _ _ c.args.self.now c.loop-call.self c.play.new.self
    c.loop-call-test.true c.in_ok-begin_event.ensures c.loop-call.invariant c.in_ok-play.ensures
