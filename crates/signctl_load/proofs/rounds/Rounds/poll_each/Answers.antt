use Rattle.signctl_load.specs.LoadRound.{poll_event}
use Rattle.signctl_load.proofs.PlayedEvents.{plays_none, plays_next}
use Rattle.signctl_load.proofs.rounds.Rounds.poll_each.Goals as goal

pub loop-call-init : goal.loop-call-init
loop-call-init c = plays_none c.args.self.now

pub loop-call-preserved : goal.loop-call-preserved
loop-call-preserved c =
    plays_next (poll_event c.args.round c.args.seconds) c.args.calls.now c.loop-call.call-index _ _ c.args.self.now c.loop-call.self c.play.new.self
    c.loop-call-test.true c.poll_event.ensures c.loop-call.invariant c.in_ok-play.ensures
