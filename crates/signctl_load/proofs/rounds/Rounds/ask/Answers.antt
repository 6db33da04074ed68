use Rattle.std.proofs.lemmas.Result.{on_ok_weaker}
use Rattle.signctl_load.proofs.PlayedEvents.{plays_append}
use Rattle.signctl_load.proofs.rounds.Rounds.ask.Goals as goal

pub returns : goal.returns
returns c = on_ok_weaker c.refresh.result
    (λ later. plays_append _ _ c.args.self.now c.begin_each.new.self c.refresh.new.self c.in_ok-begin_each.ensures
    (plays_append _ _ c.begin_each.new.self c.poll_each.new.self c.refresh.new.self c.in_ok-poll_each.ensures later))
    c.refresh.ensures
