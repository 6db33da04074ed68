use Rattle.std.proofs.lemmas.Result.{on_ok_weaker}
use Rattle.signctl_load.proofs.PlayedEvents.{plays_none, plays-these, plays-made, take_over-none, take_over-more}
use Rattle.signctl_load.proofs.rounds.Rounds.take_over.Goals as goal

pub returns-in_default : goal.returns-in_default
returns-in_default c =
    plays-these _ _ c.args.self.now c.args.self.now (take_over-none c.args.round c.args.calls.now c.in_default.len_below) (plays_none c.args.self.now)

pub returns : goal.returns
returns c = on_ok_weaker c.find.result
    (λ later. plays-made _ _ _ _ c.args.self.now c.play.new.self c.find.new.self
    c.poll_event.ensures (take_over-more c.args.round c.args.calls.now _ c.in-len1-up.len_at_least) c.in_ok-play.ensures later)
    c.find.ensures
