use Rattle.std.proofs.Common.{refl}
use Rattle.std.proofs.lemmas.Result.{on_ok_weaker}
use Rattle.signctl_load.proofs.PlayedEvents.{plays_none, plays-these, plays-made, cancel-none, cancel-more}
use Rattle.signctl_load.proofs.rounds.Rounds.cancel_first.Goals as goal

pub returns-in_default : goal.returns-in_default
returns-in_default c =
    plays-these _ _ c.args.self.now c.args.self.now (cancel-none c.args.round c.args.calls.now c.in_default.len_below) (plays_none c.args.self.now)

pub returns : goal.returns
returns c = on_ok_weaker c.take_over.result
    (λ later. plays-made _ _ _ _ c.args.self.now c.play.new.self c.take_over.new.self
    refl (cancel-more c.args.round c.args.calls.now _ c.in-len1-up.len_at_least) c.in_ok-play.ensures later)
    c.take_over.ensures
