use Rattle.std.proofs.Common.{◌++◌, List, sym, ap, ◌∙◌}
use Rattle.sign_base.specs.declared.call_id.CallId.{CallId}
use Rattle.signctl_load.specs.Load.{entries_in_round, transcript_of_rounds}
use Rattle.signctl_load.proofs.LoadSteps.{as_spelled, transcript-none, transcript-more}
use Rattle.signctl_load.proofs.rounds.Rounds.play_all.Goals as goal

pub loop-round-init : goal.loop-round-init
loop-round-init c = λ r. as_spelled _ _ _ (sym (transcript-none c.args.calls)) r

pub loop-round-preserved : goal.loop-round-preserved
loop-round-preserved c = λ r.
    let round = c.loop-round.round in
    let before = transcript_of_rounds c.args.calls round in
    as_spelled _ _ _
    (ap (λ (v : List CallId). before ++ entries_in_round before round v) (c.as_slice.ensures.value ∙ c.in_ok-list.ensures) ∙ sym (transcript-more c.args.calls round))
    (c.in_ok-play_round.ensures before (c.loop-round.invariant r))
