use Rattle.std.proofs.Common.{◌++◌, List, map, refl, ap, ◌∙◌}
use Rattle.std.proofs.lemmas.Result.{on_ok_weaker}
use Rattle.std.specs.List.{filter}
use Rattle.sign_base.specs.declared.call_id.CallId.{CallId}
use Rattle.sign_base.specs.Calls.{is_among}
use Rattle.signctl_load.specs.LoadRound.{accepted_event, asking_events}
use Rattle.signctl_load.specs.Load.{entries_after, signed_calls}
use Rattle.signctl_load.proofs.LoadSteps.{alike, round-played}
use Rattle.signctl_load.proofs.rounds.Rounds.play_round.Goals as goal

pub returns : goal.returns
returns c = on_ok_weaker c.accept_each.result (λ accepts. λ entries r.
    let calls = c.args.calls.now in
    let asking = asking_events c.args.round calls in
    let asked = c.in_ok-ask.ensures entries (alike c.args.self.now _ entries refl refl r) in
    let signed = asked.1 ∙ ap (λ (v : List CallId). v ++ signed_calls (entries_after entries asking)) c.clear.ensures.items in
    let accepted = ap (λ (v : List CallId). map accepted_event v)
    (c.as_slice-2.ensures.value ∙ c.in_ok-accepted.ensures ∙ ap (λ (v : List CallId). filter (λ call. is_among call v) calls) c.as_slice.ensures.value) in
    round-played c.accept_each.new.self entries c.args.round calls c.ask.new.self.signed.items _ signed accepted
    (accepts (entries ++ entries_after entries asking) asked.0).0)
    c.accept_each.ensures
