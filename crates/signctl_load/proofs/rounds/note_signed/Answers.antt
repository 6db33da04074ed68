use Rattle.std.proofs.Common.{◌++◌, ◌∷◌, [], List, sym, ap, ◌∙◌}
use Rattle.std.proofs.lemmas.List.{append-nil}
use Rattle.sign_base.specs.declared.call_id.CallId.{CallId}
use Rattle.signctl_load.proofs.LoadSteps.{signed_calls-one, signed_calls-other}
use Rattle.signctl_load.proofs.rounds.note_signed.Goals as goal

pub returns-then-not-is_sign : goal.returns-then-not-is_sign
returns-then-not-is_sign c = λ event about.
    let signed = c.args.signed.now.items in
    sym
    (ap (λ (v : List CallId). signed ++ v)
    (signed_calls-other (record { event = event; reply = c.args.reply.now }) (sym c.is_sign.ensures ∙ c.if-not-is_sign.true))
    ∙ append-nil signed)

pub returns : goal.returns
returns c = λ event about.
    let signed = c.args.signed.now.items in
    c.in_ok-push.ensures.items
    ∙ ap (λ (call : CallId). signed ++ call ∷ []) (sym about)
    ∙ ap (λ (v : List CallId). signed ++ v)
    (sym (signed_calls-one (record { event = event; reply = c.args.reply.now }) (sym c.is_sign.ensures ∙ c.if-not-is_sign.false)))
