use Rattle.std.proofs.Common.{true, ap, sym, ◌∙◌, ◌++◌, ◌∷◌, [], ◌≡◌, subst}
use Rattle.sequential_signer.specs.declared.grant_event.GrantEvent.{GrantEvent}
use Rattle.line_words.proofs.LineWords.{line-with_newline}
use Rattle.signctl_format.specs.declared.credential.ScriptCredential.{ScriptCredential}
use Rattle.signctl_format.specs.declared.item.Item.TheVariants as item
use Rattle.signctl_grant.specs.GrantLines.{grant_reply_line}
use Rattle.signctl_grant.specs.GrantOutput.{answer_to}
use Rattle.signctl_grant.specs.GrantSessionState.{GrantSessionRepresents}
use Rattle.signctl_grant.proofs.NextLine.{as_seen, reply-expected, reply-plain, next-event, not-out_of_memory}
use Rattle.signctl_grant.proofs.grant_session.GrantSession.answer_event.Goals as goal

pub returns : goal.returns
returns c = λ items stands good.
    let here = as_seen _ _ items c.self.view_is stands in
    let event = c.as_event.result.now in
    let expected = reply-expected _ items here event c.step-reply.result (c.step-reply.ensures.step.expected _ here.represents) (not-out_of_memory _ (sym c.is_out_of_memory.ensures ∙ c.if-is_out_of_memory.false)) in
    let line = line-with_newline _ _ _ (grant_reply_line _) (c.in_ok-push_grant_reply.ensures.ok ∙ ap (λ r. c.args.text.now.items ++ grant_reply_line r) (expected ∙ reply-plain _ items here event)) c.in_ok-end_line.ensures in
    let next = next-event _ items here _ event c.step-reply.result c.step-reply.ensures.step.setup (c.step-reply.ensures.step.represents _ here.represents) expected in
    let P : GrantEvent ScriptCredential → Type 0 = λ e. GrantSessionRepresents (record { desk = c.step-reply.new.self; had_event = true }) (items ++ item.Event e ∷ []) × (c.end_line.new.text.items ≡ c.args.text.now.items ++ answer_to items (item.Event e)) in
    subst P c.as_event.ensures (next, line)
