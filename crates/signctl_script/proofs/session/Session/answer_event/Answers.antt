use Rattle.std.proofs.Common.{true, ap, sym, ◌∙◌, ◌++◌, ◌∷◌, [], ◌≡◌, subst}
use Rattle.sequential_signer.specs.declared.event.Event.{Event}
use Rattle.line_words.specs.Words.{with_newline}
use Rattle.signctl_format.specs.declared.credential.ScriptCredential.{ScriptCredential}
use Rattle.signctl_format.specs.declared.item.Item.TheVariants as item
use Rattle.signctl_format.specs.Lines.{reply_line}
use Rattle.signctl_script.specs.ScriptOutput.{answer_to}
use Rattle.signctl_script.specs.SessionState.{RepresentsItems}
use Rattle.signctl_script.proofs.NextLine.{as_seen, reply-expected, reply-plain, next-event, not-out_of_memory}
use Rattle.signctl_script.proofs.session.Session.answer_event.Goals as goal

pub returns-clause-answers : goal.returns-clause-answers
returns-clause-answers c = λ items stands good.
    let here = as_seen _ _ items c.self.view_is stands in
    let event = c.into_event.result in
    let expected = reply-expected _ items here event c.step_owned-reply.result (c.step_owned-reply.ensures.step.expected _ here.represents) (not-out_of_memory _ c.in_ok-said.ensures.counts) in
    let line = c.in_ok-said.ensures.line ∙ ap (λ r. c.args.text.now.items ++ with_newline (reply_line r)) (expected ∙ reply-plain _ items here event) in
    let next = next-event _ items here _ event c.step_owned-reply.result c.step_owned-reply.ensures.step.setup (c.step_owned-reply.ensures.step.represents _ here.represents) expected in
    let P : Event ScriptCredential → Type 0 = λ e. RepresentsItems (record { desk = c.step_owned-reply.new.self; had_event = true; version = c.self.inside.version }) (items ++ item.Event e ∷ []) × (c.push_answer-said.new.text.items ≡ c.args.text.now.items ++ answer_to items (item.Event e)) in
    subst P c.into_event.ensures (next, line)
