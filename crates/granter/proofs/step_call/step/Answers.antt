use Rattle.std.proofs.Common.{sym, subst, slice_get}
use Rattle.desk_driver.proofs.Rows.{led-from}
use Rattle.granter.specs.DeskReplies.{IsUnpolled}
use Rattle.granter.specs.PollContext.{poll_context, IsIssuedFor}
use Rattle.desk_driver.specs.PolledCall.{call_with}
use Rattle.desk_driver.specs.CallAt.{service_of}
use Rattle.granter.specs.StepOutcome.{StepChange, IsStepOutcome}
use Rattle.granter.specs.declared.grant.CallState.TheVariants.{Waiting}
use Rattle.desk_driver.proofs.ObjectMeanings.{for-service}
use Rattle.granter.proofs.StepOutcomes.{poll-taken}
use Rattle.granter.proofs.step_call.step.Goals as goal

pub poll_call-requires-clause-there : goal.poll_call-requires-clause-there
poll_call-requires-clause-there g c = led-from _ (slice_get c.args.desk.now.handles c.args.begun.now.id.handle) c.requires.there

pub poll_call-requires-clause-unpolled : goal.poll_call-requires-clause-unpolled
poll_call-requires-clause-unpolled g c =
    let d = poll_context g.P.Credential.SigningCredential g.P.ProvideCredential g.G.DeadlineRule g.G.GrantCredential c.args.objects.now c.args.begun.now c.args.now in
    for-service (service_of c.args.desk.now c.args.begun.now.id.handle) (IsUnpolled c.args.begun.now c.args.desk.now) c.requires.there
    (λ service is. subst (IsIssuedFor d c.args.desk.now) c.in-Waiting.is c.requires.issued service is)

pub returns-in-Waiting : goal.returns-in-Waiting
returns-in-Waiting g c = λ service is.
    let d = poll_context g.P.Credential.SigningCredential g.P.ProvideCredential g.G.DeadlineRule g.G.GrantCredential c.args.objects.now c.args.begun.now c.args.now in
    let change : StepChange g.row.P-Credential.Denot g.row.G.Denot = record { old = c.args.desk.now; new = c.poll_call.new.desk } in
    let v = call_with d service in
    subst (λ s. IsStepOutcome v s change c.after_poll.result) (sym c.in-Waiting.is)
    (subst (IsStepOutcome v Waiting change) (sym c.after_poll.ensures)
    (poll-taken v change c.poll_call.result (subst (IsIssuedFor d c.args.desk.now) c.in-Waiting.is c.requires.issued service is) c.poll_call.ensures.step c.poll_call.ensures.memory c.poll_call.ensures.after c.poll_call.ensures.others))
