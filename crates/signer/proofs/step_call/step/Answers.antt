use Rattle.std.proofs.Common.{refl, sym, subst, slice_get}
use Rattle.desk_driver.specs.CallAt.{IsWaiting, service_of}
use Rattle.desk_driver.proofs.Rows.{led-from}
use Rattle.signer.specs.PollContext.{poll_context, IsIssuedFor}
use Rattle.desk_driver.specs.PolledCall.{call_with}
use Rattle.signer.specs.StepOutcome.{StepChange, IsStepOutcome}
use Rattle.signer.specs.declared.sign.SignState.TheVariants.{Waiting}
use Rattle.desk_driver.proofs.ObjectMeanings.{for-service}
use Rattle.signer.proofs.StepOutcomes.{poll-taken}
use Rattle.signer.proofs.step_call.step.Goals as goal

pub poll_call-requires-clause-there : goal.poll_call-requires-clause-there
poll_call-requires-clause-there g c = led-from _ (slice_get c.args.desk.now.handles c.args.begun.now.id.handle) c.requires.there

pub poll_call-requires-clause-waiting : goal.poll_call-requires-clause-waiting
poll_call-requires-clause-waiting g c =
    let d = poll_context g.P.Credential.SigningCredential g.P.ProvideCredential g.S.DeadlineRule g.S.SignRequest c.args.objects.now c.args.begun.now c.args.now in
    for-service (service_of c.args.desk.now c.args.begun.now.id.handle) (IsWaiting c.args.begun.now c.args.desk.now) c.requires.there
    (λ service is. (subst (IsIssuedFor d c.args.desk.now) c.in-Waiting.is c.requires.issued service is).0)

pub returns-in-Waiting : goal.returns-in-Waiting
returns-in-Waiting g c = λ service is.
    let d = poll_context g.P.Credential.SigningCredential g.P.ProvideCredential g.S.DeadlineRule g.S.SignRequest c.args.objects.now c.args.begun.now c.args.now in
    let change : StepChange g.row.P-Credential.Denot g.row.S.Denot = record { old = c.args.desk.now; new = c.poll_call.new.desk; before = c.args.req.now; after = c.args.req.now } in
    let v = call_with d service in
    let issued = subst (IsIssuedFor d c.args.desk.now) c.in-Waiting.is c.requires.issued service is in
    subst (λ s. IsStepOutcome v s change c.after_poll.result) (sym c.in-Waiting.is)
    (subst (IsStepOutcome v (Waiting c.in-Waiting.candidate) change) (sym c.after_poll.ensures)
    (poll-taken v change c.in-Waiting.candidate issued.1 c.poll_call.result issued.0 refl c.poll_call.ensures.step c.poll_call.ensures.memory c.poll_call.ensures.after c.poll_call.ensures.others))

pub returns-in-Loading : goal.returns-in-Loading
returns-in-Loading g c = λ service is.
    let d = poll_context g.P.Credential.SigningCredential g.P.ProvideCredential g.S.DeadlineRule g.S.SignRequest c.args.objects.now c.args.begun.now c.args.now in
    let change : StepChange g.row.P-Credential.Denot g.row.S.Denot = record { old = c.args.desk.now; new = c.step_loading.new.desk; before = c.args.req.now; after = c.args.req.now } in
    subst (λ s. IsStepOutcome (call_with d service) s change c.step_loading.result) (sym c.in-Loading.is) (c.step_loading.ensures c.args.req.now service is)
