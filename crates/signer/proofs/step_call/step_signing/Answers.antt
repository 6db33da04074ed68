use Rattle.std.proofs.Common.{◌≡◌, refl, sym, subst, ap, ◌∙◌, Some, Option}
use Rattle.std.specs.Option.{option_copied}
use Rattle.signer.specs.PollContext.{poll_context}
use Rattle.desk_driver.specs.PolledCall.{call_with}
use Rattle.signer.specs.ObjectAnswer.{IsWorkAnswer}
use Rattle.signer.specs.ObjectPoll.{service_meaning}
use Rattle.signer.specs.StepOutcome.{StepChange, IsStepOutcome}
use Rattle.desk_driver.specs.CallAt.{service_of}
use Rattle.signer.specs.declared.sign.SignState.TheVariants.{Signing}
use Rattle.signer.proofs.StepOutcomes.{work-pending, work-without-memory, rejected-taken, fails-now}
use Rattle.signer.proofs.step_call.step_signing.Goals as goal

pub returns-in-Pending : goal.returns-in-Pending
returns-in-Pending g c = λ service is.
    let d = poll_context g.P.Credential.SigningCredential g.P.ProvideCredential g.S.DeadlineRule g.S.SignRequest c.args.objects.now c.args.begun.now c.args.now in
    let change : StepChange g.row.P-Credential.Denot g.row.S.Denot = record { old = c.args.desk.now; new = c.args.desk.now; before = c.args.req.now; after = c.args.req.now } in
    let v = call_with d service in
    let there : service_of c.args.desk.now c.args.begun.now.id.handle ≡ Some c.unwrap-service.result.now = sym c.rule_of.ensures ∙ ap option_copied c.unwrap-service.ensures in
    let one : c.unwrap-service.result.now ≡ service = let both : (let x : Option g.row.S.Denot = Some c.unwrap-service.result.now in x) ≡ Some service = sym there ∙ is in cc in
    let said = subst (λ s. IsWorkAnswer (service_meaning g.S.SignRequest s c.args.objects.now.ctx.now c.args.begun.now c.args.credential) c.args.work c.poll_service.result) one c.poll_service.ensures in
    let answered = subst (IsWorkAnswer (service_meaning g.S.SignRequest service c.args.objects.now.ctx.now c.args.begun.now c.args.credential) c.args.work) c.in-Pending.is said in
    subst (IsStepOutcome v (Signing c.args.credential c.args.work) change) (sym c.stop.ensures)
    (work-pending v change c.args.credential c.args.work c.in-Pending.work c.in-Pending.candidate refl refl (c.requires.issued service is).0 answered.0 answered.1 answered.2)

pub returns-in-OutOfMemory : goal.returns-in-OutOfMemory
returns-in-OutOfMemory g c = λ service is.
    let d = poll_context g.P.Credential.SigningCredential g.P.ProvideCredential g.S.DeadlineRule g.S.SignRequest c.args.objects.now c.args.begun.now c.args.now in
    let change : StepChange g.row.P-Credential.Denot g.row.S.Denot = record { old = c.args.desk.now; new = c.args.desk.now; before = c.args.req.now; after = c.args.req.now } in
    let v = call_with d service in
    let there : service_of c.args.desk.now c.args.begun.now.id.handle ≡ Some c.unwrap-service.result.now = sym c.rule_of.ensures ∙ ap option_copied c.unwrap-service.ensures in
    let one : c.unwrap-service.result.now ≡ service = let both : (let x : Option g.row.S.Denot = Some c.unwrap-service.result.now in x) ≡ Some service = sym there ∙ is in cc in
    let said = subst (λ s. IsWorkAnswer (service_meaning g.S.SignRequest s c.args.objects.now.ctx.now c.args.begun.now c.args.credential) c.args.work c.poll_service.result) one c.poll_service.ensures in
    let answered = subst (IsWorkAnswer (service_meaning g.S.SignRequest service c.args.objects.now.ctx.now c.args.begun.now c.args.credential) c.args.work) c.in-OutOfMemory.is said in
    subst (IsStepOutcome v (Signing c.args.credential c.args.work) change) (sym c.stop-in-OutOfMemory.ensures)
    (work-without-memory v change c.args.credential c.args.work c.in-OutOfMemory.work refl refl (c.requires.issued service is).0 answered.0 answered.1)

pub returns-in-Failed : goal.returns-in-Failed
returns-in-Failed g c = λ service is.
    let d = poll_context g.P.Credential.SigningCredential g.P.ProvideCredential g.S.DeadlineRule g.S.SignRequest c.args.objects.now c.args.begun.now c.args.now in
    let change : StepChange g.row.P-Credential.Denot g.row.S.Denot = record { old = c.args.desk.now; new = c.report_failed_sign.new.desk; before = c.args.req.now; after = c.args.req.now } in
    let v = call_with d service in
    let there : service_of c.args.desk.now c.args.begun.now.id.handle ≡ Some c.unwrap-service.result.now = sym c.rule_of.ensures ∙ ap option_copied c.unwrap-service.ensures in
    let one : c.unwrap-service.result.now ≡ service = let both : (let x : Option g.row.S.Denot = Some c.unwrap-service.result.now in x) ≡ Some service = sym there ∙ is in cc in
    let said = subst (λ s. IsWorkAnswer (service_meaning g.S.SignRequest s c.args.objects.now.ctx.now c.args.begun.now c.args.credential) c.args.work c.poll_service.result) one c.poll_service.ensures in
    let answered = subst (IsWorkAnswer (service_meaning g.S.SignRequest service c.args.objects.now.ctx.now c.args.begun.now c.args.credential) c.args.work) c.in-Failed.is said in
    subst (IsStepOutcome v (Signing c.args.credential c.args.work) change) (sym c.refused.ensures)
    (rejected-taken v change c.args.credential c.args.work 0 c.in-Failed.e refl (fails-now (v.meaning.work_gives c.args.credential) c.args.work c.in-Failed.e answered.0 answered.1) c.report_failed_sign.ensures.step c.report_failed_sign.ensures.others)

pub returns-in-Signed : goal.returns-in-Signed
returns-in-Signed g c =
    let said = subst (IsWorkAnswer (service_meaning g.S.SignRequest c.unwrap-service.result.now c.args.objects.now.ctx.now c.args.begun.now c.args.credential) c.args.work) c.in-Signed.is c.poll_service.ensures in
    c.accept.ensures c.args.work said.1
