use Rattle.std.proofs.Common.{◌≡◌, refl, sym, subst, ap, ◌∙◌, Some, Option}
use Rattle.std.specs.Option.{option_copied}
use Rattle.granter.specs.PollContext.{poll_context}
use Rattle.desk_driver.specs.PolledCall.{call_with}
use Rattle.desk_driver.specs.CallAt.{service_of}
use Rattle.granter.specs.ObjectAnswer.{IsWorkAnswer}
use Rattle.granter.specs.ObjectPoll.{service_meaning}
use Rattle.granter.specs.StepOutcome.{StepChange, IsStepOutcome}
use Rattle.granter.specs.OutcomeByReply.{flow_after_made}
use Rattle.granter.specs.declared.grant.CallState.TheVariants.{Granting}
use Rattle.granter.proofs.StepOutcomes.{work-pending, work-without-memory, unmade-taken, made-taken}
use Rattle.granter.proofs.step_call.step_granting.Goals as goal

pub returns-in-Pending : goal.returns-in-Pending
returns-in-Pending g c = λ service is.
    let d = poll_context g.P.Credential.SigningCredential g.P.ProvideCredential g.G.DeadlineRule g.G.GrantCredential c.args.objects.now c.args.begun.now c.args.now in
    let change : StepChange g.row.P-Credential.Denot g.row.G.Denot = record { old = c.args.desk.now; new = c.args.desk.now } in
    let v = call_with d service in
    let there : service_of c.args.desk.now c.args.begun.now.id.handle ≡ Some c.unwrap-service.result.now = sym c.rule_of.ensures ∙ ap option_copied c.unwrap-service.ensures in
    let one : c.unwrap-service.result.now ≡ service = let both : (let x : Option g.row.G.Denot = Some c.unwrap-service.result.now in x) ≡ Some service = sym there ∙ is in cc in
    let said = subst (λ s. IsWorkAnswer (service_meaning g.G.GrantCredential s c.args.objects.now.ctx.now c.args.begun.now c.args.source) c.args.work c.poll_service.result) one c.poll_service.ensures in
    let answered = subst (IsWorkAnswer (service_meaning g.G.GrantCredential service c.args.objects.now.ctx.now c.args.begun.now c.args.source) c.args.work) c.in-Pending.is said in
    work-pending v change c.args.source c.args.work c.in-Pending.work refl (c.requires.issued service is).0 answered.0 answered.1

pub returns-in-OutOfMemory : goal.returns-in-OutOfMemory
returns-in-OutOfMemory g c = λ service is.
    let d = poll_context g.P.Credential.SigningCredential g.P.ProvideCredential g.G.DeadlineRule g.G.GrantCredential c.args.objects.now c.args.begun.now c.args.now in
    let change : StepChange g.row.P-Credential.Denot g.row.G.Denot = record { old = c.args.desk.now; new = c.args.desk.now } in
    let v = call_with d service in
    let there : service_of c.args.desk.now c.args.begun.now.id.handle ≡ Some c.unwrap-service.result.now = sym c.rule_of.ensures ∙ ap option_copied c.unwrap-service.ensures in
    let one : c.unwrap-service.result.now ≡ service = let both : (let x : Option g.row.G.Denot = Some c.unwrap-service.result.now in x) ≡ Some service = sym there ∙ is in cc in
    let said = subst (λ s. IsWorkAnswer (service_meaning g.G.GrantCredential s c.args.objects.now.ctx.now c.args.begun.now c.args.source) c.args.work c.poll_service.result) one c.poll_service.ensures in
    let answered = subst (IsWorkAnswer (service_meaning g.G.GrantCredential service c.args.objects.now.ctx.now c.args.begun.now c.args.source) c.args.work) c.in-OutOfMemory.is said in
    work-without-memory v change c.args.source c.args.work c.in-OutOfMemory.work refl (c.requires.issued service is).0 answered.0 answered.1

pub returns-in-Made : goal.returns-in-Made
returns-in-Made g c = λ service is.
    let d = poll_context g.P.Credential.SigningCredential g.P.ProvideCredential g.G.DeadlineRule g.G.GrantCredential c.args.objects.now c.args.begun.now c.args.now in
    let change : StepChange g.row.P-Credential.Denot g.row.G.Denot = record { old = c.args.desk.now; new = c.report_made-reply.new.desk } in
    let v = call_with d service in
    let there : service_of c.args.desk.now c.args.begun.now.id.handle ≡ Some c.unwrap-service.result.now = sym c.rule_of.ensures ∙ ap option_copied c.unwrap-service.ensures in
    let one : c.unwrap-service.result.now ≡ service = let both : (let x : Option g.row.G.Denot = Some c.unwrap-service.result.now in x) ≡ Some service = sym there ∙ is in cc in
    let said = subst (λ s. IsWorkAnswer (service_meaning g.G.GrantCredential s c.args.objects.now.ctx.now c.args.begun.now c.args.source) c.args.work c.poll_service.result) one c.poll_service.ensures in
    let answered = subst (IsWorkAnswer (service_meaning g.G.GrantCredential service c.args.objects.now.ctx.now c.args.begun.now c.args.source) c.args.work) c.in-Made.is said in
    let is_taken = c.after_made.ensures ∙ ap (λ x. flow_after_made c.args.source x c.report_made-reply.result.0) c.report_made-reply.ensures.back in
    subst (IsStepOutcome v (Granting c.args.source c.args.work) change) (sym is_taken)
    (made-taken v change c.args.source c.args.work c.in-Made.credential c.report_made-reply.result.0 (c.requires.issued service is).0 answered.0 answered.1 c.report_made-reply.ensures.step c.report_made-reply.ensures.memory c.report_made-reply.ensures.after c.report_made-reply.ensures.others)

pub returns-in-Failed : goal.returns-in-Failed
returns-in-Failed g c = λ service is.
    let d = poll_context g.P.Credential.SigningCredential g.P.ProvideCredential g.G.DeadlineRule g.G.GrantCredential c.args.objects.now c.args.begun.now c.args.now in
    let change : StepChange g.row.P-Credential.Denot g.row.G.Denot = record { old = c.args.desk.now; new = c.report_failed_grant.new.desk } in
    let v = call_with d service in
    let there : service_of c.args.desk.now c.args.begun.now.id.handle ≡ Some c.unwrap-service.result.now = sym c.rule_of.ensures ∙ ap option_copied c.unwrap-service.ensures in
    let one : c.unwrap-service.result.now ≡ service = let both : (let x : Option g.row.G.Denot = Some c.unwrap-service.result.now in x) ≡ Some service = sym there ∙ is in cc in
    let said = subst (λ s. IsWorkAnswer (service_meaning g.G.GrantCredential s c.args.objects.now.ctx.now c.args.begun.now c.args.source) c.args.work c.poll_service.result) one c.poll_service.ensures in
    let answered = subst (IsWorkAnswer (service_meaning g.G.GrantCredential service c.args.objects.now.ctx.now c.args.begun.now c.args.source) c.args.work) c.in-Failed.is said in
    unmade-taken v change c.args.source c.args.work 0 c.in-Failed.e answered.0 answered.1 c.report_failed_grant.ensures.step c.report_failed_grant.ensures.others
