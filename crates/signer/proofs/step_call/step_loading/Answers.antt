use Rattle.std.proofs.Common.{refl, sym, subst, ap, ◌∙◌}
use Rattle.std.specs.Option.{option_copied}
use Rattle.signer.specs.PollContext.{poll_context}
use Rattle.desk_driver.specs.PolledCall.{call_with}
use Rattle.signer.specs.StepOutcome.{StepChange, IsStepOutcome}
use Rattle.signer.specs.OutcomeByReply.{outcome_after_found}
use Rattle.signer.specs.declared.sign.SignState.TheVariants.{Loading}
use Rattle.desk_driver.proofs.ObjectMeanings.{load-answered}
use Rattle.signer.proofs.StepOutcomes.{load-pending, load-without-memory, found-taken, missing-taken, failed-taken}
use Rattle.signer.proofs.step_call.step_loading.Goals as goal

pub returns-in-Pending : goal.returns-in-Pending
returns-in-Pending g c = λ request service is.
    let d = poll_context g.P.Credential.SigningCredential g.P.ProvideCredential g.S.DeadlineRule g.S.SignRequest c.args.objects.now c.args.begun.now c.args.now in
    let change : StepChange g.row.P-Credential.Denot g.row.S.Denot = record { old = c.args.desk.now; new = c.args.desk.now; before = request; after = request } in
    let v = call_with d service in
    let said = load-answered d service c.args.provider c.unwrap-asked.result.now (sym c.provider_at.ensures ∙ ap option_copied c.unwrap-asked.ensures) c.args.load c.in-Pending.is c.poll_provider.ensures in
    subst (IsStepOutcome v (Loading c.args.candidate c.args.provider c.args.load) change) (sym c.stop.ensures)
    (load-pending v change c.args.candidate (c.requires.issued service is).2 c.args.provider c.args.load refl c.in-Pending.load refl (c.requires.issued service is).0 said.0 said.1)

pub returns-in-OutOfMemory : goal.returns-in-OutOfMemory
returns-in-OutOfMemory g c = λ request service is.
    let d = poll_context g.P.Credential.SigningCredential g.P.ProvideCredential g.S.DeadlineRule g.S.SignRequest c.args.objects.now c.args.begun.now c.args.now in
    let change : StepChange g.row.P-Credential.Denot g.row.S.Denot = record { old = c.args.desk.now; new = c.args.desk.now; before = request; after = request } in
    let v = call_with d service in
    let said = load-answered d service c.args.provider c.unwrap-asked.result.now (sym c.provider_at.ensures ∙ ap option_copied c.unwrap-asked.ensures) c.args.load c.in-OutOfMemory.is c.poll_provider.ensures in
    subst (IsStepOutcome v (Loading c.args.candidate c.args.provider c.args.load) change) (sym c.stop-in-OutOfMemory.ensures)
    (load-without-memory v change c.args.candidate (c.requires.issued service is).2 c.args.provider c.args.load refl c.in-OutOfMemory.load refl (c.requires.issued service is).0 said.0 said.1)

pub returns-in-Found : goal.returns-in-Found
returns-in-Found g c = λ request service is.
    let d = poll_context g.P.Credential.SigningCredential g.P.ProvideCredential g.S.DeadlineRule g.S.SignRequest c.args.objects.now c.args.begun.now c.args.now in
    let change : StepChange g.row.P-Credential.Denot g.row.S.Denot = record { old = c.args.desk.now; new = c.report_found-reply.new.desk; before = request; after = request } in
    let v = call_with d service in
    let said = load-answered d service c.args.provider c.unwrap-asked.result.now (sym c.provider_at.ensures ∙ ap option_copied c.unwrap-asked.ensures) c.args.load c.in-Found.is c.poll_provider.ensures in
    let is_taken = c.after_found.ensures ∙ ap (λ x. outcome_after_found c.args.candidate c.args.provider x c.report_found-reply.result.0) c.report_found-reply.ensures.back in
    subst (IsStepOutcome v (Loading c.args.candidate c.args.provider c.args.load) change) (sym is_taken)
    (found-taken v change c.args.candidate (c.requires.issued service is).2 c.args.provider c.args.load refl c.in-Found.credential c.report_found-reply.result.0 (c.requires.issued service is).0
    said.0 said.1 c.report_found-reply.ensures.step c.report_found-reply.ensures.memory c.report_found-reply.ensures.after c.report_found-reply.ensures.others)

pub returns-in-Missing : goal.returns-in-Missing
returns-in-Missing g c = λ request service is.
    let d = poll_context g.P.Credential.SigningCredential g.P.ProvideCredential g.S.DeadlineRule g.S.SignRequest c.args.objects.now c.args.begun.now c.args.now in
    let change : StepChange g.row.P-Credential.Denot g.row.S.Denot = record { old = c.args.desk.now; new = c.report_missing-reply.new.desk; before = request; after = request } in
    let v = call_with d service in
    let said = load-answered d service c.args.provider c.unwrap-asked.result.now (sym c.provider_at.ensures ∙ ap option_copied c.unwrap-asked.ensures) c.args.load c.in-Missing.is c.poll_provider.ensures in
    subst (IsStepOutcome v (Loading c.args.candidate c.args.provider c.args.load) change) (sym c.after_none.ensures)
    (missing-taken v change c.args.candidate (c.requires.issued service is).2 c.args.provider c.args.load refl c.report_missing-reply.result said.0 said.1 c.report_missing-reply.ensures.step c.report_missing-reply.ensures.after c.report_missing-reply.ensures.others)

pub returns-in-Failed : goal.returns-in-Failed
returns-in-Failed g c = λ request service is.
    let d = poll_context g.P.Credential.SigningCredential g.P.ProvideCredential g.S.DeadlineRule g.S.SignRequest c.args.objects.now c.args.begun.now c.args.now in
    let change : StepChange g.row.P-Credential.Denot g.row.S.Denot = record { old = c.args.desk.now; new = c.report_failed_load-reply.new.desk; before = request; after = request } in
    let v = call_with d service in
    let said = load-answered d service c.args.provider c.unwrap-asked.result.now (sym c.provider_at.ensures ∙ ap option_copied c.unwrap-asked.ensures) c.args.load c.in-Failed.is c.poll_provider.ensures in
    subst (IsStepOutcome v (Loading c.args.candidate c.args.provider c.args.load) change) (sym c.after_none-in-Failed.ensures)
    (failed-taken v change c.args.candidate (c.requires.issued service is).2 c.args.provider c.args.load refl 0 c.in-Failed.e c.report_failed_load-reply.result said.0 said.1 c.report_failed_load-reply.ensures.step c.report_failed_load-reply.ensures.after c.report_failed_load-reply.ensures.others)
