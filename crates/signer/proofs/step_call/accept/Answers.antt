use Rattle.std.proofs.Common.{◌≡◌, ◌⊎◌, inl, inr, refl, sym, subst, ap, ◌∙◌, IfSome, None}
use Rattle.sign_base.specs.Error.{ErrorParts}
use Rattle.sign_base.specs.declared.error_kind.ErrorKind.TheVariants as kind
use Rattle.sign_base.specs.declared.head.Head.{Head}
use Rattle.sign_request.specs.Refusal.{IsOutOfMemory}
use Rattle.desk_driver.specs.CallAt.{IsSigning, service_of}
use Rattle.signer.specs.PollContext.{poll_context}
use Rattle.desk_driver.specs.PolledCall.{call_with}
use Rattle.signer.specs.StepOutcome.{StepChange, IsStepOutcome}
use Rattle.signer.specs.Target.{IsKept}
use Rattle.signer.specs.declared.sign.SignState.TheVariants.{Signing}
use Rattle.signer.specs.declared.sign.WorkState.TheVariants as work
use Rattle.signer.specs.declared.step_outcome.StepEnd.TheVariants.{OutOfMemory}
use Rattle.signer.specs.declared.step_outcome.StepFlow.TheVariants.{Stop}
use Rattle.desk_driver.proofs.ObjectMeanings.{for-service}
use Rattle.signer.proofs.StepOutcomes.{crossing-without-memory, accepted-without-memory, rejected-taken, done-taken, fails-by-target}
use Rattle.signer.proofs.step_call.accept.Goals as goal

-- an error of another kind is a refusal
refused-as : {R : Type 0} (e : ErrorParts) → (e.kind ≡ kind.OutOfMemory → ⊥) → IsOutOfMemory e ⊎ R → R
refused-as e apart (inl o) = absurd (apart (ap (λ (x : ErrorParts). x.kind) o))
refused-as e apart (inr r) = r

pub commit_signed_head-requires-clause-signing : goal.commit_signed_head-requires-clause-signing
commit_signed_head-requires-clause-signing g c = for-service (service_of c.args.desk.now c.args.begun.now.id.handle) (IsSigning c.args.begun.now c.args.desk.now) c.requires.there (λ service is. (c.requires.issued service is).0)

pub report_failed_sign-requires-clause-signing : goal.report_failed_sign-requires-clause-signing
report_failed_sign-requires-clause-signing g c = for-service (service_of c.args.desk.now c.args.begun.now.id.handle) (IsSigning c.args.begun.now c.args.desk.now) c.requires.there (λ service is. (c.requires.issued service is).0)

pub returns-in-None : goal.returns-in-None
returns-in-None g c = λ w keeps service is.
    let d = poll_context g.P.Credential.SigningCredential g.P.ProvideCredential g.S.DeadlineRule g.S.SignRequest c.args.objects.now c.args.begun.now c.args._now in
    let change : StepChange g.row.P-Credential.Denot g.row.S.Denot = record { old = c.args.desk.now; new = c.commit_signed_head.new.desk; before = c.args.req.now; after = c.commit_signed_head.new.req } in
    let v = call_with d service in
    let handed = c.commit_signed_head.ensures.done c.in-None.is in
    subst (IsStepOutcome v (Signing c.args.credential w) change) (sym c.stop.ensures)
    (done-taken v change c.args.credential w c.args.candidate (c.requires.issued service is).1 keeps handed.head handed.commits c.in-Ok.ensures.accepted handed.step c.commit_signed_head.ensures.others)

pub returns-in-Some : goal.returns-in-Some
returns-in-Some g c = λ w keeps service is.
    let d = poll_context g.P.Credential.SigningCredential g.P.ProvideCredential g.S.DeadlineRule g.S.SignRequest c.args.objects.now c.args.begun.now c.args._now in
    let change : StepChange g.row.P-Credential.Denot g.row.S.Denot = record { old = c.args.desk.now; new = c.commit_signed_head.new.desk; before = c.args.req.now; after = c.commit_signed_head.new.req } in
    let v = call_with d service in
    let kept : IsKept d.policy c.args.begun.now c.args.candidate c.in-Some.candidate change = subst (λ o. IfSome o (λ (head : Head). IsKept d.policy c.args.begun.now c.args.candidate head change)) c.in-Some.is c.commit_signed_head.ensures.kept in
    subst (IsStepOutcome v (Signing c.args.credential w) change) (sym c.keep.ensures)
    (subst (λ (head : Head). IsStepOutcome v (Signing c.args.credential w) change (record { flow = Stop (OutOfMemory (Signing c.args.credential (work.Signed head))); wake = None })) (sym kept.back)
    (accepted-without-memory v change c.args.credential w c.args.candidate (c.requires.issued service is).1 keeps kept.request kept.signing kept.step c.commit_signed_head.ensures.others))

pub returns-in-OutOfMemory : goal.returns-in-OutOfMemory
returns-in-OutOfMemory g c = λ w keeps service is.
    let d = poll_context g.P.Credential.SigningCredential g.P.ProvideCredential g.S.DeadlineRule g.S.SignRequest c.args.objects.now c.args.begun.now c.args._now in
    let change : StepChange g.row.P-Credential.Denot g.row.S.Denot = record { old = c.args.desk.now; new = c.args.desk.now; before = c.args.req.now; after = c.args.req.now } in
    let v = call_with d service in
    subst (IsStepOutcome v (Signing c.args.credential w) change) (sym c.keep-in-OutOfMemory.ensures)
    (crossing-without-memory v change c.args.credential w c.args.candidate (c.requires.issued service is).1 keeps refl refl (c.requires.issued service is).0)

pub returns-in_default : goal.returns-in_default
returns-in_default g c = λ w keeps service is.
    let d = poll_context g.P.Credential.SigningCredential g.P.ProvideCredential g.S.DeadlineRule g.S.SignRequest c.args.objects.now c.args.begun.now c.args._now in
    let change : StepChange g.row.P-Credential.Denot g.row.S.Denot = record { old = c.args.desk.now; new = c.report_failed_sign.new.desk; before = c.args.req.now; after = c.args.req.now } in
    let v = call_with d service in
    subst (IsStepOutcome v (Signing c.args.credential w) change) (sym c.refused.ensures)
    (rejected-taken v change c.args.credential w 0 c.in-Err.e refl (fails-by-target (v.meaning.work_gives c.args.credential) w c.args.candidate c.in-Err.e (c.requires.issued service is).1 keeps (refused-as c.in-Err.e (λ k. c.in_default.not-OutOfMemory (c.kind.ensures ∙ k)) c.in-Err.ensures.err)) c.report_failed_sign.ensures.step c.report_failed_sign.ensures.others)
