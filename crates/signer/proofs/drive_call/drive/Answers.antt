use Rattle.std.proofs.Common.{◌<◌, sym, subst, ap, ◌∙◌}
use Rattle.desk_driver.specs.ProviderList.{loader_for}
use Rattle.signer.proofs.PollEnds.{steps_left}
use Rattle.signer.specs.PollContext.{poll_context, IsDrivenFrom}
use Rattle.signer.specs.StepOutcome.{answer_by}
use Rattle.signer.proofs.CourseOfSteps.{PollPlace}
use Rattle.signer.proofs.PollInvariant.{PollInvariant, PollStart, invariant-start, issued-here, invariant-on, invariant-fewer, invariant-end}
use Rattle.signer.proofs.drive_call.drive.Goals as goal

pub loop-next-init : goal.loop-next-init
loop-next-init g c =
    let d = poll_context g.P.Credential.SigningCredential g.P.ProvideCredential g.S.DeadlineRule g.S.SignRequest c.args.objects.now c.args.sign.begun c.args.now in
    let start : PollStart g.row.P-Credential.Denot g.row.S.Denot g.row.P-Load.Denot g.row.S-Work.Denot = record { state = c.args.sign.state; desk = c.args.desk.now; request = c.args.req.now } in
    invariant-start d start c.requires.issued

pub step-taken-requires-clause-issued : goal.step-taken-requires-clause-issued
step-taken-requires-clause-issued g c =
    let d = poll_context g.P.Credential.SigningCredential g.P.ProvideCredential g.S.DeadlineRule g.S.SignRequest c.args.objects.now c.args.sign.begun c.args.now in
    let start : PollStart g.row.P-Credential.Denot g.row.S.Denot g.row.P-Load.Denot g.row.S-Work.Denot = record { state = c.args.sign.state; desk = c.args.desk.now; request = c.args.req.now } in
    let place : PollPlace g.row.P-Credential.Denot g.row.S.Denot g.row.P-Load.Denot g.row.S-Work.Denot = record { state = c.loop-next.state; desk = c.loop-next.desk; wake = c.loop-next.wake } in
    issued-here d start place c.loop-next.req c.loop-next.invariant c.requires.there

pub loop-next-smaller : goal.loop-next-smaller
loop-next-smaller g c =
    let d = poll_context g.P.Credential.SigningCredential g.P.ProvideCredential g.S.DeadlineRule g.S.SignRequest c.args.objects.now c.args.sign.begun c.args.now in
    let start : PollStart g.row.P-Credential.Denot g.row.S.Denot g.row.P-Load.Denot g.row.S-Work.Denot = record { state = c.args.sign.state; desk = c.args.desk.now; request = c.args.req.now } in
    let place : PollPlace g.row.P-Credential.Denot g.row.S.Denot g.row.P-Load.Denot g.row.S-Work.Denot = record { state = c.loop-next.state; desk = c.loop-next.desk; wake = c.loop-next.wake } in
    subst (λ s. steps_left (loader_for c.args.objects.now.providers.now) s < steps_left (loader_for c.args.objects.now.providers.now) c.loop-next.state) (sym c.in-Continue.next-is)
    (invariant-fewer d start place c.loop-next.req c.loop-next.invariant c.requires.there c.step-taken.new.desk c.step-taken.new.req c.requires.loads c.step-taken.result c.in-Continue.next c.in-Continue.is c.step-taken.ensures)

pub loop-next-preserved : goal.loop-next-preserved
loop-next-preserved g c =
    let d = poll_context g.P.Credential.SigningCredential g.P.ProvideCredential g.S.DeadlineRule g.S.SignRequest c.args.objects.now c.args.sign.begun c.args.now in
    let start : PollStart g.row.P-Credential.Denot g.row.S.Denot g.row.P-Load.Denot g.row.S-Work.Denot = record { state = c.args.sign.state; desk = c.args.desk.now; request = c.args.req.now } in
    let place : PollPlace g.row.P-Credential.Denot g.row.S.Denot g.row.P-Load.Denot g.row.S-Work.Denot = record { state = c.loop-next.state; desk = c.loop-next.desk; wake = c.loop-next.wake } in
    subst (λ n. PollInvariant d start (record { state = n; desk = c.step-taken.new.desk; wake = c.or-wake.result }) c.step-taken.new.req) (sym c.in-Continue.next-is)
    (subst (λ w. PollInvariant d start (record { state = c.in-Continue.next; desk = c.step-taken.new.desk; wake = w }) c.step-taken.new.req) (sym c.or-wake.ensures)
    (invariant-on d start place c.loop-next.req c.loop-next.invariant c.requires.there c.step-taken.new.desk c.step-taken.new.req c.step-taken.result c.in-Continue.next c.in-Continue.is c.step-taken.ensures))

pub returns-in-Stop : goal.returns-in-Stop
returns-in-Stop g c =
    let d = poll_context g.P.Credential.SigningCredential g.P.ProvideCredential g.S.DeadlineRule g.S.SignRequest c.args.objects.now c.args.sign.begun c.args.now in
    let start : PollStart g.row.P-Credential.Denot g.row.S.Denot g.row.P-Load.Denot g.row.S-Work.Denot = record { state = c.args.sign.state; desk = c.args.desk.now; request = c.args.req.now } in
    let place : PollPlace g.row.P-Credential.Denot g.row.S.Denot g.row.P-Load.Denot g.row.S-Work.Denot = record { state = c.loop-next.state; desk = c.loop-next.desk; wake = c.loop-next.wake } in
    subst (λ a. IsDrivenFrom d c.args.sign.state c.args.desk.now c.step-taken.new.desk (record { poll = record { answer = a; wake = c.or-wake.result }; before = c.args.req.now; after = c.step-taken.new.req })) (sym (c.answer_of.ensures ∙ ap (answer_by c.args.sign.begun) c.in-Stop.end-is))
    (subst (λ w. IsDrivenFrom d c.args.sign.state c.args.desk.now c.step-taken.new.desk (record { poll = record { answer = answer_by c.args.sign.begun c.in-Stop.end; wake = w }; before = c.args.req.now; after = c.step-taken.new.req })) (sym c.or-wake.ensures)
    (invariant-end d start place c.loop-next.req c.loop-next.invariant c.requires.there c.step-taken.new.desk c.step-taken.new.req c.step-taken.result c.in-Stop.end c.in-Stop.is c.step-taken.ensures))
