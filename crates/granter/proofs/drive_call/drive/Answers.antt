use Rattle.std.proofs.Common.{sym, subst}
use Rattle.granter.specs.PollContext.{poll_context, IsDrivenFrom}
use Rattle.granter.proofs.CourseOfSteps.{PollPlace}
use Rattle.granter.proofs.PollInvariant.{invariant-start, issued-here, invariant-on, invariant-fewer, invariant-end}
use Rattle.granter.proofs.drive_call.drive.Goals as goal

pub loop-next-init : goal.loop-next-init
loop-next-init g c =
    let d = poll_context g.P.Credential.SigningCredential g.P.ProvideCredential g.G.DeadlineRule g.G.GrantCredential c.args.objects.now c.args.grant.begun c.args.now in
    let start : PollPlace g.row.P-Credential.Denot g.row.G.Denot g.row.P-Load.Denot g.row.G-Work.Denot = record { state = c.args.grant.state; desk = c.args.desk.now } in
    invariant-start d start c.requires.issued

pub step-requires-clause-issued : goal.step-requires-clause-issued
step-requires-clause-issued g c =
    let d = poll_context g.P.Credential.SigningCredential g.P.ProvideCredential g.G.DeadlineRule g.G.GrantCredential c.args.objects.now c.args.grant.begun c.args.now in
    let start : PollPlace g.row.P-Credential.Denot g.row.G.Denot g.row.P-Load.Denot g.row.G-Work.Denot = record { state = c.args.grant.state; desk = c.args.desk.now } in
    let place : PollPlace g.row.P-Credential.Denot g.row.G.Denot g.row.P-Load.Denot g.row.G-Work.Denot = record { state = c.loop-next.state; desk = c.loop-next.desk } in
    issued-here d start place c.loop-next.invariant c.requires.there

pub loop-next-smaller : goal.loop-next-smaller
loop-next-smaller g c =
    let d = poll_context g.P.Credential.SigningCredential g.P.ProvideCredential g.G.DeadlineRule g.G.GrantCredential c.args.objects.now c.args.grant.begun c.args.now in
    let start : PollPlace g.row.P-Credential.Denot g.row.G.Denot g.row.P-Load.Denot g.row.G-Work.Denot = record { state = c.args.grant.state; desk = c.args.desk.now } in
    let place : PollPlace g.row.P-Credential.Denot g.row.G.Denot g.row.P-Load.Denot g.row.G-Work.Denot = record { state = c.loop-next.state; desk = c.loop-next.desk } in
    invariant-fewer d start place c.loop-next.invariant c.requires.there c.step.new.desk c.requires.loads c.step.result c.in-Continue.next c.in-Continue.is c.step.ensures

pub loop-next-preserved : goal.loop-next-preserved
loop-next-preserved g c =
    let d = poll_context g.P.Credential.SigningCredential g.P.ProvideCredential g.G.DeadlineRule g.G.GrantCredential c.args.objects.now c.args.grant.begun c.args.now in
    let start : PollPlace g.row.P-Credential.Denot g.row.G.Denot g.row.P-Load.Denot g.row.G-Work.Denot = record { state = c.args.grant.state; desk = c.args.desk.now } in
    let place : PollPlace g.row.P-Credential.Denot g.row.G.Denot g.row.P-Load.Denot g.row.G-Work.Denot = record { state = c.loop-next.state; desk = c.loop-next.desk } in
    invariant-on d start place c.loop-next.invariant c.requires.there c.step.new.desk c.step.result c.in-Continue.next c.in-Continue.is c.step.ensures

pub returns-in-Stop : goal.returns-in-Stop
returns-in-Stop g c =
    let d = poll_context g.P.Credential.SigningCredential g.P.ProvideCredential g.G.DeadlineRule g.G.GrantCredential c.args.objects.now c.args.grant.begun c.args.now in
    let start : PollPlace g.row.P-Credential.Denot g.row.G.Denot g.row.P-Load.Denot g.row.G-Work.Denot = record { state = c.args.grant.state; desk = c.args.desk.now } in
    let place : PollPlace g.row.P-Credential.Denot g.row.G.Denot g.row.P-Load.Denot g.row.G-Work.Denot = record { state = c.loop-next.state; desk = c.loop-next.desk } in
    subst (λ a. IsDrivenFrom d c.args.grant.state c.args.desk.now c.step.new.desk a) (sym c.answer_of.ensures)
    (invariant-end d start place c.loop-next.invariant c.requires.there c.step.new.desk c.step.result c.in-Stop.end c.in-Stop.is c.step.ensures)
