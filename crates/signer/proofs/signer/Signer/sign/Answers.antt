use Rattle.std.proofs.Common.{◌<◌, ◌+◌, length, sym, ap, subst}
use Rattle.sign_base.specs.declared.call_id.CallId.{CallId}
use Rattle.sequential_signer.specs.Policy.{policy_for}
use Rattle.desk_driver.proofs.CallNumbers.{above-at}
use Rattle.signer.specs.SignerCalls.{Begins}
use Rattle.signer.specs.SignerInvariant.{SignerState}
use Rattle.signer.specs.SignerObjects.{meanings_of}
use Rattle.signer.specs.declared.sign.SignState.TheVariants.{Waiting}
use Rattle.signer.specs.SignerView.{signer_view}
use Rattle.signer.proofs.SignerBegins.{signer-begun, begins}
use Rattle.signer.proofs.signer.Signer.sign.Goals as goal

pub begin_request-requires-clause-above : goal.begin_request-requires-clause-above
begin_request-requires-clause-above g c = above-at c.self.inside.begun c.self.inside.desk.greatest c.args.handle c.self.invariant.numbers

pub invariant_of-self-2 : goal.invariant_of-self-2
invariant_of-self-2 g c =
    let m = meanings_of g.P.ProvideCredential g.S.SignRequest in
    signer-begun m (signer_view c.self.inside) c.self.invariant c.in_ok-call.call.0 c.begin_request.new.desk c.in_ok-call.ensures.begun (ap (λ (x : CallId). x.number) c.in_ok-call.ensures.named.0)

pub returns-clause-ok : goal.returns-clause-ok
returns-clause-ok g c =
    let m = meanings_of g.P.ProvideCredential g.S.SignRequest in
    let policy = policy_for g.P.Credential.SigningCredential g.S.DeadlineRule in
    let s = signer_view c.self.inside in
    let desk = c.begin_request.new.desk in
    let call = c.in_ok-call.call in
    let said = c.in_ok-call.ensures in
    let handle = ap (λ (x : CallId). x.handle) said.named.0 in
    let there : c.args.handle < length s.desk.handles = subst (λ (x : SignerState g.row.P.Denot g.row.S.Denot g.row.P-Credential.Denot g.row.P-Ctx.Denot). c.args.handle < length x.desk.handles) (sym c.self.view_is) c.requires in (
      handle,
      said.named.1,
      subst (λ (x : SignerState g.row.P.Denot g.row.S.Denot g.row.P-Credential.Denot g.row.P-Ctx.Denot). Begins m policy (record { old = x; new = record s { desk = desk; begun = s.begun + 1 } }) c.args.req.now (record { begun = call.0; state = Waiting call.1 })) c.self.view_is
          (begins m s c.self.invariant call.0 desk said.begun policy call.1 said.head.1 (subst (λ h. h < length s.desk.handles) (sym handle) there) (ap (λ (x : CallId). x.number) said.named.0) c.args.req.now said.head.0 said.step),
    )
