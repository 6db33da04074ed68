use Rattle.std.proofs.Common.{◌<◌, ◌+◌, length, refl, sym, subst}
use Rattle.sequential_signer.specs.Policy.{policy_for}
use Rattle.desk_driver.proofs.CallNumbers.{above-at}
use Rattle.granter.specs.GranterCalls.{Begins}
use Rattle.granter.specs.GranterInvariant.{GranterState}
use Rattle.granter.specs.GranterObjects.{meanings_of}
use Rattle.granter.specs.ObjectPoll.{BegunCall}
use Rattle.granter.specs.declared.grant.CallState.TheVariants.{Waiting}
use Rattle.granter.specs.GranterView.{granter_view}
use Rattle.granter.proofs.GranterBegins.{granter-begun, begins}
use Rattle.granter.proofs.granter.Granter.grant.Goals as goal

pub begin_call-requires-clause-above : goal.begin_call-requires-clause-above
begin_call-requires-clause-above g c = above-at c.self.inside.begun c.self.inside.desk.greatest c.args.handle c.self.invariant.numbers

pub invariant_of-self-2 : goal.invariant_of-self-2
invariant_of-self-2 g c =
    let m = meanings_of g.P.ProvideCredential g.G.GrantCredential in
    let s = granter_view c.self.inside in
    let begun : BegunCall = record { id = record { handle = c.args.handle; number = c.self.inside.begun }; head = tt; expires_in = c.args.expires_in } in
    granter-begun m s c.self.invariant begun c.begin_call.new.desk c.in_ok-begin_call.ensures.begun refl

pub returns-clause-ok : goal.returns-clause-ok
returns-clause-ok g c =
    let m = meanings_of g.P.ProvideCredential g.G.GrantCredential in
    let policy = policy_for g.P.Credential.SigningCredential g.G.DeadlineRule in
    let s = granter_view c.self.inside in
    let desk = c.begin_call.new.desk in
    let begun : BegunCall = record { id = record { handle = c.args.handle; number = c.self.inside.begun }; head = tt; expires_in = c.args.expires_in } in
    let there : c.args.handle < length s.desk.handles = subst (λ (x : GranterState g.row.P.Denot g.row.G.Denot g.row.P-Credential.Denot g.row.P-Ctx.Denot). c.args.handle < length x.desk.handles) (sym c.self.view_is) c.requires in (
      refl,
      refl,
      subst (λ (x : GranterState g.row.P.Denot g.row.G.Denot g.row.P-Credential.Denot g.row.P-Ctx.Denot). Begins m policy (record { old = x; new = record s { desk = desk; begun = s.begun + 1 } }) (record { begun = begun; state = Waiting })) c.self.view_is
          (begins m s c.self.invariant begun desk c.in_ok-begin_call.ensures.begun policy there refl c.in_ok-begin_call.ensures.step),
    )
