use Rattle.std.proofs.Common.{IsSome, slice_get, refl, sym, ◌∙◌, ap, subst}
use Rattle.desk_driver.specs.CallAt.{IsLive}
use Rattle.desk_driver.specs.CallNumbers.{is_above_all}
use Rattle.desk_driver.proofs.Rows.{for-there}
use Rattle.granter.specs.GranterObjects.{meanings_of, objects_of}
use Rattle.desk_driver.specs.Meanings.{call_meaning}
use Rattle.granter.specs.IssuedBy.{IsStateIssued, IsGrantIssuedBy}
use Rattle.granter.specs.GranterView.{granter_view}
use Rattle.granter.proofs.GranterObjectsAt.{has-objects}
use Rattle.granter.proofs.GranterOthers.{keeps-others, issued-live}
use Rattle.granter.proofs.GranterSetup.{granter-desk}
use Rattle.granter.proofs.granter.Granter.cancel.Goals as goal

pub cancel_call-requires-clause-there : goal.cancel_call-requires-clause-there
cancel_call-requires-clause-there g c =
    let m = meanings_of g.P.ProvideCredential g.G.GrantCredential in
    let handle = c.args.grant.begun.id.handle in
    let s = granter_view c.self.inside in
    for-there (objects_of s handle) (λ o. IsStateIssued (call_meaning m c.args.grant.begun o) c.args.grant.begun s.desk c.args.grant.state)
    (IsSome (slice_get s.desk.handles handle))
    (subst (λ x. IsGrantIssuedBy m x c.args.grant) (sym c.self.view_is) c.requires)
    (λ o is state.
    let h = has-objects s handle o is in
    subst (λ x. IsSome x) (sym h.handle_is) refl)

pub cancel_call-requires-clause-live : goal.cancel_call-requires-clause-live
cancel_call-requires-clause-live g c =
    let m = meanings_of g.P.ProvideCredential g.G.GrantCredential in
    let handle = c.args.grant.begun.id.handle in
    let s = granter_view c.self.inside in
    for-there (objects_of s handle) (λ o. IsStateIssued (call_meaning m c.args.grant.begun o) c.args.grant.begun s.desk c.args.grant.state)
    (IsLive c.args.grant.begun s.desk)
    (subst (λ x. IsGrantIssuedBy m x c.args.grant) (sym c.self.view_is) c.requires)
    (λ o is state.
    issued-live (call_meaning m c.args.grant.begun o) c.args.grant.begun s.desk c.args.grant.state state)

pub invariant_of-self : goal.invariant_of-self
invariant_of-self g c =
    let l = c.cancel_call.ensures.others in
    let s = granter_view c.self.inside in
    granter-desk s c.self.invariant c.cancel_call.new.desk s.begun l.loaders l.rules l.handles (ap (is_above_all s.begun) l.greatest ∙ c.self.invariant.numbers)

pub returns-clause-others : goal.returns-clause-others
returns-clause-others g c = λ other apart issued.
    let m = meanings_of g.P.ProvideCredential g.G.GrantCredential in
    let handle = c.args.grant.begun.id.handle in
    let s = granter_view c.self.inside in
    keeps-others m c.args.grant.begun.id s c.cancel_call.new.desk c.cancel_call.ensures.others other apart (subst (λ x. IsGrantIssuedBy m x other) (sym c.self.view_is) issued)
