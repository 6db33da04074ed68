use Rattle.std.proofs.Common.{◌≡◌, Option, Some, refl, sym, ◌∙◌, ap, subst}
use Rattle.sequential_signer.specs.Policy.{policy_for}
use Rattle.desk_driver.specs.CallAt.{loader_of}
use Rattle.desk_driver.specs.ProviderList.{loader_for}
use Rattle.desk_driver.specs.CallNumbers.{is_above_all}
use Rattle.desk_driver.proofs.Rows.{for-there, index-is, cache-is}
use Rattle.granter.specs.PollEvents.{polled_call, IsDriven, IsGrantPoll}
use Rattle.granter.specs.GranterCalls.{IsAnswerIssuedBy}
use Rattle.granter.specs.GranterInvariant.{GranterState, IsGranter}
use Rattle.granter.specs.GranterObjects.{meanings_of, objects_of}
use Rattle.desk_driver.specs.Meanings.{call_meaning}
use Rattle.desk_driver.specs.Objects.{Objects}
use Rattle.granter.specs.IssuedBy.{IsStateIssued, IsGrantIssuedBy}
use Rattle.granter.specs.GranterView.{granter_view}
use Rattle.granter.proofs.GranterObjectsAt.{has-objects, loads-by, serves-by}
use Rattle.granter.proofs.GranterOthers.{keeps-others, answer-issued}
use Rattle.granter.proofs.GranterSetup.{granter-desk}
use Rattle.granter.proofs.CourseOfSteps.{course-represents}
use Rattle.granter.proofs.granter.Granter.poll.Goals as goal

pub drive-requires-clause-loads : goal.drive-requires-clause-loads
drive-requires-clause-loads g c =
    let m = meanings_of g.P.ProvideCredential g.G.GrantCredential in
    let handle = c.args.grant.begun.id.handle in
    let s = granter_view c.self.inside in
    for-there (objects_of s handle) (λ o. IsStateIssued (call_meaning m c.args.grant.begun o) c.args.grant.begun s.desk c.args.grant.state)
    (loader_of c.self.inside.desk handle ≡ Some (loader_for c.index.result.now))
    (subst (λ x. IsGrantIssuedBy m x c.args.grant) (sym c.self.view_is) c.requires)
    (λ o is state.
    let h = has-objects s handle o is in
    let cache : c.unwrap-cache.result ≡ h.at.cache = cache-is _ h.at c.cache_of.result c.unwrap-cache.result h.handle_is c.cache_of.ensures c.unwrap-cache.ensures in
    let from : c.index-provider_place.result.now ≡ h.provider_place = index-is c.self.inside.provider_places.items c.unwrap-cache.result h.at.cache h.provider_place c.index-provider_place.result.now c.index-provider_place.result.now h.provider_place_is cache c.index-provider_place.ensures in
    let providers : c.index.result.now ≡ o.providers = index-is c.self.inside.providers.items c.index-provider_place.result.now h.provider_place o.providers c.index.result.now c.index.result.now h.providers_is from c.index.ensures in
    subst (λ p. loader_of c.self.inside.desk handle ≡ Some (loader_for p)) (sym providers) (loads-by s handle o h c.self.invariant.loaders))

pub drive-requires-clause-issued : goal.drive-requires-clause-issued
drive-requires-clause-issued g c = λ service found.
    let m = meanings_of g.P.ProvideCredential g.G.GrantCredential in
    let handle = c.args.grant.begun.id.handle in
    let s = granter_view c.self.inside in
    for-there (objects_of s handle) (λ o. IsStateIssued (call_meaning m c.args.grant.begun o) c.args.grant.begun s.desk c.args.grant.state)
    (IsStateIssued (call_meaning m c.args.grant.begun (let q : Objects g.row.P.Denot g.row.G.Denot g.row.P-Ctx.Denot = record { providers = c.index.result.now; ctx = c.index-2.result.now; service = service } in q)) c.args.grant.begun c.self.inside.desk c.args.grant.state)
    (subst (λ x. IsGrantIssuedBy m x c.args.grant) (sym c.self.view_is) c.requires)
    (λ o is state.
    let h = has-objects s handle o is in
    let cache : c.unwrap-cache.result ≡ h.at.cache = cache-is _ h.at c.cache_of.result c.unwrap-cache.result h.handle_is c.cache_of.ensures c.unwrap-cache.ensures in
    let from : c.index-provider_place.result.now ≡ h.provider_place = index-is c.self.inside.provider_places.items c.unwrap-cache.result h.at.cache h.provider_place c.index-provider_place.result.now c.index-provider_place.result.now h.provider_place_is cache c.index-provider_place.ensures in
    let providers : c.index.result.now ≡ o.providers = index-is c.self.inside.providers.items c.index-provider_place.result.now h.provider_place o.providers c.index.result.now c.index.result.now h.providers_is from c.index.ensures in
    let place : c.index-place.result.now ≡ h.place = index-is c.self.inside.context_places.items handle handle h.place c.index-place.result.now c.index-place.result.now h.place_is refl c.index-place.ensures in
    let ctx : c.index-2.result.now ≡ o.ctx = index-is c.self.inside.contexts.items c.index-place.result.now h.place o.ctx c.index-2.result.now c.index-2.result.now h.ctx_is place c.index-2.ensures in
    let serves : (let x : Option g.row.G.Denot = Some service in x) ≡ Some o.service = sym found ∙ serves-by s handle o h in
    let same : service ≡ o.service = cc in
    subst (λ p. IsStateIssued (call_meaning m c.args.grant.begun (let q : Objects g.row.P.Denot g.row.G.Denot g.row.P-Ctx.Denot = record { providers = p; ctx = c.index-2.result.now; service = service } in q)) c.args.grant.begun c.self.inside.desk c.args.grant.state) (sym providers)
    (subst (λ x. IsStateIssued (call_meaning m c.args.grant.begun (let q : Objects g.row.P.Denot g.row.G.Denot g.row.P-Ctx.Denot = record { providers = o.providers; ctx = x; service = service } in q)) c.args.grant.begun c.self.inside.desk c.args.grant.state) (sym ctx)
    (subst (λ r. IsStateIssued (call_meaning m c.args.grant.begun (let q : Objects g.row.P.Denot g.row.G.Denot g.row.P-Ctx.Denot = record { providers = o.providers; ctx = o.ctx; service = r } in q)) c.args.grant.begun c.self.inside.desk c.args.grant.state) (sym same) state)))

pub invariant_of-self : goal.invariant_of-self
invariant_of-self g c =
    let m = meanings_of g.P.ProvideCredential g.G.GrantCredential in
    let handle = c.args.grant.begun.id.handle in
    let s = granter_view c.self.inside in
    for-there (objects_of s handle) (λ o. IsStateIssued (call_meaning m c.args.grant.begun o) c.args.grant.begun s.desk c.args.grant.state)
    (IsGranter (let x : GranterState g.row.P.Denot g.row.G.Denot g.row.P-Credential.Denot g.row.P-Ctx.Denot = record s { desk = c.drive.new.desk } in x))
    (subst (λ x. IsGrantIssuedBy m x c.args.grant) (sym c.self.view_is) c.requires)
    (λ o is state.
    let h = has-objects s handle o is in
    let l = (c.drive.ensures o.service (serves-by s handle o h)).others in
    granter-desk s c.self.invariant c.drive.new.desk s.begun l.loaders l.rules l.handles (ap (is_above_all s.begun) l.greatest ∙ c.self.invariant.numbers))

pub returns-clause-poll : goal.returns-clause-poll
returns-clause-poll g c = λ o is.
    let m = meanings_of g.P.ProvideCredential g.G.GrantCredential in
    let handle = c.args.grant.begun.id.handle in
    let s = granter_view c.self.inside in
    let policy = policy_for g.P.Credential.SigningCredential g.G.DeadlineRule in
    let h = has-objects s handle o (ap (λ x. objects_of x handle) c.self.view_is ∙ is) in
    let cache : c.unwrap-cache.result ≡ h.at.cache = cache-is _ h.at c.cache_of.result c.unwrap-cache.result h.handle_is c.cache_of.ensures c.unwrap-cache.ensures in
    let from : c.index-provider_place.result.now ≡ h.provider_place = index-is c.self.inside.provider_places.items c.unwrap-cache.result h.at.cache h.provider_place c.index-provider_place.result.now c.index-provider_place.result.now h.provider_place_is cache c.index-provider_place.ensures in
    let providers : c.index.result.now ≡ o.providers = index-is c.self.inside.providers.items c.index-provider_place.result.now h.provider_place o.providers c.index.result.now c.index.result.now h.providers_is from c.index.ensures in
    let place : c.index-place.result.now ≡ h.place = index-is c.self.inside.context_places.items handle handle h.place c.index-place.result.now c.index-place.result.now h.place_is refl c.index-place.ensures in
    let ctx : c.index-2.result.now ≡ o.ctx = index-is c.self.inside.contexts.items c.index-place.result.now h.place o.ctx c.index-2.result.now c.index-2.result.now h.ctx_is place c.index-2.ensures in
    let by_ctx = subst (λ x. IsDriven (polled_call policy g.P.Credential.SigningCredential.clones_freely m (let q : Objects g.row.P.Denot g.row.G.Denot g.row.P-Ctx.Denot = record { providers = c.index.result.now; ctx = x; service = o.service } in q) c.args.grant.begun c.args.now) c.args.grant.state s.desk c.drive.new.desk c.drive.result) ctx
    (c.drive.ensures o.service (serves-by s handle o h)) in
    let by_all = subst (λ p. IsDriven (polled_call policy g.P.Credential.SigningCredential.clones_freely m (let q : Objects g.row.P.Denot g.row.G.Denot g.row.P-Ctx.Denot = record { providers = p; ctx = o.ctx; service = o.service } in q) c.args.grant.begun c.args.now) c.args.grant.state s.desk c.drive.new.desk c.drive.result) providers by_ctx in
    let poll : IsGrantPoll (polled_call policy g.P.Credential.SigningCredential.clones_freely m o c.args.grant.begun c.args.now) c.args.grant.state s.desk c.drive.new.desk c.drive.result = record {
      driven = by_all;
      represents = λ entries stood. course-represents (polled_call policy g.P.Credential.SigningCredential.clones_freely m o c.args.grant.begun c.args.now) c.args.grant.state s.desk c.drive.new.desk by_all.run by_all.course entries stood;
    } in
    subst (λ (x : GranterState g.row.P.Denot g.row.G.Denot g.row.P-Credential.Denot g.row.P-Ctx.Denot). IsGrantPoll (polled_call policy g.P.Credential.SigningCredential.clones_freely m o c.args.grant.begun c.args.now) c.args.grant.state x.desk c.drive.new.desk c.drive.result) c.self.view_is poll

pub returns-clause-issued : goal.returns-clause-issued
returns-clause-issued g c =
    let m = meanings_of g.P.ProvideCredential g.G.GrantCredential in
    let handle = c.args.grant.begun.id.handle in
    let s = granter_view c.self.inside in
    for-there (objects_of s handle) (λ o. IsStateIssued (call_meaning m c.args.grant.begun o) c.args.grant.begun s.desk c.args.grant.state)
    (IsAnswerIssuedBy m (record s { desk = c.drive.new.desk }) c.args.grant.begun.id c.drive.result)
    (subst (λ x. IsGrantIssuedBy m x c.args.grant) (sym c.self.view_is) c.requires)
    (λ o is state.
    let policy = policy_for g.P.Credential.SigningCredential g.G.DeadlineRule in
    let h = has-objects s handle o is in
    let cache : c.unwrap-cache.result ≡ h.at.cache = cache-is _ h.at c.cache_of.result c.unwrap-cache.result h.handle_is c.cache_of.ensures c.unwrap-cache.ensures in
    let from : c.index-provider_place.result.now ≡ h.provider_place = index-is c.self.inside.provider_places.items c.unwrap-cache.result h.at.cache h.provider_place c.index-provider_place.result.now c.index-provider_place.result.now h.provider_place_is cache c.index-provider_place.ensures in
    let providers : c.index.result.now ≡ o.providers = index-is c.self.inside.providers.items c.index-provider_place.result.now h.provider_place o.providers c.index.result.now c.index.result.now h.providers_is from c.index.ensures in
    let place : c.index-place.result.now ≡ h.place = index-is c.self.inside.context_places.items handle handle h.place c.index-place.result.now c.index-place.result.now h.place_is refl c.index-place.ensures in
    let ctx : c.index-2.result.now ≡ o.ctx = index-is c.self.inside.contexts.items c.index-place.result.now h.place o.ctx c.index-2.result.now c.index-2.result.now h.ctx_is place c.index-2.ensures in
    let by_ctx = subst (λ x. IsDriven (polled_call policy g.P.Credential.SigningCredential.clones_freely m (let q : Objects g.row.P.Denot g.row.G.Denot g.row.P-Ctx.Denot = record { providers = c.index.result.now; ctx = x; service = o.service } in q) c.args.grant.begun c.args.now) c.args.grant.state s.desk c.drive.new.desk c.drive.result) ctx
    (c.drive.ensures o.service (serves-by s handle o h)) in
    let by_all = subst (λ p. IsDriven (polled_call policy g.P.Credential.SigningCredential.clones_freely m (let q : Objects g.row.P.Denot g.row.G.Denot g.row.P-Ctx.Denot = record { providers = p; ctx = o.ctx; service = o.service } in q) c.args.grant.begun c.args.now) c.args.grant.state s.desk c.drive.new.desk c.drive.result) providers by_ctx in
    answer-issued m s c.drive.new.desk c.args.grant.begun o by_all.others is c.drive.result by_all.issued)

pub returns-clause-others : goal.returns-clause-others
returns-clause-others g c = λ other apart issued.
    let m = meanings_of g.P.ProvideCredential g.G.GrantCredential in
    let handle = c.args.grant.begun.id.handle in
    let s = granter_view c.self.inside in
    for-there (objects_of s handle) (λ o. IsStateIssued (call_meaning m c.args.grant.begun o) c.args.grant.begun s.desk c.args.grant.state)
    (IsGrantIssuedBy m (record s { desk = c.drive.new.desk }) other)
    (subst (λ x. IsGrantIssuedBy m x c.args.grant) (sym c.self.view_is) c.requires)
    (λ o is state.
    let h = has-objects s handle o is in
    let l = (c.drive.ensures o.service (serves-by s handle o h)).others in
    keeps-others m c.args.grant.begun.id s c.drive.new.desk l other apart (subst (λ x. IsGrantIssuedBy m x other) (sym c.self.view_is) issued))
