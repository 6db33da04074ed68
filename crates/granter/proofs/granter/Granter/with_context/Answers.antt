use Rattle.std.proofs.Common.{◌≡◌, ◌<◌, Some, length, option_map, slice_get, refl, sym, ◌∙◌, ap, subst, slice_index}
use Rattle.sequential_signer.specs.Setup.{Handle}
use Rattle.desk_parts.specs.TablesView.{handle_view}
use Rattle.granter.specs.GranterInvariant.{GranterState, with_context_handle}
use Rattle.std.proofs.lemmas.Option.{get_or_from_slice_get}
use Rattle.desk_driver.specs.ProviderList.{loader_for}
use Rattle.granter.specs.GranterView.{granter_view}
use Rattle.granter.proofs.GranterSetup.{provider-read, read-at, its-cache, granter-context, if-some}
use Rattle.granter.proofs.granter.Granter.with_context.Goals as goal

pub invariant_of-self-in-Ok : goal.invariant_of-self-in-Ok
invariant_of-self-in-Ok g c =
    let s = granter_view c.self.inside in
    let like : Handle = handle_view c.unwrap-like.result in
    let there : slice_get s.desk.handles c.args.handle ≡ Some like = sym c.handle_at.ensures ∙ ap (option_map handle_view) c.unwrap-like.ensures in
    let few : length s.desk.handles < 4294967295 = subst (λ (x : GranterState g.row.P.Denot g.row.G.Denot g.row.P-Credential.Denot g.row.P-Ctx.Denot). length x.desk.handles < 4294967295) (sym c.self.view_is) c.requires.room in
    let has : c.index-place.result.now < length s.providers = provider-read s c.self.invariant like.cache (its-cache s c.self.invariant c.args.handle like there) c.index-place.result.now c.index-place.result.now c.index-place.ensures in
    let at : slice_get s.providers c.index-place.result.now ≡ Some c.index.result.now = read-at s.providers c.index-place.result.now c.index.result.now c.index.result.now has (rw (sym c.make_room.ensures.providers) c.index.ensures) in
    let place : c.len.result ≡ length s.contexts = c.len.ensures ∙ c.make_room.new.contexts.ok.0 ∙ ap length c.make_room.ensures.contexts in
    rw (c.in-Ok.ensures.added, c.make_room.ensures.providers, c.push_reserved.ensures.items, c.make_room.ensures.provider_places, c.push_reserved-in-Ok-2.ensures.items, c.make_room.ensures.contexts, c.push_reserved-in-Ok.ensures.items, c.make_room.ensures.places, place, c.loader_of-loads.ensures)
    (granter-context s c.self.invariant c.args.handle like there few c.index-place.result.now c.index.result.now at has c.args.ctx)

pub returns-in-Ok-clause-added : goal.returns-in-Ok-clause-added
returns-in-Ok-clause-added g c =
    let s = granter_view c.self.inside in
    let like : Handle = handle_view c.unwrap-like.result in
    let there : slice_get s.desk.handles c.args.handle ≡ Some like = sym c.handle_at.ensures ∙ ap (option_map handle_view) c.unwrap-like.ensures in
    let few : length s.desk.handles < 4294967295 = subst (λ (x : GranterState g.row.P.Denot g.row.G.Denot g.row.P-Credential.Denot g.row.P-Ctx.Denot). length x.desk.handles < 4294967295) (sym c.self.view_is) c.requires.room in
    let has : c.index-place.result.now < length s.providers = provider-read s c.self.invariant like.cache (its-cache s c.self.invariant c.args.handle like there) c.index-place.result.now c.index-place.result.now c.index-place.ensures in
    let at : slice_get s.providers c.index-place.result.now ≡ Some c.index.result.now = read-at s.providers c.index-place.result.now c.index.result.now c.index.result.now has (rw (sym c.make_room.ensures.providers) c.index.ensures) in
    let placed : slice_get s.provider_places like.cache ≡ Some c.index-place.result.now = read-at s.provider_places like.cache c.index-place.result.now c.index-place.result.now (rw c.self.invariant.provider_places (its-cache s c.self.invariant c.args.handle like there)) c.index-place.ensures in
    let loads : slice_get s.desk.loaders like.cache ≡ Some (loader_for c.index.result.now) = c.self.invariant.loaders like.cache ∙ rw placed (ap (option_map loader_for) at) in
    let place : c.len.result ≡ length s.contexts = c.len.ensures ∙ c.make_room.new.contexts.ok.0 ∙ ap length c.make_room.ensures.contexts in
    let read : slice_index s.provider_places like.cache ≡ c.index-place.result.now = get_or_from_slice_get s.provider_places like.cache c.index-place.result.now 0 placed in
    let after : GranterState g.row.P.Denot g.row.G.Denot g.row.P-Credential.Denot g.row.P-Ctx.Denot = record { desk = c.add_cache_and_handle.new.self; providers = c.make_room.new.providers.items; provider_places = c.push_reserved.new.self.items; contexts = c.push_reserved-in-Ok-2.new.self.items; context_places = c.push_reserved-in-Ok.new.self.items; begun = c.self.inside.begun } in
    let is : after ≡ with_context_handle like (loader_for c.index.result.now) (slice_index s.provider_places like.cache) c.args.ctx s = rw (c.in-Ok.ensures.added, c.make_room.ensures.providers, c.push_reserved.ensures.items, c.make_room.ensures.provider_places, c.push_reserved-in-Ok-2.ensures.items, c.make_room.ensures.contexts, c.push_reserved-in-Ok.ensures.items, c.make_room.ensures.places, place, c.loader_of-loads.ensures, read) refl in
    rw (← c.self.view_is)
    (if-some _ like _ there (if-some _ (loader_for c.index.result.now) _ loads is))
