use Rattle.std.proofs.Common.{◌≡◌, ◌<◌, Some, length, option_map, slice_get, sym, ◌∙◌, ap, subst}
use Rattle.sequential_signer.specs.Setup.{Handle}
use Rattle.desk_parts.specs.TablesView.{handle_view}
use Rattle.granter.specs.GranterInvariant.{GranterState}
use Rattle.granter.specs.GranterView.{granter_view}
use Rattle.granter.proofs.GranterSetup.{context-read, granter-service}
use Rattle.granter.proofs.granter.Granter.with_credential_granter.Goals as goal

pub invariant_of-self-2 : goal.invariant_of-self-2
invariant_of-self-2 g c =
    let s = granter_view c.self.inside in
    let like : Handle = handle_view c.unwrap-like.result in
    let there : slice_get s.desk.handles c.args.handle ≡ Some like = sym c.handle_at.ensures ∙ ap (option_map handle_view) c.unwrap-like.ensures in
    let few : length s.desk.handles < 4294967295 = subst (λ (x : GranterState g.row.P.Denot g.row.G.Denot g.row.P-Credential.Denot g.row.P-Ctx.Denot). length x.desk.handles < 4294967295) (sym c.self.view_is) c.requires.room in
    let handle : c.args.handle < length s.desk.handles = subst (λ (x : GranterState g.row.P.Denot g.row.G.Denot g.row.P-Credential.Denot g.row.P-Ctx.Denot). c.args.handle < length x.desk.handles) (sym c.self.view_is) c.requires.handle in
    let place : c.index-place.result.now < length s.contexts = context-read s c.self.invariant c.args.handle handle c.index-place.result.now c.index-place.result.now c.index-place.ensures in
    rw (c.in_ok-number.ensures.added, c.make_room.ensures.providers, c.make_room.ensures.provider_places, c.push_reserved.ensures.items, c.make_room.ensures.contexts, c.make_room.ensures.places)
    (granter-service s c.self.invariant c.args.handle like there few c.index-place.result.now place c.args.granter)
