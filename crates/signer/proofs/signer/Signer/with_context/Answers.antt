use Rattle.std.proofs.Common.{◌≡◌, ◌<◌, Some, length, option_map, slice_get, sym, ◌∙◌, ap, subst}
use Rattle.sequential_signer.specs.Setup.{Handle}
use Rattle.signer.specs.SignerInvariant.{SignerState}
use Rattle.desk_parts.specs.TablesView.{handle_view}
use Rattle.signer.specs.SignerView.{signer_view}
use Rattle.signer.proofs.SignerSetup.{signer-context}
use Rattle.signer.proofs.signer.Signer.with_context.Goals as goal

pub invariant_of-self-in-Ok : goal.invariant_of-self-in-Ok
invariant_of-self-in-Ok g c =
    let s = signer_view c.self.inside in
    let like : Handle = handle_view c.unwrap-like.result in
    let there : slice_get s.desk.handles c.args.handle ≡ Some like = sym c.handle_at.ensures ∙ ap (option_map handle_view) c.unwrap-like.ensures in
    let place : c.len.result ≡ length s.contexts = c.len.ensures ∙ c.make_room.new.contexts.ok.0 ∙ ap length c.make_room.ensures.contexts in
    rw (c.in-Ok.ensures.added, c.make_room.ensures.providers, c.push_reserved-in-Ok.ensures.items, c.make_room.ensures.contexts, c.push_reserved.ensures.items, c.make_room.ensures.places, place)
    (signer-context s c.self.invariant c.args.handle like there (subst (λ (x : SignerState g.row.P.Denot g.row.S.Denot g.row.P-Credential.Denot g.row.P-Ctx.Denot). length x.desk.handles < 4294967295) (sym c.self.view_is) c.requires.room) c.args.ctx)
