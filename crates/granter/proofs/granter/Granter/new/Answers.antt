use Rattle.std.proofs.Common.{◌≡◌, ◌∷◌, [], ◌∙◌, ap}
use Rattle.sequential_signer.specs.Policy.{policy_for}
use Rattle.sequential_signer.specs.Setup.{Setup}
use Rattle.desk_driver.specs.ProviderList.{loader_for}
use Rattle.desk_parts.specs.Tables.{setup_of}
use Rattle.granter.proofs.GranterSetup.{granter-new}
use Rattle.granter.proofs.granter.Granter.new.Goals as goal

pub invariant_of-result : goal.invariant_of-result
invariant_of-result g c =
    let policy = policy_for g.P.Credential.SigningCredential g.G.DeadlineRule in
    let setup : setup_of c.in-Ok.room.desk ≡ record { loaders = loader_for c.args.loader ∷ []; rules = []; handles = [] } = c.in-Ok.ensures.setup ∙ ap (λ l. let s : Setup g.row.G.Denot = record { loaders = l ∷ []; rules = []; handles = [] } in s) c.loader_of-loads.ensures in
    rw (c.in-Ok-add_rule_and_handle.ensures.added, c.push_reserved.ensures.items, c.in-Ok.ensures.providers.0, c.push_reserved-in-Ok-add_rule_and_handle.ensures.items, c.in-Ok.ensures.provider_places.0, c.push_reserved-in-Ok-add_rule_and_handle-2.ensures.items, c.in-Ok.ensures.contexts.0, c.push_reserved-in-Ok-add_rule_and_handle-3.ensures.items, c.in-Ok.ensures.places.0)
    (granter-new policy c.in-Ok.room.desk c.args.loader c.args.ctx c.args.granter c.requires setup c.in-Ok.ensures.fresh)
