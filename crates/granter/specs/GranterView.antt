-- A granter as contracts see it, by its fields.
use Rattle.granter.specs.GranterInvariant.{GranterState}
use Rattle.granter.specs.declared.granter.Granter.TheInside.{Inside}

-- each row of the fields as a list
abbrev pub granter_view : {P G K C L W : Type 0} → Inside P G K C L W → GranterState P G K C
granter_view s = record {
  desk = s.desk;
  providers = s.providers.items;
  provider_places = s.provider_places.items;
  contexts = s.contexts.items;
  context_places = s.context_places.items;
  begun = s.begun;
}
