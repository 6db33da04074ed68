-- A signer as contracts see it, by its fields.
use Rattle.signer.specs.SignerInvariant.{SignerState}
use Rattle.signer.specs.declared.signer.Signer.TheInside.{Inside}

-- each row of the fields as a list
abbrev pub signer_view : {P S K C L W : Type 0} → Inside P S K C L W → SignerState P S K C
signer_view s = record {
  desk = s.desk;
  providers = s.providers.items;
  contexts = s.contexts.items;
  context_places = s.context_places.items;
  begun = s.begun;
  keys = s.keys;
}
