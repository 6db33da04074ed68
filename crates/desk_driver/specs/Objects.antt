-- The objects that a call works with: those of its handle.
use Rattle.std.specs.Prelude.{Option, Some, None}
use Rattle.credentials.specs.declared.providers.Providers.{Providers}

-- its providers, its context and its service
pub record Objects (P S C : Type 0) : Type 0 where
  pub providers : Providers P
  pub ctx : C
  pub service : S

-- the objects, where each is there
abbrev pub objects_by : {P S C : Type 0} → Option (Providers P) → Option C → Option S → Option (Objects P S C)
objects_by (Some providers) (Some ctx) (Some service) =
    Some (record { providers = providers; ctx = ctx; service = service })
objects_by providers ctx service = None
