-- What a step does to the caches, where it stores a credential.
use Rattle.std.specs.Prelude.{◌≡◌, ◌<◌, Some, IsSomeAnd, length, slice_set}
use Rattle.sign_base.specs.declared.call_id.CallId.{CallId}
use Rattle.sequential_signer.specs.Setup.{cache_of}
use Rattle.desk_parts.specs.Tables.{DeskTables, setup_of}

-- the call's cache holds this credential, and the other caches hold what they held
abbrev pub Caches : {K D Q H : Type 0} → CallId → K → DeskTables K D Q H → DeskTables K D Q H → Type 0
Caches call credential old new =
    IsSomeAnd (cache_of (setup_of old) call)
    (λ i. (i < length old.caches) × (new.caches ≡ slice_set old.caches i (Some credential)))
