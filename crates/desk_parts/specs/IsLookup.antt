-- What a look at a cache gives, by how far the hold gets.
use Rattle.std.specs.Prelude.{◌≡◌, Option, Some}
use Rattle.sequential_signer.specs.Lookup.{HandOut, Refuse}
use Rattle.sequential_signer.specs.SequentialCall.{Progress, Asking, Over}
use Rattle.desk_parts.specs.declared.lookup.Lookup.{Lookup}
use Rattle.desk_parts.specs.declared.lookup.Lookup.TheVariants.{OutOfMemory, Miss, Hit, Refused}

-- the call loads, is handed the credential or runs out of memory for it, or is refused for this cause
abbrev pub IsLookup : {K : Type 0} → Option (Progress K) → Lookup K → Type 0
IsLookup (Some (Asking k)) Miss = k ≡ 0
IsLookup (Some (Over (HandOut c) cached)) (Hit d) = d ≡ c
IsLookup (Some (Over (HandOut c) cached)) OutOfMemory = Unit {0}
IsLookup (Some (Over (Refuse cause) cached)) (Refused why) = why ≡ cause
IsLookup _ _ = ⊥
