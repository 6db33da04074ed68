-- The places of a live call: its cache and its rule.
use Rattle.std.specs.Prelude.{ℕ, ◌<◌, length}
use Rattle.sequential_signer.specs.declared.event.Loader.{Loader}
use Rattle.sequential_signer.specs.declared.event.Loader.TheVariants.{Single, Chain}
use Rattle.desk_parts.specs.Tables.{DeskTables}

-- the tables have this cache and this rule
pub record HasPlaces {K D Q H : Type 0} (desk : DeskTables K D Q H) (cache rule : ℕ) : Type 0 where
  pub loader : cache < length desk.loaders
  pub cached : cache < length desk.caches
  pub queue : cache < length desk.queues
  pub rules : rule < length desk.rules

-- how many providers a loader asks at most
abbrev pub provider_count : Loader → ℕ
provider_count Single = 1
provider_count (Chain n) = n
