-- The providers of a cache, by their numbers.
use Rattle.std.specs.Prelude.{ℕ, zero, suc, ◌≤◌, Option, Some, None, length, slice_get}
use Rattle.credentials.specs.declared.providers.Providers.{Providers}
use Rattle.credentials.specs.declared.providers.Providers.TheVariants as providers
use Rattle.sequential_signer.specs.declared.event.Loader.{Loader}
use Rattle.sequential_signer.specs.declared.event.Loader.TheVariants.{Single, Chain}

-- how a desk loads a cache with these providers
abbrev pub loader_for : {P : Type 0} → Providers P → Loader
loader_for (providers.Single provider) = Single
loader_for (providers.Chain chain) = Chain (length chain)

-- a desk can number the providers
abbrev pub AreFew : {P : Type 0} → Providers P → Type 0
AreFew (providers.Single provider) = Unit {0}
AreFew (providers.Chain chain) = length chain ≤ 4294967295

-- the provider with this number
abbrev pub provider_at : {P : Type 0} → Providers P → ℕ → Option P
provider_at (providers.Single provider) zero = Some provider
provider_at (providers.Single provider) (suc n) = None
provider_at (providers.Chain chain) n = slice_get chain n
