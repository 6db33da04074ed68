-- The providers that AWS's tools ask, in their order.
use Rattle.std.specs.Prelude.{◌≡◌, ⊤, List, ℕ, [], ◌∷◌, Option, None}
use Rattle.credentials.specs.declared.providers.Providers.{Providers}
use Rattle.credentials.specs.declared.providers.Providers.TheVariants as providers
use Rattle.aws_credentials.specs.declared.environment.EnvironmentProvider.{EnvironmentProvider}
use Rattle.aws_profiles.specs.Reads.{Progress}
use Rattle.aws_process.specs.declared.profile_load.ProfileProcessLoad.{ProfileProcessLoad}
use Rattle.aws_endpoints.specs.declared.container.ContainerProvider.{ContainerProvider}
use Rattle.aws_endpoints.specs.declared.container.ContainerLoad.{ContainerLoad}
use Rattle.aws_instance.specs.declared.instance.InstanceProvider.{InstanceProvider}
use Rattle.aws_instance.specs.declared.instance_load.InstanceLoad.{InstanceLoad}
use Rattle.aws_chain.specs.declared.default_provider.DefaultProvider.{DefaultProvider}
use Rattle.aws_chain.specs.declared.default_provider.DefaultProvider.TheVariants as provider
use Rattle.aws_chain.specs.declared.default_provider.DefaultLoad.{DefaultLoad}
use Rattle.aws_chain.specs.declared.default_provider.DefaultLoad.TheVariants as load

-- the fact that is meant for a provider of this kind
abbrev pub ByProvider : {X : Type 0} → DefaultProvider X → (EnvironmentProvider X → Type 0)
    → (Option (List ℕ) → Type 0) → (Option (List ℕ) → Type 0) → (ContainerProvider X → Type 0)
    → (InstanceProvider X → Type 0) → Type 0
ByProvider (provider.Environment of) Environment Profile Process Container Instance = Environment of
ByProvider (provider.Profile of) Environment Profile Process Container Instance = Profile of
ByProvider (provider.Process of) Environment Profile Process Container Instance = Process of
ByProvider (provider.Container of) Environment Profile Process Container Instance = Container of
ByProvider (provider.Instance of) Environment Profile Process Container Instance = Instance of

-- the load is one of this provider, and has the fact that is meant for its kind
abbrev pub ByLoad : {X R P S : Type 0} → DefaultProvider X → DefaultLoad R P S
    → (Option (List ℕ) → Progress R → Type 0) → (Option (List ℕ) → ProfileProcessLoad R P → Type 0)
    → (ContainerProvider X → ContainerLoad S → Type 0) → (InstanceProvider X → InstanceLoad S → Type 0)
    → Type 0
ByLoad (provider.Environment of) load.Environment Profile Process Container Instance = ⊤
ByLoad (provider.Profile of) (load.Profile it) Profile Process Container Instance = Profile of it
ByLoad (provider.Process of) (load.Process it) Profile Process Container Instance = Process of it
ByLoad (provider.Container of) (load.Container it) Profile Process Container Instance = Container of it
ByLoad (provider.Instance of) (load.Instance it) Profile Process Container Instance = Instance of it
ByLoad another other Profile Process Container Instance = ⊥

-- first the environment, then the files, then the process of a profile, both of the profile that the
-- environment names, then the container, and last the instance
abbrev pub IsDefaultOrder : {X : Type 0} → Providers (DefaultProvider X) → Type 0
IsDefaultOrder (providers.Chain (provider.Environment a ∷ (provider.Profile chosen ∷ (provider.Process of
    ∷ (provider.Container b ∷ (provider.Instance c ∷ [])))))) = (chosen ≡ None) × (of ≡ None)
IsDefaultOrder other = ⊥
